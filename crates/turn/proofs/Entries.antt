-- Lists of entries, and beginnings of them.
use Rattle.std.proofs.Common.{◌≡◌, ◌≢◌, ℕ, ◌+◌, ◌≤◌, Bool, true, false, eqb, eq-eqb, ne_eqb, cond, nat_lt, List, [], ◌∷◌, ◌++◌, length, drop, refl, sym, ap, ◌∙◌, subst, ⊎_elim, ◌⊎◌, arith, length-append}
use Rattle.std.proofs.Math.Seq.{drop-append_seam, drop-length}
use Rattle.std.proofs.lemmas.List.Elements.{filter-append}
use mathlib.Core.Logic.{dite}
use mathlib.Core.List.{append-nil, append_assoc, IsPrefix}
use native.Mathlib.Decide.{dec_lt}
use Rattle.turn.specs.Histories.{entries_by, Extends, MayFind, TakesTurn}
use Rattle.turn.specs.TurnRule.{longer}

module _ {E : Type 0} where
  pub prefix_refl : (xs : List E) → IsPrefix xs xs
  prefix_refl xs = ([], append-nil xs)

  pub prefix_trans : (xs ys zs : List E) → IsPrefix xs ys → IsPrefix ys zs → IsPrefix xs zs
  prefix_trans xs ys zs a b = (a.0 ++ b.0, sym (append_assoc xs a.0 b.0) ∙ (ap (λ (l : List E). l ++ b.0) a.1 ∙ b.1))

  pub prefix_longer : (log xs ys : List E) → IsPrefix xs log → IsPrefix ys log → IsPrefix (longer xs ys) log
  prefix_longer log xs ys a b = let P : Bool → Type 0 = λ t. IsPrefix (cond t ys xs) log in elim (nat_lt (length xs) (length ys)) as P [ true ↦ b | false ↦ a ]

  abbrev tail_of : List E → List E
  tail_of xs = elim xs as (λ _. List E) [ [] ↦ [] | x ∷ rest ↦ rest ]

  abbrev head_or : E → List E → E
  head_or d xs = elim xs as (λ _. E) [ [] ↦ d | x ∷ rest ↦ x ]

  -- a beginning is no longer than the list
  pub prefix_length : (xs ys : List E) → IsPrefix xs ys → length xs ≤ length ys
  prefix_length xs ys a = let n : length ys ≡ length (xs ++ a.0) = ap length (sym a.1) in let n' = length-append xs a.0 in omega arith

  -- a longer list has as many entries as the shorter one
  pub known_longer : (least : ℕ) (xs ys : List E) → IsPrefix xs ys → least ≤ length xs → least ≤ length ys
  known_longer least xs ys a l = let n = prefix_length xs ys a in omega arith

  begins : (xs ys r q : List E) → xs ++ r ≡ ys ++ q → length xs ≤ length ys → IsPrefix xs ys
  begins [] ys r q e l = (ys, refl)
  begins (x ∷ xs) [] r q e l = absurd (omega arith)
  begins (x ∷ xs) (y ∷ ys) r q e l = let same : x ≡ y = ap (head_or x) e in let more = begins xs ys r q (ap tail_of e) (omega arith) in (more.0, λ i. same i ∷ more.1 i)

  -- of two beginnings of one list the shorter begins the longer
  pub prefix_shorter : (log xs ys : List E) → IsPrefix xs log → IsPrefix ys log → length xs ≤ length ys → IsPrefix xs ys
  prefix_shorter log xs ys a b l = begins xs ys a.0 b.0 (a.1 ∙ sym b.1) l

  empty_of : (xs : List E) → length xs ≡ 0 → xs ≡ []
  empty_of [] e = refl
  empty_of (x ∷ xs) e = absurd (omega arith)

  -- the longer of two beginnings is the whole list, where one of them is
  pub longer_whole : (log xs ys : List E) → IsPrefix xs log → IsPrefix ys log → (xs ≡ log) ⊎ (ys ≡ log) → longer xs ys ≡ log
  longer_whole log xs ys a b whole =
      let m : length log ≡ length (xs ++ a.0) = ap length (sym a.1) in let n : length log ≡ length (ys ++ b.0) = ap length (sym b.1) in
      let m' = length-append xs a.0 in let n' = length-append ys b.0 in let P : Bool → Type 0 = λ t. cond t ys xs ≡ log in
      let full : (zs : List E) → (p : IsPrefix zs log) → length zs ≡ length log → zs ≡ log = λ zs p e.
      let k : length log ≡ length (zs ++ p.0) = ap length (sym p.1) in let k' = length-append zs p.0 in
      sym (append-nil zs) ∙ (ap (λ (l : List E). zs ++ l) (sym (empty_of p.0 (omega arith))) ∙ p.1) in
      dite (dec_lt (length xs) (length ys))
      (λ l. let t : nat_lt (length xs) (length ys) ≡ true = grind (arith, l) in subst P (sym t)
      (⊎_elim (λ (e : xs ≡ log). let k : length xs ≡ length log = ap length e in absurd (omega arith)) (λ (e : ys ≡ log). e) whole))
      (λ g. let t : nat_lt (length xs) (length ys) ≡ false = grind (arith, g) in subst P (sym t)
      (⊎_elim (λ (e : xs ≡ log). e) (λ (e : ys ≡ log). let k : length ys ≡ length log = ap length e in full xs a (omega arith)) whole))

module _ {E : Type 0} (number_of : E → ℕ) where
  pub entries_append : (p : ℕ) (xs ys : List E) → entries_by number_of p (xs ++ ys) ≡ entries_by number_of p xs ++ entries_by number_of p ys
  entries_append p xs ys = filter-append (λ (e : E). eqb (number_of e) p) xs ys

  one_other : (p : ℕ) (e : E) → number_of e ≢ p → entries_by number_of p (e ∷ []) ≡ []
  one_other p e n = ap (λ (b : Bool). cond b (e ∷ []) []) (ne_eqb (number_of e) p n)

  one_own : (p : ℕ) (e : E) → number_of e ≡ p → entries_by number_of p (e ∷ []) ≡ e ∷ []
  one_own p e n = ap (λ (b : Bool). cond b (e ∷ []) []) (eq-eqb (number_of e) p n)

  pub extends_prefix : (p : ℕ) (xs ys : List E) → Extends number_of p xs ys → IsPrefix xs ys
  extends_prefix p xs ys g = ⊎_elim (λ (e : ys ≡ xs). ([], append-nil xs ∙ sym e)) (λ (t : (e : E) × (number_of e ≡ p) × (ys ≡ xs ++ e ∷ [])). (t.0 ∷ [], sym t.2)) g

  -- under another number nothing comes
  pub extends_other : (p q : ℕ) (xs ys : List E) → q ≢ p → Extends number_of p xs ys → entries_by number_of q ys ≡ entries_by number_of q xs
  extends_other p q xs ys apart g = ⊎_elim (λ (e : ys ≡ xs). ap (entries_by number_of q) e)
      (λ (t : (e : E) × (number_of e ≡ p) × (ys ≡ xs ++ e ∷ [])). ap (entries_by number_of q) t.2 ∙ (entries_append q xs (t.0 ∷ [])
      ∙ (ap (λ (l : List E). entries_by number_of q xs ++ l) (one_other q t.0 (λ e. apart (sym e ∙ t.1))) ∙ append-nil (entries_by number_of q xs)))) g

  -- under its own number comes what is new
  pub extends_own : (p : ℕ) (xs ys : List E) → Extends number_of p xs ys → entries_by number_of p ys ≡ entries_by number_of p xs ++ drop (length xs) ys
  extends_own p xs ys g = ⊎_elim
      (λ (e : ys ≡ xs). ap (entries_by number_of p) e ∙ sym (ap (λ (l : List E). entries_by number_of p xs ++ drop (length xs) l) e ∙ (ap (λ (l : List E). entries_by number_of p xs ++ l) (drop-length xs) ∙ append-nil (entries_by number_of p xs))))
      (λ (t : (e : E) × (number_of e ≡ p) × (ys ≡ xs ++ e ∷ [])). ap (entries_by number_of p) t.2 ∙ (entries_append p xs (t.0 ∷ []) ∙ (ap (λ (l : List E). entries_by number_of p xs ++ l) (one_own p t.0 t.1)
      ∙ sym (ap (λ (l : List E). entries_by number_of p xs ++ drop (length xs) l) t.2 ∙ ap (λ (l : List E). entries_by number_of p xs ++ l) (drop-append_seam xs (t.0 ∷ [])))))) g

  -- where a beginning has all entries under p, so has each longer one
  entries_between : (p : ℕ) (log xs ys : List E) → IsPrefix ys log → IsPrefix xs ys → entries_by number_of p log ≡ entries_by number_of p xs → entries_by number_of p log ≡ entries_by number_of p ys
  entries_between p log xs ys a b e = let F : List E → List E = entries_by number_of p in
      let one : F ys ≡ F xs ++ F b.0 = ap F (sym b.1) ∙ entries_append p xs b.0 in
      let two : F log ≡ F ys ++ F a.0 = ap F (sym a.1) ∙ entries_append p ys a.0 in
      let l1 : length (F ys) ≡ length (F xs) + length (F b.0) = ap length one ∙ length-append (F xs) (F b.0) in
      let l2 : length (F log) ≡ length (F ys) + length (F a.0) = ap length two ∙ length-append (F ys) (F a.0) in
      let l3 : length (F log) ≡ length (F xs) = ap length e in
      let none : F b.0 ≡ [] = empty_of (F b.0) (omega arith) in
      e ∙ sym (one ∙ (ap (λ (l : List E). F xs ++ l) none ∙ append-nil (F xs)))

  pub entries_longer : (p : ℕ) (log xs ys : List E) → IsPrefix xs log → IsPrefix ys log → entries_by number_of p log ≡ entries_by number_of p xs → entries_by number_of p log ≡ entries_by number_of p (longer xs ys)
  entries_longer p log xs ys a b e = let P : Bool → Type 0 = λ t. entries_by number_of p log ≡ entries_by number_of p (cond t ys xs) in dite (dec_lt (length xs) (length ys))
      (λ l. let t : nat_lt (length xs) (length ys) ≡ true = grind (arith, l) in subst P (sym t) (entries_between p log xs ys b (prefix_shorter log xs ys a b (omega arith)) e))
      (λ n. let t : nat_lt (length xs) (length ys) ≡ false = grind (arith, n) in subst P (sym t) e)

  -- a beginning of a list with no entry under p has none
  pub entries_none : (p : ℕ) (log xs : List E) → IsPrefix xs log → entries_by number_of p log ≡ [] → entries_by number_of p xs ≡ []
  entries_none p log xs a e = let F : List E → List E = entries_by number_of p in let one : F log ≡ F xs ++ F a.0 = ap F (sym a.1) ∙ entries_append p xs a.0 in
      let l1 : length (F log) ≡ length (F xs) + length (F a.0) = ap length one ∙ length-append (F xs) (F a.0) in
      let l2 : length (F log) ≡ 0 = ap length e in empty_of (F xs) (omega arith)

  -- what others added before a turn has no entry under the number
  pub none_between : (p : ℕ) (seen : List E) (least : ℕ) (found : List E) → (may : MayFind number_of p seen least found) → entries_by number_of p may.begins.0 ≡ []
  none_between p seen least found may = let F : List E → List E = entries_by number_of p in let rest = may.begins.0 in
      let one : F found ≡ F seen ++ F rest = ap F (sym may.begins.1) ∙ entries_append p seen rest in
      let l1 : length (F found) ≡ length (F seen) + length (F rest) = ap length one ∙ length-append (F seen) (F rest) in
      let l2 : length (F found) ≡ length (F seen) = ap length may.own in empty_of (F rest) (omega arith)

  -- a turn that found a list and extended it
  pub turn_taken : (p : ℕ) (seen : List E) (least : ℕ) (found seen' : List E) (act : List E → List E → Type 0) → MayFind number_of p seen least found → act found seen' → Extends number_of p found seen' → TakesTurn number_of p seen least act seen'
  turn_taken p seen least found seen' act may acted extends = record {
    found = found;
    may_find = may;
    acted = acted;
    extends = extends;
    longer = prefix_trans seen found seen' may.begins (extends_prefix p found seen' extends);
    own = extends_own p found seen' extends ∙ ap (λ (l : List E). l ++ drop (length found) seen') may.own;
  }
