-- What the turn rule says of the table at its end, and of the passes whose seats were joined.
use Rattle.std.proofs.Common.{◌≡◌, ◌≢◌, ℕ, ◌≤◌, zero, suc, Bool, true, false, cond, nat_lt, max, List, [], ◌∷◌, ◌++◌, length, map, refl, sym, ap, ◌∙◌, subst, ⊎_elim, arith, Option, Some}
use Rattle.std.specs.Prelude.{sum_by, All}
use Rattle.std.proofs.lemmas.Bool.Decides.{nat_tests}
use Rattle.std.proofs.lemmas.List.Sums.{sum_by-cons}
use Rattle.std.proofs.lemmas.List.Elements.{All-nil, All-cons, All-head, All-tail, All-push}
use mathlib.Core.Logic.{dite}
use mathlib.Core.List.{IsPrefix}
use native.Mathlib.Decide.{ℕ_discrete}
use mathlib.Core.Option.{some, some-injective, some-ne-none}
use lib.ListN.{get_elem?}
use Rattle.atomic_table.specs.Table.{State, Final, Seen}
use Rattle.turn.specs.Histories.{entries_by}
use Rattle.turn.specs.TurnRule.{times, is_live, numbers_of, SomeTurn, IsHome, TurnRule, IsWhole, end_of_pass}
use Rattle.turn.specs.Passes.{Pass, HaveSeen, IsAllOf, WereTold}
use Rattle.turn.specs.declared.rule.View.{View}
use Rattle.turn.specs.declared.rule.Ended.{Ended}
use Rattle.turn.proofs.Places.{true_false, sum_one, sum_two, ended_numbers, live_numbers, times_else}

-- the sum is at one place, where the whole is no more than that
sum_alone : {A : Type 0} (m f : A → ℕ) (vs : List A) (id : ℕ) (v : A) → ((x : A) → m x ≡ 0 → f x ≡ 0) → get_elem? vs id ≡ some v → sum_by m vs ≤ m v → sum_by f vs ≡ f v
sum_alone m f [] id v small e le = absurd (some-ne-none v (sym e))
sum_alone m f (x ∷ xs) zero v small e le = let same : x ≡ v = some-injective x v e in let h : m x ≡ m v = ap m same in let k : f x ≡ f v = ap f same in
    let c = sum_by-cons m x xs in let d = sum_by-cons f x xs in let z = none m f xs small (omega arith) in omega arith where
      none : {A : Type 0} (m f : A → ℕ) (vs : List A) → ((x : A) → m x ≡ 0 → f x ≡ 0) → sum_by m vs ≡ 0 → sum_by f vs ≡ 0
      none m f [] small z = refl
      none m f (x ∷ xs) small z = let c = sum_by-cons m x xs in let d = sum_by-cons f x xs in let a = small x (omega arith) in let b = none m f xs small (omega arith) in omega arith
sum_alone m f (x ∷ xs) (suc id) v small e le = let c = sum_by-cons m x xs in let d = sum_by-cons f x xs in let h = sum_one m xs id v e in let a = small x (omega arith) in
    let b = sum_alone m f xs id v small e (omega arith) in omega arith

no_numbers : (q : ℕ) (ns : List ℕ) → length ns ≡ 0 → times q ns ≡ 0
no_numbers q [] z = refl
no_numbers q (n ∷ ns) z = absurd (omega arith)

module _ {O E : Type 0} where
  -- one more pass was told of some entries, and the seat of all of the greatest number
  pub told_more : (n : ℕ) (passes : List (Pass O E)) (p : Pass O E) → All (λ (q : Pass O E). q.known ≤ n) passes → All (λ (q : Pass O E). q.known ≤ max n p.known) (passes ++ p ∷ [])
  told_more n passes p all = All-push (λ (q : Pass O E). q.known ≤ max n p.known) passes p (λ k d inside. let h = all k d inside in omega arith) (omega arith)

  pub told_all : (n : ℕ) (log : List E) (passes : List (Pass O E)) (last : Pass O E) → n ≤ length log → All (λ (q : Pass O E). q.known ≤ n) passes → last.known ≤ n → WereTold (passes ++ last ∷ []) log
  told_all n log passes last few all one = All-push (λ (q : Pass O E). q.known ≤ length log) passes last (λ k d inside. let h = all k d inside in omega arith) (omega arith)

module _ {O E S : Type 0} (list : S → List E) (opening_of : S → O) (number_of : E → ℕ) where
  pub ends : (o : O) (seats : ℕ) (s : State (Option S) (View O E)) (id : ℕ) (v : View O E) → TurnRule list opening_of number_of o seats s → get_elem? s.views id ≡ some v → is_live v ≡ true → v.turn ≡ false → seats ≤ length (numbers_of v)
      → (y : S) × (get_elem? s.homes 0 ≡ some (some (Some y))) × IsWhole list opening_of number_of o v y
  ends o seats s id v r at live off all = let mine = r.each id v at in let m : View O E → ℕ = λ u. length (numbers_of u) in let whole : sum_by m s.views ≡ length s.views = r.numbers.whole in let few = r.few in
      let home : IsHome list opening_of number_of o r.log s.homes = ⊎_elim (λ (x : IsHome list opening_of number_of o r.log s.homes). x) (λ (x : SomeTurn s.views). dite (ℕ_discrete x.0 id)
      (λ (e : x.0 ≡ id). let same : x.1 ≡ v = some-injective x.1 v (sym x.2 ∙ (ap (get_elem? s.views) e ∙ at)) in absurd (true_false v.turn (sym (ap (λ (u : View O E). u.turn) same) ∙ x.3) off))
      (λ (n : x.0 ≢ id). let two = sum_two m s.views id x.0 v x.1 n at x.2 in let P : Bool → Type 0 = λ b. is_live x.1 ≡ b → IsHome list opening_of number_of o r.log s.homes in elim (is_live x.1) as P [
        | true ↦ λ on. let h : m x.1 ≡ length (x.1.number ∷ ended_numbers x.1.ended) = ap length (live_numbers x.1 on) in absurd (omega arith)
        | false ↦ λ dead. absurd (true_false x.1.turn x.3 (ap (λ (u : View O E). u.turn) ((r.each x.0 x.1 x.2).spent dead)))
      ] refl)) r.slot in
      let Kept : List E → Ended E → Type 0 = λ log e. IsPrefix e.seen log × (entries_by number_of e.number log ≡ entries_by number_of e.number e.seen) in (
        home.0,
        home.1,
        record {
          opened = home.3;
          alone = subst (λ (l : List E). IsPrefix v.alone l × (entries_by number_of v.number l ≡ entries_by number_of v.number v.alone)) (sym home.2)
              (subst (λ (n : ℕ). IsPrefix v.alone r.log × (entries_by number_of n r.log ≡ entries_by number_of n v.alone)) (sym (mine.numbered live)) (mine.alone live));
          past = subst (λ (l : List E). All (Kept l) v.ended) (sym home.2) mine.past;
          known = subst (λ (l : List E). v.known ≤ length l) (sym home.2) mine.known;
          others = λ q none. ap (entries_by number_of q) home.2 ∙ r.unborn q (
              let f : View O E → ℕ = λ u. times q (numbers_of u) in
              let one = sum_alone m f s.views id v (λ x z. no_numbers q (numbers_of x) z) at (omega arith) in let once : sum_by f s.views ≡ cond (nat_lt q (length s.views)) 1 0 = r.numbers.once q in
              far q (length s.views) (sym once ∙ (one ∙ none)));
        },
      ) where
        far : (q n : ℕ) → cond {A = ℕ} (nat_lt q n) 1 0 ≡ 0 → n ≤ q
        far q n e = grind (arith, nat_tests, e)

  -- what the closed table has in its slot
  pub last_state : (o : O) (seats id : ℕ) (v : View O E) (words : List ℕ) (slots : List (Option S)) (held : Option S) → Final (Seen (TurnRule list opening_of number_of o seats) id v) words slots
      → is_live v ≡ true → v.turn ≡ false → seats ≤ length (numbers_of v) → get_elem? slots 0 ≡ some held → (y : S) × (held ≡ Some y) × IsWhole list opening_of number_of o v y
  last_state o seats id v words slots held f live off all at = let e = ends o seats f.0 id v f.1.0 f.1.1 live off all in
      (e.0, some-injective held (Some e.0) (sym at ∙ f.4 0 (Some e.0) e.1), e.2)

  -- a number that none of the passes has is none of those that have ended
  none_ended : (q : ℕ) (passes : List (Pass O E)) → All (λ (p : Pass O E). p.number ≢ q) passes → times q (ended_numbers (map end_of_pass passes)) ≡ 0
  none_ended q [] all = refl
  none_ended q (p ∷ ps) all = times_else q p.number (ended_numbers (map end_of_pass ps)) (All-head (λ (p : Pass O E). p.number ≢ q) p ps all) ∙ none_ended q ps (All-tail (λ (p : Pass O E). p.number ≢ q) p ps all)

  -- what this says of the passes
  pub of_passes : (o : O) (v : View O E) (y : S) (passes : List (Pass O E)) (last : Pass O E) → IsWhole list opening_of number_of o v y → is_live v ≡ true → v.number ≡ last.number → v.alone ≡ last.seen → v.ended ≡ map end_of_pass passes
      → HaveSeen number_of (passes ++ last ∷ []) (list y) × IsAllOf number_of (passes ++ last ∷ []) (list y)
  of_passes o v y passes last w live number alone ended =
      let Seen : Pass O E → Type 0 = λ p. IsPrefix p.seen (list y) × (entries_by number_of p.number (list y) ≡ entries_by number_of p.number p.seen) in
      let Kept : Ended E → Type 0 = λ e. IsPrefix e.seen (list y) × (entries_by number_of e.number (list y) ≡ entries_by number_of e.number e.seen) in (
        All-push Seen passes last (All-from_map Kept passes (subst (All Kept) ended w.past)) (subst (λ (x : ℕ × List E). IsPrefix x.1 (list y) × (entries_by number_of x.0 (list y) ≡ entries_by number_of x.0 x.1)) (λ i. (number i, alone i)) w.alone),
        λ q all. w.others q (let Other : Pass O E → Type 0 = λ p. p.number ≢ q in let split = parts Other passes (last ∷ []) all in
            ap (times q) (live_numbers v live) ∙ (ap (λ (x : ℕ × List (Ended E)). times q (x.0 ∷ ended_numbers x.1)) (λ i. (number i, ended i))
            ∙ (times_else q last.number (ended_numbers (map end_of_pass passes)) (All-head Other last [] split.1) ∙ none_ended q passes split.0))),
      ) where
        All-from_map : (P : Ended E → Type 0) (ps : List (Pass O E)) → All P (map end_of_pass ps) → All (λ (p : Pass O E). P (end_of_pass p)) ps
        All-from_map P [] h = All-nil (λ (p : Pass O E). P (end_of_pass p))
        All-from_map P (p ∷ ps) h = All-cons (λ (p : Pass O E). P (end_of_pass p)) p ps (All-head P (end_of_pass p) (map end_of_pass ps) h) (All-from_map P ps (All-tail P (end_of_pass p) (map end_of_pass ps) h))

        parts : (P : Pass O E → Type 0) (xs ys : List (Pass O E)) → All P (xs ++ ys) → All P xs × All P ys
        parts P [] ys h = (All-nil P, h)
        parts P (x ∷ xs) ys h = let more = parts P xs ys (All-tail P x (xs ++ ys) h) in (All-cons P x xs (All-head P x (xs ++ ys) h) more.0, more.1)
