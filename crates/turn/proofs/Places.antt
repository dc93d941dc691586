-- Lists of views after one of them has changed, or one has come.
use Rattle.std.proofs.Common.{◌≡◌, ◌≢◌, ℕ, ◌+◌, ◌≤◌, ◌<◌, zero, suc, Bool, true, false, cond, eqb, eq-eqb, ne_eqb, nat_lt, List, [], ◌∷◌, ◌++◌, length, map, set, refl, sym, ap, ◌∙◌, subst, ⊎_elim, inl, inr, ◌⊎◌, arith, length-set, length-append, Option, Some, None}
use Rattle.std.specs.Prelude.{sum_by, All}
use Rattle.std.proofs.lemmas.List.Sums.{sum_by-cons, sum_by-append}
use Rattle.std.proofs.lemmas.List.Elements.{All-nil, All-cons, All-head, All-tail}
use mathlib.Core.Logic.{dite}
use native.Mathlib.Decide.{ℕ_discrete}
use mathlib.Core.Option.{some, some-injective, some-ne-none}
use lib.ListN.{get_elem?}
use Rattle.atomic_table.proofs.Lists.{at_set, set_else, set_here}
use Rattle.turn.specs.TurnRule.{times, ticket_count, drawn, is_live, numbers_of, spent_view, AreNumbered, HaveMaker, AreApart, SomeTurn, SomeSeen}
use Rattle.turn.specs.declared.rule.View.{View}
use Rattle.turn.specs.declared.rule.Ended.{Ended}

pub true_false : (b : Bool) → b ≡ true → b ≡ false → ⊥
true_false b x y = let c : true ≡ false = sym x ∙ y in cc

pub none_some : (o : Option ℕ) (t : ℕ) → o ≡ None → o ≡ Some t → ⊥
none_some o t a b = let c : None ≡ Some t = sym a ∙ b in cc

module _ {A : Type 0} where
  pub at_inside : (vs : List A) (id : ℕ) (v : A) → get_elem? vs id ≡ some v → id < length vs
  at_inside [] id v e = absurd (some-ne-none v (sym e))
  at_inside (x ∷ xs) zero v e = omega arith
  at_inside (x ∷ xs) (suc id) v e = let h = at_inside xs id v e in omega arith

  pub at_end : (l : List A) (a b : A) (j : ℕ) → get_elem? (l ++ a ∷ []) j ≡ some b → (get_elem? l j ≡ some b) ⊎ ((j ≡ length l) × (a ≡ b))
  at_end [] a b zero e = inr (refl, some-injective a b e)
  at_end [] a b (suc j) e = absurd (some-ne-none b (sym e))
  at_end (x ∷ xs) a b zero e = inl e
  at_end (x ∷ xs) a b (suc j) e = ⊎_elim (λ (h : get_elem? xs j ≡ some b). inl h) (λ (t : (j ≡ length xs) × (a ≡ b)). inr (ap suc t.0, t.1)) (at_end xs a b j e)

  -- what holds at one place and at all others holds at each
  pub each_set : (P : ℕ → A → Type 0) (vs : List A) (id : ℕ) (w : A) → P id w → ((j : ℕ) (u : A) → j ≢ id → get_elem? vs j ≡ some u → P j u) → (j : ℕ) (u : A) → get_elem? (set vs id w) j ≡ some u → P j u
  each_set P vs id w mine others j u e = ⊎_elim (λ (t : (j ≡ id) × (w ≡ u)). subst (λ (x : ℕ × A). P x.0 x.1) (λ i. (sym t.0 i, t.1 i)) mine)
      (λ (t : (j ≢ id) × (get_elem? vs j ≡ some u)). others j u t.0 t.1) (at_set vs id j w u e)

  pub each_end : (P : ℕ → A → Type 0) (vs : List A) (w : A) → ((j : ℕ) (u : A) → get_elem? vs j ≡ some u → P j u) → P (length vs) w → (j : ℕ) (u : A) → get_elem? (vs ++ w ∷ []) j ≡ some u → P j u
  each_end P vs w old new j u e = ⊎_elim (old j u) (λ (t : (j ≡ length vs) × (w ≡ u)). subst (λ (x : ℕ × A). P x.0 x.1) (λ i. (sym t.0 i, t.1 i)) new) (at_end vs w u j e)

  pub one_more : (l : List A) (w : A) → length (l ++ w ∷ []) ≡ length l + 1
  one_more l w = length-append l (w ∷ [])

  -- sums over the list
  pub sum_set : (f : A → ℕ) (vs : List A) (id : ℕ) (v w : A) → get_elem? vs id ≡ some v → sum_by f (set vs id w) + f v ≡ sum_by f vs + f w
  sum_set f [] id v w e = absurd (some-ne-none v (sym e))
  sum_set f (x ∷ xs) zero v w e = let h : f x ≡ f v = ap f (some-injective x v e) in omega (arith, sum_by-cons f x xs, sum_by-cons f w xs)
  sum_set f (x ∷ xs) (suc id) v w e = let h = sum_set f xs id v w e in omega (arith, sum_by-cons f x xs, sum_by-cons f x (set xs id w))

  pub sum_one : (f : A → ℕ) (vs : List A) (id : ℕ) (v : A) → get_elem? vs id ≡ some v → f v ≤ sum_by f vs
  sum_one f [] id v e = absurd (some-ne-none v (sym e))
  sum_one f (x ∷ xs) zero v e = let h : f x ≡ f v = ap f (some-injective x v e) in omega (arith, sum_by-cons f x xs)
  sum_one f (x ∷ xs) (suc id) v e = let h = sum_one f xs id v e in omega (arith, sum_by-cons f x xs)

  pub sum_two : (f : A → ℕ) (vs : List A) (i j : ℕ) (v w : A) → j ≢ i → get_elem? vs i ≡ some v → get_elem? vs j ≡ some w → f v + f w ≤ sum_by f vs
  sum_two f [] i j v w n e e' = absurd (some-ne-none v (sym e))
  sum_two f (x ∷ xs) zero zero v w n e e' = absurd (n refl)
  sum_two f (x ∷ xs) zero (suc j) v w n e e' = let h : f x ≡ f v = ap f (some-injective x v e) in let k = sum_one f xs j w e' in omega (arith, sum_by-cons f x xs)
  sum_two f (x ∷ xs) (suc i) zero v w n e e' = let h : f x ≡ f w = ap f (some-injective x w e') in let k = sum_one f xs i v e in omega (arith, sum_by-cons f x xs)
  sum_two f (x ∷ xs) (suc i) (suc j) v w n e e' = let h = sum_two f xs i j v w (λ (q : j ≡ i). n (ap suc q)) e e' in omega (arith, sum_by-cons f x xs)

  pub sum_le : (f : A → ℕ) (vs : List A) → ((v : A) → f v ≤ 1) → sum_by f vs ≤ length vs
  sum_le f [] h = omega arith
  sum_le f (x ∷ xs) h = let k = sum_le f xs h in let m = h x in omega (arith, sum_by-cons f x xs)

  -- what holds of all holds of each
  pub of_all : (P : A → Type 0) (xs ys : List A) (x : A) → All P (xs ++ x ∷ ys) → P x
  of_all P [] ys x h = All-head P x ys h
  of_all P (y ∷ xs) ys x h = of_all P xs ys x (All-tail P y (xs ++ x ∷ ys) h)

-- how often a number stands in a list
times_cons : (q n : ℕ) (ns : List ℕ) → times q (n ∷ ns) ≡ cond (eqb n q) 1 0 + times q ns
times_cons q n ns = sum_by-cons (λ (m : ℕ). cond (eqb m q) 1 0) n ns

pub times_here : (q : ℕ) (ns : List ℕ) → times q (q ∷ ns) ≡ 1 + times q ns
times_here q ns = times_cons q q ns ∙ ap (λ (b : Bool). cond b 1 0 + times q ns) (eq-eqb q q refl)

pub times_else : (q n : ℕ) (ns : List ℕ) → n ≢ q → times q (n ∷ ns) ≡ times q ns
times_else q n ns other = times_cons q n ns ∙ (ap (λ (b : Bool). cond b 1 0 + times q ns) (ne_eqb n q other) ∙ omega arith)

pub times_one : (q n : ℕ) → times q (n ∷ []) ≡ cond (eqb n q) 1 0
times_one q n = let h = times_cons q n [] in let z : times q [] ≡ 0 = refl in omega arith

pub times_append : (q : ℕ) (ms ns : List ℕ) → times q (ms ++ ns) ≡ times q ms + times q ns
times_append q ms ns = sum_by-append (λ (m : ℕ). cond (eqb m q) 1 0) ms ns

module _ {E : Type 0} where
  abbrev pub ended_numbers : List (Ended E) → List ℕ
  ended_numbers es = map (λ (e : Ended E). e.number) es

  -- a number that does not stand among those of the ended seats is none of theirs
  pub none_of : (q : ℕ) (es : List (Ended E)) → times q (ended_numbers es) ≡ 0 → All (λ (e : Ended E). e.number ≢ q) es
  none_of q [] z = All-nil (λ (e : Ended E). e.number ≢ q)
  none_of q (e ∷ es) z = All-cons (λ (e : Ended E). e.number ≢ q) e es
      (λ (same : e.number ≡ q). let h : times q (e.number ∷ ended_numbers es) ≡ 1 + times q (ended_numbers es) = subst (λ (n : ℕ). times q (n ∷ ended_numbers es) ≡ 1 + times q (ended_numbers es)) (sym same) (times_here q (ended_numbers es)) in
      absurd (omega arith))
      (none_of q es (let h = times_cons q e.number (ended_numbers es) in omega arith))

once_le : (q n : ℕ) → cond (nat_lt q n) 1 0 ≤ 1
once_le q n = let P : Bool → Type 0 = λ b. cond b 1 0 ≤ 1 in elim (nat_lt q n) as P [ true ↦ omega arith | false ↦ omega arith ]

module _ {O E : Type 0} where
  one_le : (v : View O E) → ticket_count v ≤ 1
  one_le v = let P : Bool → Type 0 = λ b. cond b 1 0 ≤ 1 in elim (Rattle.std.specs.Prelude.is_some v.ticket) as P [ true ↦ omega arith | false ↦ omega arith ]

  pub drawn_le : (vs : List (View O E)) → drawn vs ≤ length vs
  drawn_le vs = sum_le ticket_count vs one_le

  pub apart_set : (vs : List (View O E)) (id : ℕ) (w : View O E) → AreApart vs → ((j : ℕ) (u : View O E) (t : ℕ) → j ≢ id → get_elem? vs j ≡ some u → u.ticket ≡ Some t → w.ticket ≡ Some t → ⊥) → AreApart (set vs id w)
  apart_set vs id w apart new i j a b t ai bj ta tb = ⊎_elim
      (λ (p : (i ≡ id) × (w ≡ a)). ⊎_elim (λ (q : (j ≡ id) × (w ≡ b)). p.0 ∙ sym q.0) (λ (q : (j ≢ id) × (get_elem? vs j ≡ some b)). absurd (new j b t q.0 q.1 tb (ap (λ (x : View O E). x.ticket) p.1 ∙ ta))) (at_set vs id j w b bj))
      (λ (p : (i ≢ id) × (get_elem? vs i ≡ some a)). ⊎_elim (λ (q : (j ≡ id) × (w ≡ b)). absurd (new i a t p.0 p.1 ta (ap (λ (x : View O E). x.ticket) q.1 ∙ tb)))
      (λ (q : (j ≢ id) × (get_elem? vs j ≡ some b)). apart i j a b t p.1 q.1 ta tb) (at_set vs id j w b bj)) (at_set vs id i w a ai)

  pub apart_end : (vs : List (View O E)) (w : View O E) → w.ticket ≡ None → AreApart vs → AreApart (vs ++ w ∷ [])
  apart_end vs w idle apart i j a b t ai bj ta tb = ⊎_elim
      (λ (p : get_elem? vs i ≡ some a). ⊎_elim (λ (q : get_elem? vs j ≡ some b). apart i j a b t p q ta tb)
      (λ (q : (j ≡ length vs) × (w ≡ b)). absurd (none_some w.ticket t idle (ap (λ (x : View O E). x.ticket) q.1 ∙ tb))) (at_end vs w b j bj))
      (λ (p : (i ≡ length vs) × (w ≡ a)). absurd (none_some w.ticket t idle (ap (λ (x : View O E). x.ticket) p.1 ∙ ta))) (at_end vs w a i ai)

  -- where a seat without the turn changes, some other still has it
  pub turn_set : (vs : List (View O E)) (id : ℕ) (v w : View O E) → get_elem? vs id ≡ some v → v.turn ≡ false → SomeTurn vs → SomeTurn (set vs id w)
  turn_set vs id v w at off x = let other : x.0 ≢ id = λ e. let same : x.1 ≡ v = some-injective x.1 v (sym x.2 ∙ (ap (get_elem? vs) e ∙ at)) in
      absurd (true_false x.1.turn x.3 (ap (λ (u : View O E). u.turn) same ∙ off)) in (x.0, x.1, set_else vs id x.0 w other ∙ x.2, x.3)

  -- where a live seat changes, and has still seen what it had, some seat has still seen the whole
  pub seen_set : (vs : List (View O E)) (id : ℕ) (v w : View O E) (log : List E) → get_elem? vs id ≡ some v → is_live w ≡ true → (v.seen ≡ log → w.seen ≡ log) → SomeSeen vs log → SomeSeen (set vs id w) log
  seen_set vs id v w log at live keeps x = dite (ℕ_discrete x.0 id)
      (λ (e : x.0 ≡ id). let same : x.1 ≡ v = some-injective x.1 v (sym x.2 ∙ (ap (get_elem? vs) e ∙ at)) in (id, w, set_here vs id w (at_inside vs id v at), live, keeps (sym (ap (λ (u : View O E). u.seen) same) ∙ x.4)))
      (λ (n : x.0 ≢ id). (x.0, x.1, set_else vs id x.0 w n ∙ x.2, x.3, x.4))

  pub live_numbers : (v : View O E) → is_live v ≡ true → numbers_of v ≡ v.number ∷ ended_numbers v.ended
  live_numbers v live = ap (λ (b : Bool). cond b (v.number ∷ ended_numbers v.ended) []) live

  -- a seat that stands for the same numbers
  pub numbered_set : (vs : List (View O E)) (id : ℕ) (v w : View O E) → AreNumbered vs → get_elem? vs id ≡ some v → numbers_of w ≡ numbers_of v → AreNumbered (set vs id w)
  numbered_set vs id v w n at same = let len = length-set vs id w in record {
    once = λ q. let f : View O E → ℕ = λ u. times q (numbers_of u) in let s = sum_set f vs id v w at in let h : f w ≡ f v = ap (times q) same in
        let o = n.once q in let e : sum_by f (set vs id w) ≡ sum_by f vs = omega arith in e ∙ (o ∙ ap (λ (k : ℕ). cond (nat_lt q k) 1 0) (sym len));
    whole = let f : View O E → ℕ = λ u. length (numbers_of u) in let s = sum_set f vs id v w at in let h : f w ≡ f v = ap length same in let o = n.whole in omega arith;
  }

  pub maker_set : (vs : List (View O E)) (id : ℕ) (v w : View O E) → HaveMaker vs → get_elem? vs id ≡ some v → w.made ≡ v.made → HaveMaker (set vs id w)
  maker_set vs id v w m at same = let len = length-set vs id w in record {
    made = each_set (λ _ u. 0 < u.made → u.made ≡ length (set vs id w)) vs id w (λ some_made. let z : 0 < v.made = omega arith in let k = m.made id v at z in omega arith)
        (λ j u _ e some_made. let k = m.made j u e some_made in omega arith);
    one = λ i j a b ai bj some_a some_b. ⊎_elim
        (λ (p : (i ≡ id) × (w ≡ a)). ⊎_elim (λ (q : (j ≡ id) × (w ≡ b)). p.0 ∙ sym q.0)
        (λ (q : (j ≢ id) × (get_elem? vs j ≡ some b)). let c : w.made ≡ a.made = ap (λ (x : View O E). x.made) p.1 in p.0 ∙ m.one id j v b at q.1 (omega arith) some_b) (at_set vs id j w b bj))
        (λ (p : (i ≢ id) × (get_elem? vs i ≡ some a)). ⊎_elim (λ (q : (j ≡ id) × (w ≡ b)). let c : w.made ≡ b.made = ap (λ (x : View O E). x.made) q.1 in m.one i id a v p.1 at some_a (omega arith) ∙ sym q.0)
        (λ (q : (j ≢ id) × (get_elem? vs j ≡ some b)). m.one i j a b p.1 q.1 some_a some_b) (at_set vs id j w b bj)) (at_set vs id i w a ai);
  }

  -- a live seat's number is none of those that have ended
  pub number_apart : (vs : List (View O E)) (id : ℕ) (v : View O E) → AreNumbered vs → get_elem? vs id ≡ some v → is_live v ≡ true → v.number ≡ id → ((u : View O E) → is_live u ≡ false → (j : ℕ) → get_elem? vs j ≡ some u → u ≡ spent_view)
      → (j : ℕ) (u : View O E) → get_elem? vs j ≡ some u → All (λ (e : Ended E). e.number ≢ id) u.ended
  number_apart vs id v n at live is_id spent j u uj = let f : View O E → ℕ = λ x. times id (numbers_of x) in
      let most = n.once id in let le = once_le id (length vs) in
      let mine : f v ≡ 1 + times id (ended_numbers v.ended) = ap (times id) (live_numbers v live) ∙ subst (λ (k : ℕ). times id (k ∷ ended_numbers v.ended) ≡ 1 + times id (ended_numbers v.ended)) (sym is_id) (times_here id (ended_numbers v.ended)) in
      dite (ℕ_discrete j id)
      (λ (e : j ≡ id). let same : u ≡ v = some-injective u v (sym uj ∙ (ap (get_elem? vs) e ∙ at)) in let h = sum_one f vs id v at in
      subst (λ (x : View O E). All (λ (e : Ended E). e.number ≢ id) x.ended) (sym same) (none_of id v.ended (omega arith)))
      (λ (other : j ≢ id). let P : Bool → Type 0 = λ b. is_live u ≡ b → All (λ (e : Ended E). e.number ≢ id) u.ended in elim (is_live u) as P [
        | true ↦ λ on. none_of id u.ended (let h = sum_two f vs id j v u other at uj in let w : f u ≡ times id (u.number ∷ ended_numbers u.ended) = ap (times id) (live_numbers u on) in
            let k : times id (u.number ∷ ended_numbers u.ended) ≡ cond (eqb u.number id) 1 0 + times id (ended_numbers u.ended) = times_cons id u.number (ended_numbers u.ended) in omega arith)
        | false ↦ λ off. subst (λ (x : View O E). All (λ (e : Ended E). e.number ≢ id) x.ended) (sym (spent u off j uj)) (All-nil (λ (e : Ended E). e.number ≢ id))
      ] refl)
