-- The notebooks of the examples keep the rules.
use Rattle.std.proofs.Common.{◌≡◌, ℕ, ◌==◌, ◌&&◌, ◌||◌, not, Bool, true, false, List, [], ◌∷◌, Some, None, refl, sym, ap, ◌∙◌, arith, eq-eqb, zero, suc}
use Rattle.std.specs.Prelude.{Contains}
use Rattle.std.specs.List.{list_any}
use Rattle.notebook.specs.Rules.{IsNotebook, AreDistinct}
use Rattle.lanes.specs.Example.{blank, section_of, example}

first-true : (a b : Bool) → (a && b) ≡ true → a ≡ true
first-true true b e = refl
first-true false b e = e

second-true : (a b : Bool) → (a && b) ≡ true → b ≡ true
second-true true b e = e
second-true false b e = absurd (cc e)

is-false : (b : Bool) → not b ≡ true → b ≡ false
is-false true e = absurd (cc e)
is-false false e = refl

rest-false : (a b : Bool) → (a || b) ≡ false → b ≡ false
rest-false true b e = absurd (cc e)
rest-false false b e = e

is_number : ℕ → ℕ → Bool
is_number n m = m == n

are_distinct : List ℕ → Bool
are_distinct [] = true
are_distinct (n ∷ ns) = not (list_any (is_number n) ns) && are_distinct ns

no-number : (n : ℕ) (ns : List ℕ) → list_any (is_number n) ns ≡ false → ¬ Contains ns n
unfolding is_number
no-number n [] e (k, within, at) = absurd (omega (arith, within))
no-number n (m ∷ ns) e (zero, within, at) =
    let here : (m == n) ≡ true = eq-eqb m n at in
    let some : (true || list_any (is_number n) ns) ≡ false = ap (λ b. b || list_any (is_number n) ns) (sym here) ∙ e in
    absurd (cc some)
no-number n (m ∷ ns) e (suc k, within, at) = no-number n ns (rest-false (m == n) (list_any (is_number n) ns) e) (k, omega (arith, within), at)

distinct-is : (ns : List ℕ) → are_distinct ns ≡ true → AreDistinct ns
unfolding are_distinct
distinct-is [] e = tt
distinct-is (n ∷ ns) e =
    (no-number n ns (is-false (list_any (is_number n) ns) (first-true (not (list_any (is_number n) ns)) (are_distinct ns) e)), distinct-is ns (second-true (not (list_any (is_number n) ns)) (are_distinct ns) e))

pub whole-is : IsNotebook (example (Some 1) (blank 6 ∷ []))
unfolding are_distinct is_number
whole-is = record {
  setup_number = refl;
  setup_kind = refl;
  kinds = (tt, (tt, (tt, (tt, (tt, (tt, tt))))));
  cell_numbers = distinct-is (0 ∷ 1 ∷ 2 ∷ 3 ∷ 4 ∷ 5 ∷ 6 ∷ []) refl;
  next_cell = (omega arith, (omega arith, (omega arith, (omega arith, (omega arith, (omega arith, (omega arith, tt)))))));
  section_numbers = distinct-is (0 ∷ 1 ∷ 2 ∷ 3 ∷ 4 ∷ []) refl;
  next_section = (omega arith, (omega arith, (omega arith, (omega arith, (omega arith, tt)))));
  parents = (tt, ((section_of 1 None (blank 1 ∷ blank 2 ∷ []), ((0, omega arith, refl), (refl, refl))), ((section_of 1 None (blank 1 ∷ blank 2 ∷ []), ((0, omega arith, refl), (refl, refl))), (tt, tt))));
  few_sections = omega arith;
  few_cells = omega arith;
  few_code_cells = omega arith;
}

pub unbranched-is : IsNotebook (example None (blank 6 ∷ []))
unfolding are_distinct is_number
unbranched-is = record {
  setup_number = refl;
  setup_kind = refl;
  kinds = (tt, (tt, (tt, (tt, (tt, (tt, tt))))));
  cell_numbers = distinct-is (0 ∷ 1 ∷ 2 ∷ 3 ∷ 4 ∷ 5 ∷ 6 ∷ []) refl;
  next_cell = (omega arith, (omega arith, (omega arith, (omega arith, (omega arith, (omega arith, (omega arith, tt)))))));
  section_numbers = distinct-is (0 ∷ 1 ∷ 2 ∷ 3 ∷ 4 ∷ []) refl;
  next_section = (omega arith, (omega arith, (omega arith, (omega arith, (omega arith, tt)))));
  parents = (tt, (tt, ((section_of 1 None (blank 1 ∷ blank 2 ∷ []), ((0, omega arith, refl), (refl, refl))), (tt, tt))));
  few_sections = omega arith;
  few_cells = omega arith;
  few_code_cells = omega arith;
}

pub shortened-is : IsNotebook (example (Some 1) [])
unfolding are_distinct is_number
shortened-is = record {
  setup_number = refl;
  setup_kind = refl;
  kinds = (tt, (tt, (tt, (tt, (tt, tt)))));
  cell_numbers = distinct-is (0 ∷ 1 ∷ 2 ∷ 3 ∷ 4 ∷ 5 ∷ []) refl;
  next_cell = (omega arith, (omega arith, (omega arith, (omega arith, (omega arith, (omega arith, tt))))));
  section_numbers = distinct-is (0 ∷ 1 ∷ 2 ∷ 3 ∷ 4 ∷ []) refl;
  next_section = (omega arith, (omega arith, (omega arith, (omega arith, (omega arith, tt)))));
  parents = (tt, ((section_of 1 None (blank 1 ∷ blank 2 ∷ []), ((0, omega arith, refl), (refl, refl))), ((section_of 1 None (blank 1 ∷ blank 2 ∷ []), ((0, omega arith, refl), (refl, refl))), (tt, tt))));
  few_sections = omega arith;
  few_cells = omega arith;
  few_code_cells = omega arith;
}
