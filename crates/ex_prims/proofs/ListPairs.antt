-- Pairs that are made one after the other.
use Rattle.std.proofs.Common.{◌≡◌, ℕ, zero, suc, ◌≤◌, pos, min, List, [], ◌∷◌, ◌++◌, length, map, drop, refl, sym, ap, ◌∙◌, append-nil, arith}
use Rattle.std.specs.List.{enumerate_from}
use Rattle.ex_terms.specs.declared.values.Value.{Value}
use Rattle.ex_terms.specs.declared.values.Value.TheVariants.{Int}
use Rattle.ex_prims.specs.Lists.{pair, pairs}

-- values with their places from a number on
abbrev pub placed_from : ℕ → List Value → List Value
placed_from n vs = map (λ p. pair p.1 (Int (pos p.0))) (enumerate_from n vs)

-- no pair is left behind the end of the shorter list
without-right : (vs : List Value) → pairs vs [] ≡ []
without-right [] = refl
without-right (v ∷ vs) = refl

none-left : (vs ws : List Value) (i : ℕ) → min (length vs) (length ws) ≤ i → pairs (drop i vs) (drop i ws) ≡ []
none-left [] ws zero le = refl
none-left [] ws (suc i) le = refl
none-left (v ∷ vs) [] zero le = refl
none-left (v ∷ vs) [] (suc i) le = without-right (drop i vs)
none-left (v ∷ vs) (w ∷ ws) zero le = absurd (omega arith)
none-left (v ∷ vs) (w ∷ ws) (suc i) le = none-left vs ws i (omega arith)

pub all-paired : (vs ws done all : List Value) (i : ℕ) → min (length vs) (length ws) ≤ i → done ++ pairs (drop i vs) (drop i ws) ≡ all → done ≡ all
all-paired vs ws done all i le so-far = sym (append-nil done) ∙ (ap (λ zs. done ++ zs) (sym (none-left vs ws i le)) ∙ so-far)
