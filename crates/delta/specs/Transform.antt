-- What one list of small steps becomes after another one.
use Rattle.std.specs.Prelude.{ℕ, zero, suc, Bool, true, false, if◌then◌else◌, List, [], ◌∷◌, ◌++◌, map, replicate, length, max}
use Rattle.delta.specs.Spread.{Small, Keep, Put, keep, gap, small_reach}
use Rattle.delta.specs.Compose.{mark}

-- a gap of each, of which the right's may come first: the right's is put in, and each unit of the left's is kept
abbrev pub gaps : Bool → List ℕ → List ℕ → List Small
gaps true left right = map Put right ++ replicate (length left) Keep
gaps false left right = replicate (length left) Keep ++ map Put right

-- over n old units: the gaps, then the unit as the right says if the left keeps it, and so on to the last gaps
abbrev pub moved : Bool → (ℕ → Bool) → (ℕ → List ℕ) → (ℕ → Bool) → (ℕ → List ℕ) → ℕ → List Small
moved right_first lk lg rk rg zero = gaps right_first (lg zero) (rg zero)
moved right_first lk lg rk rg (suc n) =
    gaps right_first (lg zero) (rg zero)
    ++ ((if lk zero then mark (rk zero) ∷ [] else []) ++ moved right_first (λ i. lk (suc i)) (λ i. lg (suc i)) (λ i. rk (suc i)) (λ i. rg (suc i)) n)

-- over as many old units as one of the two reaches
abbrev pub moved_over : Bool → List Small → List Small → ℕ → List Small
moved_over right_first s t n = moved right_first (keep s) (gap s) (keep t) (gap t) n

abbrev pub transformed_small : Bool → List Small → List Small → List Small
transformed_small right_first s t = moved_over right_first s t (max (small_reach s) (small_reach t))
