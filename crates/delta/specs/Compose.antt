-- One list of small steps and then another, as one.
use Rattle.std.specs.Prelude.{ℕ, zero, suc, ◌-◌, Bool, true, false, if◌then◌else◌, List, [], ◌∷◌, ◌++◌, map, replicate}
use Rattle.delta.specs.Spread.{Small, Keep, Drop, Put, keep, gap, small_reach, small_items}

-- what the second does with a unit that it reaches
abbrev pub mark : Bool → Small
mark true = Keep
mark false = Drop

-- the first over its base; flags and gaps of the second are over the items of the first's result: before each item stands its gap, and after the last one the next gap
abbrev pub followed : (ℕ → Bool) → (ℕ → List ℕ) → List Small → List Small
followed stays put [] = map Put (put zero)
followed stays put (Drop ∷ a) = Drop ∷ followed stays put a
followed stays put (Keep ∷ a) = map Put (put zero) ++ (mark (stays zero) ∷ followed (λ i. stays (suc i)) (λ i. put (suc i)) a)
followed stays put (Put u ∷ a) = map Put (put zero) ++ ((if stays zero then Put u ∷ [] else []) ++ followed (λ i. stays (suc i)) (λ i. put (suc i)) a)

-- the first over the least base at which its result has as many items as the second reaches
abbrev pub over_base : List Small → List Small → List Small
over_base a b = a ++ replicate (small_reach b - small_items a) Keep

abbrev pub composed_small : List Small → List Small → List Small
composed_small a b = followed (keep b) (gap b) (over_base a b)
