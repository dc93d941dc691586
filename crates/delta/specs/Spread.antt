-- A delta spread over the units of its base: a flag for each old unit, and a gap before each and at the end.
use Rattle.std.specs.Prelude.{ℕ, zero, suc, Bool, true, false, if◌then◌else◌, List, [], ◌∷◌, ◌++◌}

-- a small step keeps one old unit, drops one, or puts one in
pub data Small : Type 0 where
  Keep : Small
  Drop : Small
  Put : ℕ → Small

-- whether the old unit at a place stays: all do past the last small step
abbrev pub keep : List Small → ℕ → Bool
keep [] i = true
keep (Keep ∷ s) zero = true
keep (Keep ∷ s) (suc i) = keep s i
keep (Drop ∷ s) zero = false
keep (Drop ∷ s) (suc i) = keep s i
keep (Put u ∷ s) i = keep s i

-- what is put in before the old unit at a place
abbrev pub gap : List Small → ℕ → List ℕ
gap [] i = []
gap (Keep ∷ s) zero = []
gap (Keep ∷ s) (suc i) = gap s i
gap (Drop ∷ s) zero = []
gap (Drop ∷ s) (suc i) = gap s i
gap (Put u ∷ s) zero = u ∷ gap s zero
gap (Put u ∷ s) (suc i) = gap s (suc i)

-- gap 0, unit 0 if it stays, gap 1, and so on to the gap after the last unit
abbrev pub woven : (ℕ → Bool) → (ℕ → List ℕ) → List ℕ → List ℕ
woven stays put [] = put zero
woven stays put (u ∷ us) = put zero ++ ((if stays zero then u ∷ [] else []) ++ woven (λ i. stays (suc i)) (λ i. put (suc i)) us)

-- how many old units the small steps pass
abbrev pub small_reach : List Small → ℕ
small_reach [] = zero
small_reach (Keep ∷ s) = suc (small_reach s)
small_reach (Drop ∷ s) = suc (small_reach s)
small_reach (Put u ∷ s) = small_reach s

-- how many units they leave or put in
abbrev pub small_items : List Small → ℕ
small_items [] = zero
small_items (Keep ∷ s) = suc (small_items s)
small_items (Drop ∷ s) = small_items s
small_items (Put u ∷ s) = suc (small_items s)
