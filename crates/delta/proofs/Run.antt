-- The small steps taken one by one, and in runs.
use Rattle.std.proofs.Common.{◌≡◌, ℕ, List, [], ◌∷◌, ◌++◌, length, map, replicate, refl, ap}
use Rattle.delta.specs.Spread.{Small, Keep, Drop, Put, keep, gap, woven}

-- what the small steps make of the units, one at a time
abbrev pub run : List Small → List ℕ → List ℕ
run [] us = us
run (Keep ∷ s) [] = []
run (Keep ∷ s) (u ∷ us) = u ∷ run s us
run (Drop ∷ s) [] = []
run (Drop ∷ s) (u ∷ us) = run s us
run (Put v ∷ s) us = v ∷ run s us

none : (us : List ℕ) → woven (keep []) (gap []) us ≡ us
none [] = refl
none (u ∷ us) = ap (λ w. u ∷ w) (none us)

-- the spread form makes the same
pub woven_is_run : (s : List Small) (us : List ℕ) → woven (keep s) (gap s) us ≡ run s us
woven_is_run [] us = none us
woven_is_run (Keep ∷ s) [] = refl
woven_is_run (Keep ∷ s) (u ∷ us) = ap (λ w. u ∷ w) (woven_is_run s us)
woven_is_run (Drop ∷ s) [] = refl
woven_is_run (Drop ∷ s) (u ∷ us) = woven_is_run s us
woven_is_run (Put v ∷ s) [] = ap (λ w. v ∷ w) (woven_is_run s [])
woven_is_run (Put v ∷ s) (u ∷ us) = ap (λ w. v ∷ w) (woven_is_run s (u ∷ us))

-- runs
pub run-keeps : (xs ys : List ℕ) (s : List Small) → run (replicate (length xs) Keep ++ s) (xs ++ ys) ≡ xs ++ run s ys
run-keeps [] ys s = refl
run-keeps (x ∷ xs) ys s = ap (λ w. x ∷ w) (run-keeps xs ys s)

pub run-drops : (xs ys : List ℕ) (s : List Small) → run (replicate (length xs) Drop ++ s) (xs ++ ys) ≡ run s ys
run-drops [] ys s = refl
run-drops (x ∷ xs) ys s = run-drops xs ys s

pub run-puts : (vs us : List ℕ) (s : List Small) → run (map Put vs ++ s) us ≡ vs ++ run s us
run-puts [] us s = refl
run-puts (v ∷ vs) us s = ap (λ w. v ∷ w) (run-puts vs us s)
