-- Sets of numbers, as lists.
use Rattle.std.specs.Prelude.{◌≡◌, ℕ, ◌==◌, not, Bool, true, false, if◌then◌else◌, List, [], ◌∷◌, filter}

abbrev pub is_in : ℕ → List ℕ → Bool
is_in n [] = false
is_in n (m ∷ ms) = if m == n then true else is_in n ms

-- the numbers without one
abbrev pub is_other : ℕ → ℕ → Bool
is_other n m = not (m == n)

abbrev pub without_number : ℕ → List ℕ → List ℕ
without_number n ns = filter (is_other n) ns

-- no number stands twice
abbrev pub AreOnce : List ℕ → Type 0
AreOnce [] = Unit {0}
AreOnce (n ∷ ns) = (is_in n ns ≡ false) × AreOnce ns
