-- What contracts see of a lock and of its passes.
use Rattle.std.specs.Prelude.{◌≡◌, ◌≢◌, ℕ, ◌≤◌, zero, suc, List, [], ◌∷◌, ◌++◌, length, Option, Some, All}
use mathlib.Core.List.{IsPrefix}
use Rattle.atomic_table.specs.Seated.{TableId}
use Rattle.turn.specs.Histories.{entries_by}

-- A lock: which it is, the opening of the state that it was made with, and how many passes it has
pub record Lock (O : Type 0) : Type 0 where
  pub home : TableId
  pub opening : O
  pub seats : ℕ

-- A pass: whose it is, the opening, its number, the list that it has seen, and how many entries it was told
-- that the state's list has at least
pub record Pass (O E : Type 0) : Type 0 where
  pub home : TableId
  pub opening : Option O
  pub number : ℕ
  pub seen : List E
  pub known : ℕ

module _ {O E : Type 0} where
  -- the pass is one of the lock's
  abbrev pub Belongs : Pass O E → Lock O → Type 0
  Belongs p t = (p.home ≡ t.home) × (p.opening ≡ Some t.opening)

  -- the same pass, which was told of as many entries as before, whatever it has seen
  abbrev pub HasOnlySeen : Pass O E → Pass O E → Type 0
  HasOnlySeen p q = (q.home ≡ p.home) × (q.opening ≡ p.opening) × (q.number ≡ p.number) × (q.known ≡ p.known)

  -- the same pass, which has seen what it had seen, of however many entries it was told
  abbrev pub WasOnlyTold : Pass O E → Pass O E → Type 0
  WasOnlyTold p q = (q.home ≡ p.home) × (q.opening ≡ p.opening) × (q.number ≡ p.number) × (q.seen ≡ p.seen)

  -- the pass of this number, before its first turn
  abbrev pub fresh_pass : TableId → O → ℕ → Pass O E
  fresh_pass home opening i = record { home = home; opening = Some opening; number = i; seen = []; known = 0 }

  -- the passes of the numbers below n, in order
  abbrev pub fresh_passes : TableId → O → ℕ → List (Pass O E)
  fresh_passes home opening zero = []
  fresh_passes home opening (suc n) = fresh_passes home opening n ++ fresh_pass home opening n ∷ []

  -- the list has as many entries as each of these passes was told of
  abbrev pub WereTold : List (Pass O E) → List E → Type 0
  WereTold passes log = All (λ p. p.known ≤ length log) passes

  module _ (number_of : E → ℕ) where
    -- each of these passes has seen a beginning of the list, in which all entries under its number are
    abbrev pub HaveSeen : List (Pass O E) → List E → Type 0
    HaveSeen passes log = All (λ p. IsPrefix p.seen log × (entries_by number_of p.number log ≡ entries_by number_of p.number p.seen)) passes

    -- the list has no entry under a number that none of these passes has
    abbrev pub IsAllOf : List (Pass O E) → List E → Type 0
    IsAllOf passes log = (q : ℕ) → All (λ p. p.number ≢ q) passes → entries_by number_of q log ≡ []
