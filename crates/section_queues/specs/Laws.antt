-- What holds of every notebook, whatever is known of its cells.
use Rattle.std.specs.Prelude.{◌≡◌, ◌⊎◌, ℕ, true, false, List, [], Some, None}
use Rattle.std.specs.List.{list_all}
use Rattle.notebook.specs.declared.parts.Cell.{Cell}
use Rattle.notebook.specs.declared.parts.Parts.{Parts}
use Rattle.notebook.specs.declared.states.Lane.{Lane}
use Rattle.notebook.specs.Rules.{IsNotebook}
use Rattle.notebook.specs.Flow.{flow, lane_of}
use Rattle.section_queues.specs.Facts.{Facts, has_failed}
use Rattle.section_queues.specs.Wanted.{Wanted, is_queued}
use Rattle.section_queues.specs.Starts.{earlier, failed_ancestor, is_hopeless, is_settled, may_start, ready_lane}

-- where nothing runs, and some cell is queued that has a flow and no ancestor that failed, some lane may start
abbrev pub SomeLaneMayStart : Type 0
SomeLaneMayStart =
    (n : Parts) (f : Facts) (w : Wanted) (cell : ℕ) (line : List Cell) → IsNotebook n → w.running ≡ [] → is_queued w cell ≡ true → flow n cell ≡ Some line → failed_ancestor n f cell ≡ None
    → (lane : Lane) × (ready_lane n f w ≡ Some lane)

-- a cell that may start in a lane has that lane
abbrev pub StartsInItsLane : Type 0
StartsInItsLane = (n : Parts) (f : Facts) (w : Wanted) (lane : Lane) (cell : ℕ) → IsNotebook n → may_start n f w lane ≡ Some cell → lane_of n cell ≡ Some lane

-- all cells before one that may start, in its flow, are settled
abbrev pub StartsAfterSettled : Type 0
StartsAfterSettled = (n : Parts) (f : Facts) (w : Wanted) (lane : Lane) (cell : ℕ) → may_start n f w lane ≡ Some cell → list_all (is_settled f w) (earlier n cell) ≡ true

-- a cell has failed as before, or it can't be evaluated and hasn't failed any more
abbrev pub IsSpared : Parts → Facts → Facts → ℕ → Type 0
IsSpared n f g cell = (has_failed g cell ≡ has_failed f cell) ⊎ ((has_failed g cell ≡ false) × (is_hopeless n f cell ≡ true))

-- that cells which can't be evaluated are marked, and so aren't evaluated any more, changes for no cell whether it can be evaluated
abbrev pub MarkingSpoilsNoSweep : Type 0
MarkingSpoilsNoSweep = (n : Parts) (f g : Facts) (cell : ℕ) → IsNotebook n → ((k : ℕ) → IsSpared n f g k) → is_hopeless n g cell ≡ is_hopeless n f cell
