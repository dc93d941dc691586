-- What follows from the definition of validity.
use Rattle.std.specs.Prelude.{◌≡◌, ℕ, Some}
use Rattle.ex_model.specs.declared.ran.Shown.{Shown}
use Rattle.notebook.specs.declared.states.Validity.TheVariants.{Evaluated}
use Rattle.notebook.specs.Flow.{path}
use Rattle.freshness.specs.declared.mark.Finished.{Finished}
use Rattle.freshness.specs.declared.mark.Mark.{Mark}
use Rattle.freshness.specs.declared.mark.Started.{Started}
use Rattle.freshness.specs.Marked.{Marked, as_finished, finished_of, mark_of}
use Rattle.freshness.specs.Calls.{IsRemarked}
use Rattle.freshness.specs.Validity.{validity_of}

-- the last finished evaluation of a cell, which read its present path
pub record HasReadPath (m : Marked) (cell : ℕ) : Type 0 where
  pub last : Finished
  pub finished : finished_of m cell ≡ Some last
  pub present : path m.book cell ≡ Some last.path

-- the last finished evaluation of a cell that is evaluated read the cell's present path
abbrev pub EvaluatedHasReadItsPath : Type 0
EvaluatedHasReadItsPath = (m : Marked) (cell : ℕ) → validity_of m cell ≡ Some Evaluated → HasReadPath m cell

-- a cell is evaluated once an evaluation has finished that was started along its present path
abbrev pub FinishedCountsAtOnce : Type 0
FinishedCountsAtOnce =
    (old new : Marked) (cell eval : ℕ) (shown : Shown) (m : Mark) (s : Started) → IsRemarked cell (as_finished eval shown) old new → mark_of old cell ≡ Some m → m.started ≡ Some s → path old.book cell ≡ Some s.path
    → validity_of new cell ≡ Some Evaluated
