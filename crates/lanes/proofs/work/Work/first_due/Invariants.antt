use Rattle.std.proofs.Common.{◌≡◌, length, map}
use Rattle.notebook.specs.Before.{left}
use Rattle.std.specs.Prelude.{find}
use Rattle.notebook.specs.Rules.{cell_number}
use Rattle.lanes.specs.Work.{is_due}
use Rattle.lanes.proofs.work.Work.first_due.Given as goal

-- the first that is due is among those left
abbrev pub invariant-loop-cell : goal.invariant-loop-cell
invariant-loop-cell l = find (is_due l.book l.self) (map cell_number (left l.cells)) ≡ find (is_due l.book l.self) (map cell_number (left l.rest))

abbrev pub decreases-loop-cell : goal.decreases-loop-cell
decreases-loop-cell l = length (left l.rest)
