use Rattle.std.proofs.Common.{◌≡◌, length}
use Rattle.notebook.specs.Before.{left}
use Rattle.std.specs.List.{list_any}
use Rattle.notebook.specs.Flow.{is_cell}
use Rattle.section_queues.proofs.walk.has_cell.Given as goal

-- it is among the cells exactly where it is among those left
abbrev pub invariant-loop-cell : goal.invariant-loop-cell
invariant-loop-cell l = list_any (is_cell l.id) (left l.cells) ≡ list_any (is_cell l.id) (left l.rest)

abbrev pub decreases-loop-cell : goal.decreases-loop-cell
decreases-loop-cell l = length (left l.rest)
