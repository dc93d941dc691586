use Rattle.std.proofs.Common.{◌≡◌, length, map}
use Rattle.std.specs.Prelude.{find}
use Rattle.notebook.specs.Before.{left}
use Rattle.notebook.specs.Rules.{cell_number}
use Rattle.section_queues.specs.Facts.{known}
use Rattle.section_queues.specs.Starts.{is_due}
use Rattle.section_queues.proofs.starts.first_due.Given as goal

-- the first that is due is among those left
abbrev pub invariant-loop-cell : goal.invariant-loop-cell
invariant-loop-cell g l =
    let f = known (g.F.CellFacts.evaluated_cells l.facts) (g.F.CellFacts.faulty_cells l.facts) in
    find (is_due l.book f l.wants) (map cell_number (left l.cells)) ≡ find (is_due l.book f l.wants) (map cell_number (left l.rest))

abbrev pub decreases-loop-cell : goal.decreases-loop-cell
decreases-loop-cell g l = length (left l.rest)
