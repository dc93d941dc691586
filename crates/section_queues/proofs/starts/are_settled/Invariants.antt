use Rattle.std.proofs.Common.{◌≡◌, length, map}
use Rattle.std.specs.List.{list_all}
use Rattle.notebook.specs.Before.{left}
use Rattle.notebook.specs.Rules.{cell_number}
use Rattle.section_queues.specs.Facts.{known}
use Rattle.section_queues.specs.Starts.{is_settled}
use Rattle.section_queues.proofs.starts.are_settled.Given as goal

-- all are settled exactly where those left are
abbrev pub invariant-loop-cell : goal.invariant-loop-cell
invariant-loop-cell g l =
    let f = known (g.F.CellFacts.evaluated_cells l.facts) (g.F.CellFacts.faulty_cells l.facts) in
    list_all (is_settled f l.wants) (map cell_number (left l.cells)) ≡ list_all (is_settled f l.wants) (map cell_number (left l.rest))

abbrev pub decreases-loop-cell : goal.decreases-loop-cell
decreases-loop-cell g l = length (left l.rest)
