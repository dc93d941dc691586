use Rattle.std.proofs.Common.{◌≡◌, take, filter}
use Rattle.section_queues.specs.Facts.{known}
use Rattle.section_queues.specs.Starts.{is_hopeless}
use Rattle.section_queues.proofs.sweep.hopeless_among.Given as goal

-- those of the cells so far
abbrev pub invariant-loop-cell : goal.invariant-loop-cell
invariant-loop-cell g l =
    l.out.items ≡ filter (is_hopeless l.book (known (g.F.CellFacts.evaluated_cells l.facts) (g.F.CellFacts.faulty_cells l.facts))) (take l.cell-index l.cells)
