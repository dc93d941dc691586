use Rattle.std.proofs.Common.{◌≡◌, ◌++◌, drop, map}
use Rattle.notebook.specs.Flow.{is_cell, up_to}
use Rattle.notebook.specs.Rules.{cell_number}
use Rattle.notebook.specs.Seen.{seen}
use Rattle.notebook.proofs.flow.numbers_up_to.Given as goal

abbrev pub invariant-loop-cell : goal.invariant-loop-cell
invariant-loop-cell l =
    l.ids.items ++ map cell_number (up_to (is_cell l.id) (seen (drop l.cell-index l.cells))) ≡ map cell_number (up_to (is_cell l.id) (seen l.cells))
