use Rattle.std.proofs.Common.{◌≡◌, take, map}
use Rattle.notebook.specs.Rules.{cell_number}
use Rattle.client_sync.proofs.changes.numbers.Given as goal

-- the numbers of the cells that were passed
abbrev pub invariant-loop-cell : goal.invariant-loop-cell
invariant-loop-cell l = l.ids.items ≡ map cell_number (take l.cell-index l.cells)
