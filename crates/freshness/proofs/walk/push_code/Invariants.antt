use Rattle.std.proofs.Common.{◌≡◌, ◌++◌, drop, map}
use Rattle.notebook.specs.Rules.{cell_number}
use Rattle.notebook.specs.Flow.{code_cells}
use Rattle.freshness.proofs.walk.push_code.Given as goal

-- the numbers so far, and those of what is left
abbrev pub invariant-loop-cell : goal.invariant-loop-cell
invariant-loop-cell l = l.ids.items ++ map cell_number (code_cells (drop l.cell-index l.cells)) ≡ l.fn.ids.items ++ map cell_number (code_cells l.cells)
