use Rattle.std.proofs.Common.{◌≡◌, ◌++◌, drop}
use Rattle.notebook.specs.Flow.{code_cells}
use Rattle.notebook.specs.Seen.{seen}
use Rattle.notebook.proofs.flow.push_code.Given as goal

abbrev pub invariant-loop-cell : goal.invariant-loop-cell
invariant-loop-cell l = seen l.lane.items ++ code_cells (drop l.cell-index l.cells) ≡ seen l.fn.lane.items ++ code_cells l.cells
