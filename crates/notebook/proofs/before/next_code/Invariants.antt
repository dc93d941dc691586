use Rattle.std.proofs.Common.{◌≡◌, drop}
use Rattle.notebook.specs.Flow.{code_cells}
use Rattle.notebook.proofs.before.next_code.Given as goal

-- the code cells are those left
abbrev pub invariant-loop-at : goal.invariant-loop-at
invariant-loop-at l = code_cells l.cells ≡ code_cells (drop l.at l.cells)
