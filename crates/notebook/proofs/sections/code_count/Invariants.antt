use Rattle.std.proofs.Common.{◌≡◌, ◌+◌, drop}
use Rattle.notebook.specs.Rules.{code_count}
use Rattle.notebook.proofs.sections.code_count.Given as goal

abbrev pub invariant-loop-cell : goal.invariant-loop-cell
invariant-loop-cell l = l.count + code_count (drop l.cell-index l.cells) ≡ code_count l.cells
