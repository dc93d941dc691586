use Rattle.std.proofs.Common.{◌+◌, ◌∙◌, ◌≡◌, arith}
use Rattle.livemd_read.proofs.Counting.{code_cells_by, no_code_cell, one_code_cell}
use Rattle.livemd_read.proofs.count.code_cells_with.Goals as goal

pub returns-in-Code-clause-value : goal.returns-in-Code-clause-value
returns-in-Code-clause-value c = code_cells_by c.args.item.now c.args.count 1 (one_code_cell c.args.item.now c.in-Code.field-0 c.in-Code.is)

pub returns-in_default : goal.returns-in_default
returns-in_default c = record {
  bound = omega arith;
  value = λ d e. let none : c.args.count + 0 ≡ c.args.count = omega arith in code_cells_by c.args.item.now c.args.count 0 (no_code_cell c.args.item.now c.in_default.not-Code) d e ∙ none;
}
