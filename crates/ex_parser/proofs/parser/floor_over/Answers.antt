use Rattle.std.proofs.Common.{◌∙◌}
use Rattle.ex_parser.proofs.StepTurns.{floor_operand}
use Rattle.ex_parser.proofs.parser.floor_over.Goals as goal

pub returns-in-Operand : goal.returns-in-Operand
returns-in-Operand c = λ ns f s h. c.right_level.ensures ∙ floor_operand c.in-Operand.op c.in-Operand.field-1 s c.in-Operand.is h
