use Rattle.ex_parser.proofs.StepTurns.{step_have}
use Rattle.ex_parser.proofs.parser.Parser.step.Goals as goal

pub returns-in_ok-moved-in-Held : goal.returns-in_ok-moved-in-Held
returns-in_ok-moved-in-Held c = λ st a h. step_have _ _ c.in-Held.held c.in-Held.at st c.in-Held.is h (λ s v k i. c.in_ok-moved-in-Held.ensures s v k i)
