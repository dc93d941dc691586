use Rattle.ex_source.proofs.Going.{step_wanted, step_held}
use Rattle.ex_source.proofs.parser.Parser.step.Goals as goal

pub returns-in_ok-after-in-Wanted : goal.returns-in_ok-after-in-Wanted
returns-in_ok-after-in-Wanted c = λ all st a h.
    step_wanted _ _ c.args.self.now.stack.items _ all _ _ c.in-Wanted.at st c.in-Wanted.is h (λ s rest k r. c.in_ok-after-in-Wanted.ensures all s rest a k r)

pub returns-in_ok-after-in-Held : goal.returns-in_ok-after-in-Held
returns-in_ok-after-in-Held c = λ all st a h.
    step_held _ _ c.args.self.now.stack.items _ all _ _ c.in-Held.at c.in-Held.i st c.in-Held.is h (λ s t rest k it r. c.in_ok-after-in-Held.ensures all s t rest a k it r)
