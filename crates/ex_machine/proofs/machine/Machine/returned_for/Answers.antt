use Rattle.std.proofs.Common.{◌∙◌, sym}
use Rattle.ex_model.specs.Meaning.{Gives}
use Rattle.ex_machine.proofs.Turns.{unpaid}
use Rattle.ex_machine.proofs.machine.Machine.returned_for.Goals as goal

pub returns-then-not-pay-clause-future : goal.returns-then-not-pay-clause-future
returns-then-not-pay-clause-future c = λ nodes base rests h.
    rw c.failed.ensures (unpaid base c.args.steps c.args.self.now.left _ (λ left. Gives c.args.value c.args.self.now.made left) rests (sym c.pay.ensures.answer ∙ c.if-not-pay.true) c.pay.ensures.left)
