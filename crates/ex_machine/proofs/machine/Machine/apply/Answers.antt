use Rattle.std.proofs.Common.{◌∙◌, sym}
use Rattle.ex_machine.proofs.Turns.{operator_fails}
use Rattle.ex_machine.proofs.machine.Machine.apply.Goals as goal

pub returns-clause-future : goal.returns-clause-future
returns-clause-future c = λ nodes base rests h.
    rw c.failed.ensures (operator_fails base c.args.self.now.made _ c.args.first c.args.second _ c.in-Err.fault rests (sym c.in-Err.is ∙ c.in_ok-value.ensures))
