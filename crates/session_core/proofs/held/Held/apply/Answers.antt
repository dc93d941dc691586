use Rattle.session_ops.specs.declared.entry.Call.TheVariants.{Client}
use Rattle.session_core.proofs.SessionLaws.{same-state-ok}
use Rattle.session_core.proofs.held.Held.apply.Goals as goal

pub returns-in-Some-clause-refused : goal.returns-in-Some-clause-refused
returns-in-Some-clause-refused c = λ n0 is. same-state-ok n0 c.args.self.now c.restructure.new.self c.args.by (Client c.args.client c.args.op) c.restructure.result (c.restructure.ensures.ok n0 is)

pub returns-in-None-clause-refused : goal.returns-in-None-clause-refused
returns-in-None-clause-refused c = λ n0 is. same-state-ok n0 c.args.self.now c.act.new.self c.args.by (Client c.args.client c.args.op) c.act.result (c.act.ensures.ok n0 is)
