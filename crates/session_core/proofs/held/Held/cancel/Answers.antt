use Rattle.session_core.proofs.QueueLaws.{refusal-is}
use Rattle.std.proofs.Common.{sym}
use Rattle.session_core.proofs.held.Held.cancel.Goals as goal

pub returns-in-Some-clause-ok : goal.returns-in-Some-clause-ok
returns-in-Some-clause-ok c = λ n0 is. c.refuse.ensures.ok n0 is (refusal-is _ c.in-Some.why (c.in-Some.ensures n0 is))

pub returns-in-None-clause-ok : goal.returns-in-None-clause-ok
returns-in-None-clause-ok c = λ n0 is. c.take_cancelled.ensures.ok n0 is (sym (c.in-None.ensures n0 is))
