use Rattle.delta.proofs.FrontLemmas.{pushed_run, passed_run}
use Rattle.delta.proofs.front.push_run.Goals as goal

pub returns-in_ok-push : goal.returns-in_ok-push
returns-in_ok-push c = pushed_run _ _ _ _ c.in_ok-push.ensures.items c.in_ok-run.ensures (c.is_proper.ensures.0 c.if-is_proper.true)

pub returns-else-is_proper : goal.returns-else-is_proper
returns-else-is_proper c = passed_run _ _ _ c.in_ok-run.ensures (λ h. absurd (cc (c.is_proper.ensures.1 h)))
