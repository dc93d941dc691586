use Rattle.revisions.proofs.Honest.{honest-cause}
use Rattle.revisions.proofs.source_log.SourceLog.accept.Goals as goal

pub returns-in-Err-clause-honest : goal.returns-in-Err-clause-honest
returns-in-Err-clause-honest c = λ s h is. honest-cause s c.args.client c.args.base c.args.delta.now c.in-Err.fault h.holds.leads is (c.in-Err.ensures s h)
