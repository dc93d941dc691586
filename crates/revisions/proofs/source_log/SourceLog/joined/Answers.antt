use Rattle.std.proofs.Common.{ap, ◌∙◌, arith}
use Rattle.revisions.specs.Floors.{with_client}
use Rattle.revisions.specs.Source.{joining, rev_of}
use Rattle.revisions.proofs.Keeping.{refloored}
use Rattle.revisions.proofs.Lowest.{lowest-joined}
use Rattle.revisions.proofs.source_log.SourceLog.joined.Goals as goal

pub returns-clause-ok : goal.returns-clause-ok
returns-clause-ok c = λ s h.
    let old = c.args.self.now in
    let client = c.args.client in
    c.let_go.ensures.log (joining client s)
    (refloored s old _ _ h.holds (c.in_ok-put.ensures.ok ∙ (ap (λ r. with_client client r old.floors) h.holds.rev ∙ ap (with_client client (rev_of s)) h.holds.known)))
    (omega (arith, h.lowest, lowest-joined client (rev_of s) s.floors))
