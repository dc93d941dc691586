use Rattle.std.proofs.Common.{ap, ◌∙◌, arith}
use Rattle.revisions.specs.Floors.{raised}
use Rattle.revisions.specs.Source.{reporting, rev_of}
use Rattle.revisions.proofs.Answering.{low-base}
use Rattle.revisions.proofs.Keeping.{refloored}
use Rattle.revisions.proofs.Lowest.{lowest-rises}
use Rattle.revisions.proofs.source_log.SourceLog.report.Goals as goal

pub returns-clause-answer : goal.returns-clause-answer
returns-clause-answer c = λ s h.
    let old = c.args.self.now in
    let client = c.args.client in
    let rev = c.args.rev in (
      low-base s old rev h c.if-rev-self.false,
      c.let_go.ensures.log (reporting client rev s)
          (refloored s old _ _ h.holds (c.raise.ensures ∙ ap (raised client rev) h.holds.known))
          (omega (arith, h.lowest, lowest-rises client rev (rev_of s) (rev_of s) s.floors (omega arith))),
    )
