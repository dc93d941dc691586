use Rattle.std.proofs.Common.{◌≡◌, ◌+◌, ◌∙◌, ap, refl, arith}
use Rattle.utf16_text.specs.Units.{unit_count}
use Rattle.revisions.specs.declared.kept.Kept.{Kept}
use Rattle.revisions.specs.Floors.{raised}
use Rattle.revisions.specs.Source.{taking}
use Rattle.revisions.proofs.Keeping.{more-holds, more-low}
use Rattle.revisions.proofs.source_log.SourceLog.take.Goals as goal

pub returns-clause-ok : goal.returns-clause-ok
returns-clause-ok c = λ s h m.
    let old = c.args.self.now in
    let client = c.args.client in
    let x = c.args.moved.delta in
    let k : Kept = record { len = c.unit_len-len.result; delta = c.in_ok-delta.delta } in
    let next : c.in-Some.rev ≡ old.rev + 1 = search arith in
    record {
      rev = next ∙ ap (λ a. a + 1) h.holds.rev;
      delta = refl;
      after =
          c.let_go.ensures.log (taking client x s)
          (more-holds s old _ client x k h m.fits (c.unit_len-len.ensures ∙ ap unit_count c.as_str.ensures.characters) c.in_ok-delta.ensures m.makes next refl c.in_ok-push.ensures.ok (c.raise.ensures ∙ ap (λ r. raised client r old.floors) next))
          (more-low s old client x h);
    }
