use Rattle.std.proofs.Common.{◌+◌, map, refl, ap}
use Rattle.std.specs.List.{AllByRecursion}
use Rattle.livemd_format.specs.RoundTrip.{AreSectionTexts}
use Rattle.livemd_write.specs.Told.{told_section}
use Rattle.livemd_write.proofs.Blocks.{left}
use Rattle.livemd_write.proofs.Telling.{turn}
use Rattle.livemd_write.proofs.Keeping.{on_turn}
use Rattle.livemd_write.proofs.tidy_up.tidy_sections.Goals as goal

pub loop-section-preserved : goal.loop-section-preserved
loop-section-preserved c = record {
  number = ap (λ k. k + 1) c.loop-section.invariant.number;
  characters = turn (λ ss. AllByRecursion AreSectionTexts (map told_section ss)) _ c.args.all.now c.loop-section.section-index c.section-item.result (left c.args.all.now c.loop-section.section-index c.section-item.result c.loop-section-test.true c.section-item.is) c.loop-section.invariant.characters (λ g. (c.in_ok-tidy.ensures.characters, g));
  on = on_turn
      c.args.all.now
      _
      _
      _
      _
      c.section-item.result
      c.in_ok-tidy.tidy
      c.loop-section.number
      c.loop-section.next
      _
      _
      c.len.result
      (left c.args.all.now c.loop-section.section-index c.section-item.result c.loop-section-test.true c.section-item.is)
      c.loop-section.invariant.on
      c.in_ok-tidy.ensures.tidy
      refl
      c.len.ensures
      refl
      c.in_ok-push.ensures.ok;
}
