use Rattle.std.proofs.Common.{List, map, refl, subst, sym, drop_of_length-le}
use Rattle.std.specs.List.{AllByRecursion, flat_map}
use Rattle.notebook.specs.declared.parts.Section.{Section}
use Rattle.livemd_format.specs.RoundTrip.{AreSectionTexts}
use Rattle.livemd_write.specs.Pages.{tidy_section_blocks}
use Rattle.livemd_write.specs.Told.{told_section}
use Rattle.livemd_write.proofs.Blocks.{drop_last, drop_turn, left}
use Rattle.livemd_write.proofs.Telling.{turn}
use Rattle.livemd_write.proofs.page.push_tidy_sections.Goals as goal

pub loop-section-preserved : goal.loop-section-preserved
loop-section-preserved c = record {
  put = drop_turn (flat_map (tidy_section_blocks c.args.all.now)) (tidy_section_blocks c.args.all.now) (λ x xs. refl) _ _ c.section-item.result _ _ _ (left c.args.all.now c.loop-section.section-index c.section-item.result c.loop-section-test.true c.section-item.is) c.loop-section.invariant.put c.in_ok-push_tidy_section.ensures.ok;
  characters = turn (λ (ss : List Section). AllByRecursion AreSectionTexts (map told_section ss)) _ c.args.all.now c.loop-section.section-index c.section-item.result (left c.args.all.now c.loop-section.section-index c.section-item.result c.loop-section-test.true c.section-item.is) c.loop-section.invariant.characters (λ g. (c.in_ok-push_tidy_section.ensures.characters, g));
}

pub returns : goal.returns
returns c = record {
  ok = drop_last (flat_map (tidy_section_blocks c.args.all.now)) refl c.args.all.now c.loop-section.section-index _ _ _ c.loop-section-test.false c.loop-section.invariant.put;
  characters = c.loop-section.invariant.characters (subst (λ (ss : List Section). AllByRecursion AreSectionTexts (map told_section ss)) (sym (drop_of_length-le c.args.all.now c.loop-section-test.false)) tt);
}
