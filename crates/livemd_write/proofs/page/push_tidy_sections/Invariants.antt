use Rattle.std.proofs.Common.{◌≡◌, ◌++◌, drop, map}
use Rattle.std.specs.List.{AllByRecursion, flat_map}
use Rattle.std.specs.String.{string_bytes}
use Rattle.livemd_format.specs.RoundTrip.{AreSectionTexts}
use Rattle.livemd_write.specs.Pages.{blocks_text, tidy_section_blocks}
use Rattle.livemd_write.specs.Told.{told_section}
use Rattle.livemd_write.proofs.page.push_tidy_sections.Given as goal

abbrev pub invariant-loop-section : goal.invariant-loop-section
invariant-loop-section l = record {
  put : string_bytes l.out ++ blocks_text (flat_map (tidy_section_blocks l.all) (drop l.section-index l.all)) ≡ string_bytes l.initial.out ++ blocks_text (flat_map (tidy_section_blocks l.all) l.all);
  characters : AllByRecursion AreSectionTexts (map told_section (drop l.section-index l.all)) → AllByRecursion AreSectionTexts (map told_section l.all);
}
