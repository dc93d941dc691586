use Rattle.std.proofs.Common.{◌≡◌, ◌+◌, drop, map}
use Rattle.std.specs.List.{AllByRecursion}
use Rattle.livemd_format.specs.RoundTrip.{AreSectionTexts}
use Rattle.livemd_write.specs.Told.{told_section}
use Rattle.livemd_write.proofs.Keeping.{IsOn}
use Rattle.livemd_write.proofs.tidy_up.tidy_sections.Given as goal

abbrev pub invariant-loop-section : goal.invariant-loop-section
invariant-loop-section l = record {
  number : l.number ≡ l.section-index + 1;
  characters : AllByRecursion AreSectionTexts (map told_section (drop l.section-index l.all)) → AllByRecursion AreSectionTexts (map told_section l.all);
  on : IsOn l.all (drop l.section-index l.all) l.out l.number l.next;
}
