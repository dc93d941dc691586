use Rattle.std.proofs.Common.{◌≡◌, drop}
use Rattle.livemd_format.specs.Tidy.{number_from}
use Rattle.livemd_write.proofs.page.index_of.Given as goal

abbrev pub invariant-loop-section : goal.invariant-loop-section
invariant-loop-section l = record {
  index : l.index ≡ l.section-index;
  same : number_from l.index l.id (drop l.section-index l.sections) ≡ number_from 0 l.id l.sections;
}
