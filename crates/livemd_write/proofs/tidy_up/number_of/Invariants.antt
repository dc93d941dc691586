use Rattle.std.proofs.Common.{◌≡◌, ◌+◌, drop}
use Rattle.livemd_format.specs.Tidy.{number_from}
use Rattle.livemd_write.proofs.tidy_up.number_of.Given as goal

abbrev pub invariant-loop-section : goal.invariant-loop-section
invariant-loop-section l = record {
  number : l.number ≡ l.section-index + 1;
  same : number_from l.number l.id (drop l.section-index l.sections) ≡ number_from 1 l.id l.sections;
}
