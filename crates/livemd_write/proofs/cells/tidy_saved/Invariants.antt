use Rattle.std.proofs.Common.{◌≡◌, ◌++◌, drop, map}
use Rattle.std.specs.List.{AllByRecursion}
use Rattle.livemd_format.specs.RoundTrip.{AreOutputTexts}
use Rattle.livemd_format.specs.Tidy.{tidy_saved}
use Rattle.livemd_write.proofs.cells.tidy_saved.Given as goal

abbrev pub invariant-loop-output : goal.invariant-loop-output
invariant-loop-output l = record {
  tidy : l.out ++ map tidy_saved (drop l.output-index l.saved) ≡ map tidy_saved l.saved;
  characters : AllByRecursion AreOutputTexts (drop l.output-index l.saved) → AllByRecursion AreOutputTexts l.saved;
}
