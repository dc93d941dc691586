use Rattle.std.proofs.Common.{◌≡◌, ◌++◌, drop, map}
use Rattle.std.specs.List.{AllByRecursion}
use Rattle.utf16_text.specs.Units.{AreScalars}
use Rattle.livemd_format.specs.Tidy.{changed, clean}
use Rattle.livemd_write.proofs.cells.tidy_kept.Given as goal

abbrev pub invariant-loop-line : goal.invariant-loop-line
invariant-loop-line l = record {
  tidy : l.out ++ map (changed clean) (drop l.line-index l.before) ≡ map (changed clean) l.before;
  characters : AllByRecursion AreScalars (drop l.line-index l.before) → AllByRecursion AreScalars l.before;
}
