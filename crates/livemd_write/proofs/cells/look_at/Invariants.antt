use Rattle.std.proofs.Common.{drop}
use Rattle.std.specs.List.{AllByRecursion}
use Rattle.utf16_text.specs.Units.{AreScalars}
use Rattle.livemd_write.proofs.cells.look_at.Given as goal

abbrev pub invariant-loop-line : goal.invariant-loop-line
invariant-loop-line l = AllByRecursion AreScalars (drop l.line-index l.before) → AllByRecursion AreScalars l.before
