use Rattle.std.proofs.Common.{◌≡◌, ◌++◌, drop}
use Rattle.std.specs.List.{AllByRecursion}
use Rattle.std.specs.String.{string_bytes}
use Rattle.utf16_text.specs.Units.{AreScalars}
use Rattle.livemd_format.specs.Tidy.{tidy_before}
use Rattle.livemd_format.specs.Write.{kept_blocks}
use Rattle.livemd_write.specs.Pages.{blocks_text}
use Rattle.livemd_write.proofs.page.push_tidy_kept.Given as goal

abbrev pub invariant-loop-line : goal.invariant-loop-line
invariant-loop-line l = record {
  put : string_bytes l.out ++ blocks_text (kept_blocks (tidy_before (drop l.line-index l.before))) ≡ string_bytes l.initial.out ++ blocks_text (kept_blocks (tidy_before l.before));
  characters : AllByRecursion AreScalars (drop l.line-index l.before) → AllByRecursion AreScalars l.before;
}
