use Rattle.std.proofs.Common.{◌≡◌, ◌++◌, drop}
use Rattle.std.specs.String.{string_bytes}
use Rattle.livemd_format.specs.Write.{kept_blocks}
use Rattle.livemd_write.specs.Pages.{blocks_text}
use Rattle.livemd_write.proofs.page.push_kept.Given as goal

abbrev pub invariant-loop-line : goal.invariant-loop-line
invariant-loop-line l = string_bytes l.out ++ blocks_text (kept_blocks (drop l.line-index l.before)) ≡ string_bytes l.initial.out ++ blocks_text (kept_blocks l.before)
