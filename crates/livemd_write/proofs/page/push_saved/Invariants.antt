use Rattle.std.proofs.Common.{◌≡◌, ◌++◌, drop}
use Rattle.std.specs.String.{string_bytes}
use Rattle.std.specs.List.{flat_map}
use Rattle.livemd_format.specs.Write.{saved_blocks}
use Rattle.livemd_write.specs.Pages.{blocks_text}
use Rattle.livemd_write.proofs.page.push_saved.Given as goal

abbrev pub invariant-loop-output : goal.invariant-loop-output
invariant-loop-output l = string_bytes l.out ++ blocks_text (flat_map saved_blocks (drop l.output-index l.saved)) ≡ string_bytes l.initial.out ++ blocks_text (flat_map saved_blocks l.saved)
