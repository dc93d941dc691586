use Rattle.std.proofs.Common.{◌≡◌, take}
use Rattle.std.specs.List.{fold}
use Rattle.livemd_format.specs.Walk.{new_draft, with_item}
use Rattle.livemd_read.specs.Views.{draft_of, views}
use Rattle.livemd_read.proofs.build.drafted.Given as goal

abbrev pub invariant-loop-item : goal.invariant-loop-item
invariant-loop-item l = draft_of l.draft ≡ fold with_item new_draft (views (take l.item-index l.items))
