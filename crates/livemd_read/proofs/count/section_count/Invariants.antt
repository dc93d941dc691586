use Rattle.std.proofs.Common.{◌≡◌, ◌≤◌, length, take}
use Rattle.std.specs.List.{fold}
use Rattle.livemd_format.specs.Walk.{new_draft, with_item}
use Rattle.livemd_read.specs.Views.{views}
use Rattle.livemd_read.proofs.count.section_count.Given as goal

abbrev pub invariant-loop-item : goal.invariant-loop-item
invariant-loop-item l = record {
  bound : l.count ≤ l.item-index;
  sections : l.count ≡ length (fold with_item new_draft (views (take l.item-index l.items))).parts.sections;
}
