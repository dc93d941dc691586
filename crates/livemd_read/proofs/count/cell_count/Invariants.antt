use Rattle.std.proofs.Common.{◌≡◌, ◌≤◌, length, take}
use Rattle.std.specs.List.{fold}
use Rattle.notebook.specs.Book.{section_cells}
use Rattle.livemd_format.specs.Walk.{new_draft, with_item}
use Rattle.livemd_read.specs.Views.{views}
use Rattle.livemd_read.proofs.count.cell_count.Given as goal

abbrev pub invariant-loop-item : goal.invariant-loop-item
invariant-loop-item l = record {
  bound : l.count ≤ l.item-index;
  cells : l.count ≡ length (section_cells (fold with_item new_draft (views (take l.item-index l.items))).parts);
}
