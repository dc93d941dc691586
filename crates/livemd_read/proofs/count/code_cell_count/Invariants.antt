use Rattle.std.proofs.Common.{◌≡◌, ◌≤◌, take}
use Rattle.std.specs.List.{fold}
use Rattle.notebook.specs.Book.{section_cells}
use Rattle.notebook.specs.Rules.{code_count}
use Rattle.livemd_format.specs.Walk.{new_draft, with_item}
use Rattle.livemd_read.specs.Views.{views}
use Rattle.livemd_read.proofs.count.code_cell_count.Given as goal

abbrev pub invariant-loop-item : goal.invariant-loop-item
invariant-loop-item l = record {
  bound : l.count ≤ l.item-index;
  cells : l.count ≡ code_count (section_cells (fold with_item new_draft (views (take l.item-index l.items))).parts);
}
