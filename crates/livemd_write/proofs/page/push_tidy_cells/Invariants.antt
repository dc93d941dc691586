use Rattle.std.proofs.Common.{◌≡◌, ◌++◌, false, drop, map}
use Rattle.std.specs.List.{AllByRecursion}
use Rattle.std.specs.String.{string_bytes}
use Rattle.livemd_format.specs.RoundTrip.{AreCellTexts}
use Rattle.livemd_format.specs.Tidy.{tidy_cells}
use Rattle.livemd_format.specs.Write.{cell_blocks}
use Rattle.livemd_write.specs.Pages.{blocks_text}
use Rattle.livemd_write.specs.Told.{told_cell}
use Rattle.livemd_write.proofs.page.push_tidy_cells.Given as goal

abbrev pub invariant-loop-cell : goal.invariant-loop-cell
invariant-loop-cell l = record {
  put : string_bytes l.out ++ blocks_text (cell_blocks l.after_markdown (tidy_cells (drop l.cell-index l.cells))) ≡ string_bytes l.initial.out ++ blocks_text (cell_blocks false (tidy_cells l.cells));
  characters : AllByRecursion AreCellTexts (map told_cell (drop l.cell-index l.cells)) → AllByRecursion AreCellTexts (map told_cell l.cells);
}
