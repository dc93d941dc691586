use Rattle.std.proofs.Common.{◌≡◌, ◌+◌, ◌≤◌, ◌++◌, drop, map}
use Rattle.std.specs.List.{AllByRecursion}
use Rattle.livemd_format.specs.RoundTrip.{AreCellTexts}
use Rattle.livemd_format.specs.Tidy.{numbered, tidy_cells}
use Rattle.livemd_write.specs.Told.{told_cell}
use Rattle.livemd_write.proofs.cells.tidy_cells.Given as goal

abbrev pub invariant-loop-cell : goal.invariant-loop-cell
invariant-loop-cell l = record {
  step : l.out ++ numbered l.next (tidy_cells (drop l.cell-index l.cells)) ≡ numbered l.first (tidy_cells l.cells);
  characters : AllByRecursion AreCellTexts (map told_cell (drop l.cell-index l.cells)) → AllByRecursion AreCellTexts (map told_cell l.cells);
  bound : l.next ≤ l.first + l.cell-index;
}
