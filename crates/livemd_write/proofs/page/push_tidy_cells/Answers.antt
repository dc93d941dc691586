use Rattle.std.proofs.Common.{List, map, refl, subst, sym, drop_of_length-le}
use Rattle.std.specs.List.{AllByRecursion}
use Rattle.notebook.specs.declared.parts.Cell.{Cell}
use Rattle.livemd_format.specs.RoundTrip.{AreCellTexts}
use Rattle.livemd_format.specs.Tidy.{tidy_cells}
use Rattle.livemd_format.specs.Write.{cell_blocks}
use Rattle.livemd_write.specs.Told.{told_cell}
use Rattle.livemd_write.proofs.Blocks.{drop_last, left}
use Rattle.livemd_write.proofs.Streaming.{cells_turn}
use Rattle.livemd_write.proofs.Telling.{turn}
use Rattle.livemd_write.proofs.page.push_tidy_cells.Goals as goal

pub loop-cell-preserved : goal.loop-cell-preserved
loop-cell-preserved c = record {
  put = cells_turn _ _ c.cell-item.result _ _ _ _ _ (left c.args.cells.now c.loop-cell.cell-index c.cell-item.result c.loop-cell-test.true c.cell-item.is) c.loop-cell.invariant.put c.in_ok-after_markdown.ensures.puts;
  characters = turn (λ (cs : List Cell). AllByRecursion AreCellTexts (map told_cell cs)) _ c.args.cells.now c.loop-cell.cell-index c.cell-item.result (left c.args.cells.now c.loop-cell.cell-index c.cell-item.result c.loop-cell-test.true c.cell-item.is) c.loop-cell.invariant.characters (λ g. (c.in_ok-after_markdown.ensures.characters, g));
}

pub returns : goal.returns
returns c = record {
  ok = drop_last (λ cs. cell_blocks c.loop-cell.after_markdown (tidy_cells cs)) refl c.args.cells.now c.loop-cell.cell-index _ _ _ c.loop-cell-test.false c.loop-cell.invariant.put;
  characters = c.loop-cell.invariant.characters (subst (λ (cs : List Cell). AllByRecursion AreCellTexts (map told_cell cs)) (sym (drop_of_length-le c.args.cells.now c.loop-cell-test.false)) tt);
}
