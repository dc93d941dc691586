use Rattle.std.proofs.Common.{◌≤◌, length, arith}
use Rattle.std.specs.List.{flat_map}
use Rattle.notebook.specs.Book.{cells_of}
use Rattle.livemd_write.proofs.Keeping.{few_tidy}
use Rattle.livemd_write.proofs.tidy_up.tidied.Goals as goal

pub cell_count-next_cell-requires : goal.cell_count-next_cell-requires
cell_count-next_cell-requires c = few_tidy c.args.book.now.sections c.as_slice.result.now c.in_ok-sections.sections c.as_slice-2.result.now c.as_slice.ensures c.in_ok-sections.ensures.tidy c.as_slice-2.ensures c.requires.cells

pub overflow_add-next_cell : goal.overflow_add-next_cell
overflow_add-next_cell c =
    let few : length (flat_map cells_of c.as_slice-2.result.now) ≤ 4000 = few_tidy c.args.book.now.sections c.as_slice.result.now c.in_ok-sections.sections c.as_slice-2.result.now c.as_slice.ensures c.in_ok-sections.ensures.tidy c.as_slice-2.ensures c.requires.cells in
    omega (arith, few, c.cell_count-next_cell.ensures)
