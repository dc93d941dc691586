use Rattle.std.proofs.Common.{◌≡◌, ◌∷◌, ◌+◌, List, drop, subst, string_bytes}
use Rattle.notebook.specs.declared.parts.Cell.{Cell}
use Rattle.transcript.proofs.Revisions.{CellsStand, cells_turn, drop-at}
use Rattle.transcript.proofs.book.push_cells.Goals as goal

pub loop-cell-preserved : goal.loop-cell-preserved
loop-cell-preserved c =
    let cells : List Cell = c.args.cells.now in
    let x : Cell = c.cell-item.result in
    let rest : List Cell = drop (c.loop-cell.cell-index + 1) cells in
    let front : drop c.loop-cell.cell-index cells ≡ x ∷ rest = drop-at cells c.loop-cell.cell-index x c.loop-cell-test.true c.cell-item.is in
    let stood : CellsStand cells (x ∷ rest) c.args.revs.now c.loop-cell.left.now (string_bytes c.args.out.now) (string_bytes c.loop-cell.out) =
    subst (λ (r : List Cell). CellsStand cells r c.args.revs.now c.loop-cell.left.now (string_bytes c.args.out.now) (string_bytes c.loop-cell.out)) front c.loop-cell.invariant in
    cells_turn cells rest x c.args.revs.now c.loop-cell.left.now _ (string_bytes c.args.out.now) (string_bytes c.loop-cell.out) _ _ stood c.take_rev-rev.ensures.rev c.take_rev-rev.ensures.left c.in_ok-push_cell.ensures
