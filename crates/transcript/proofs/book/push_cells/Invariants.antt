use Rattle.std.proofs.Common.{drop, string_bytes}
use Rattle.transcript.proofs.Revisions.{CellsStand}
use Rattle.transcript.proofs.book.push_cells.Given as goal

abbrev pub invariant-loop-cell : goal.invariant-loop-cell
invariant-loop-cell l = CellsStand l.cells (drop l.cell-index l.cells) l.revs l.left (string_bytes l.fn.out) (string_bytes l.out)
