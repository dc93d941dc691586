use Rattle.std.proofs.Common.{ne_eqb}
use Rattle.notebook.proofs.Finding.{found-more, cell_at}
use Rattle.notebook.proofs.cells.place_in.Goals as goal

pub returns-then-cell-id : goal.returns-then-cell-id
returns-then-cell-id c = cell_at _ _ _ _ c.loop-at-test.true c.index-cells-at.is c.loop-at.invariant c.if-cell-id.true

pub loop-at-preserved : goal.loop-at-preserved
loop-at-preserved c = found-more _ _ _ _ c.loop-at-test.true c.index-cells-at.is c.loop-at.invariant (ne_eqb _ _ c.if-cell-id.false)
