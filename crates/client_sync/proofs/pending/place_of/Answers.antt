use Rattle.std.proofs.Common.{ne_eqb}
use Rattle.client_sync.proofs.Places.{pending-more, pending-at}
use Rattle.client_sync.proofs.pending.place_of.Goals as goal

pub returns-then-edits-cell : goal.returns-then-edits-cell
returns-then-edits-cell c = pending-at _ _ _ _ c.loop-at-test.true c.index-pending-at.is c.loop-at.invariant c.if-edits-cell.true

pub loop-at-preserved : goal.loop-at-preserved
loop-at-preserved c = pending-more _ _ _ _ c.loop-at-test.true c.index-pending-at.is c.loop-at.invariant (ne_eqb _ _ c.if-edits-cell.false)
