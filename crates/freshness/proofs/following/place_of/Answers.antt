use Rattle.std.proofs.Common.{eq-eqb, ne_eqb}
use Rattle.freshness.specs.Marked.{is_mark_of}
use Rattle.freshness.proofs.Lists.{first-made, first-more}
use Rattle.freshness.proofs.following.place_of.Goals as goal

pub returns-then-mark-cell : goal.returns-then-mark-cell
returns-then-mark-cell c = first-made (is_mark_of c.args.cell) _ _ _ c.loop-at-test.true c.index-marks-at.is c.loop-at.invariant (eq-eqb _ _ c.if-mark-cell.true)

pub loop-at-preserved : goal.loop-at-preserved
loop-at-preserved c = first-more (is_mark_of c.args.cell) _ _ _ c.loop-at-test.true c.index-marks-at.is c.loop-at.invariant (ne_eqb _ _ c.if-mark-cell.false)
