use Rattle.std.proofs.Common.{eq-eqb, ne_eqb}
use Rattle.lanes.specs.Changes.{is_eval}
use Rattle.lanes.proofs.Lists.{first-made, first-more}
use Rattle.lanes.proofs.change.place_of_eval.Goals as goal

pub returns-then-it-eval : goal.returns-then-it-eval
returns-then-it-eval c = first-made (is_eval c.args.eval) _ _ _ c.loop-at-test.true c.index-running-at.is c.loop-at.invariant (eq-eqb _ _ c.if-it-eval.true)

pub loop-at-preserved : goal.loop-at-preserved
loop-at-preserved c = first-more (is_eval c.args.eval) _ _ _ c.loop-at-test.true c.index-running-at.is c.loop-at.invariant (ne_eqb _ _ c.if-it-eval.false)
