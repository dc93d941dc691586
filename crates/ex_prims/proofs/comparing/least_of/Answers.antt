use Rattle.std.proofs.Common.{Bool, cond, sym, ap, ◌∙◌}
use Rattle.ex_prims.proofs.Orders.{least-step}
use Rattle.ex_prims.proofs.comparing.least_of.Goals as goal
use Rattle.ex_prims.proofs.comparing.least_of.Goals.{then-gt, else-gt}

-- the lesser of the least so far and an item is the least with it
pub loop-item-preserved : goal.loop-item-preserved
loop-item-preserved c =
    let v = c.loop-item.best.now in
    let w = c.item-item.result in
    elim c.if-gt.branch [
      | then-gt t ↦ least-step c.args.rest.now c.loop-item.item-index v w c.if-gt.best.now c.loop-item-test.true c.item-item.is (ap (λ b. b.now) t.best-is ∙ sym (ap (λ (b : Bool). cond b w v) (sym c.gt.ensures ∙ t.if-gt.true))) ∙ c.loop-item.invariant
      | else-gt t ↦ least-step c.args.rest.now c.loop-item.item-index v w c.if-gt.best.now c.loop-item-test.true c.item-item.is (ap (λ b. b.now) t.best-is ∙ sym (ap (λ (b : Bool). cond b w v) (sym c.gt.ensures ∙ t.if-gt.false))) ∙ c.loop-item.invariant
    ]
