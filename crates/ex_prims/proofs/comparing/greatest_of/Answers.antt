use Rattle.std.proofs.Common.{Bool, cond, sym, ap, ◌∙◌}
use Rattle.ex_prims.proofs.Orders.{greatest-step}
use Rattle.ex_prims.proofs.comparing.greatest_of.Goals as goal
use Rattle.ex_prims.proofs.comparing.greatest_of.Goals.{then-lt, else-lt}

-- the greater of the greatest so far and an item is the greatest with it
pub loop-item-preserved : goal.loop-item-preserved
loop-item-preserved c =
    let v = c.loop-item.best.now in
    let w = c.item-item.result in
    elim c.if-lt.branch [
      | then-lt t ↦ greatest-step c.args.rest.now c.loop-item.item-index v w c.if-lt.best.now c.loop-item-test.true c.item-item.is (ap (λ b. b.now) t.best-is ∙ sym (ap (λ (b : Bool). cond b w v) (sym c.lt.ensures ∙ t.if-lt.true))) ∙ c.loop-item.invariant
      | else-lt t ↦ greatest-step c.args.rest.now c.loop-item.item-index v w c.if-lt.best.now c.loop-item-test.true c.item-item.is (ap (λ b. b.now) t.best-is ∙ sym (ap (λ (b : Bool). cond b w v) (sym c.lt.ensures ∙ t.if-lt.false))) ∙ c.loop-item.invariant
    ]
