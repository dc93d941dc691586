use Rattle.std.proofs.Common.{refl, ◌∙◌}
use Rattle.livemd_read.proofs.Settling.{settles_first, settles_on}
use Rattle.livemd_read.proofs.settle.settle.Goals as goal

pub loop-at-init : goal.loop-at-init
loop-at-init c = settles_first c.args.items.items c.len-at.result c.nothing-behind.result (c.len-at.ensures ∙ c.args.items.ok.0) c.nothing-behind.ensures

pub loop-at-preserved : goal.loop-at-preserved
loop-at-preserved c =
    settles_on
    c.args.items.items
    c.loop-at.items.items
    _
    _
    c.loop-at.at
    _
    c.take_at-item.result
    _
    c.settle.result
    c.loop-at.behind
    c.with-before.result
    c.loop-at-test.true
    refl
    c.take_at-item.ensures.value
    c.take_at-item.ensures.after
    c.put_at.ensures
    c.settle.ensures
    c.with-before.ensures
    c.loop-at.invariant
