use Rattle.std.proofs.Common.{◌≤◌, ap, arith, rules}
use Rattle.std.proofs.Math.ListN.{drop_of_length-le}
use Rattle.utf16_text.specs.Units.{unit_count}
use Rattle.delta.specs.Steps.{reach_of}
use Rattle.delta.proofs.Walk.{walked_turn, walked_cause, walked_end, drop_item}
use Rattle.delta.proofs.Delta.apply.Goals as goal

pub returns-in-Err : goal.returns-in-Err
returns-in-Err c =
    let fit : reach_of c.deref-step-items.result.now ≤ unit_count c.args.text.now = omega (arith, c.self.invariant, ap reach_of c.deref-step-items.ensures.value, ap unit_count c.as_str-rest.ensures.characters, c.unit_len-len.ensures) in
    rw (← c.loop-step.invariant.1)
    (walked_cause _ _ _ _ _ _ _ _ _ fit (drop_item _ _ _ c.loop-step-test.true c.step-item.is) c.loop-step.invariant.2 c.in-Err.ensures)

pub loop-step-preserved : goal.loop-step-preserved
loop-step-preserved c =
    let item = drop_item _ _ _ c.loop-step-test.true c.step-item.is in
    (search rules, c.loop-step.invariant.1, walked_turn _ _ _ _ _ _ _ _ _ _ _ item c.passed-at.ensures c.loop-step.invariant.2 c.in-Ok.ensures)

pub returns-in-Ok-push_counted : goal.returns-in-Ok-push_counted
returns-in-Ok-push_counted c =
    let fit : reach_of c.deref-step-items.result.now ≤ unit_count c.args.text.now = omega (arith, c.self.invariant, ap reach_of c.deref-step-items.ensures.value, ap unit_count c.as_str-rest.ensures.characters, c.unit_len-len.ensures) in
    let none = drop_of_length-le c.deref-step-items.result.now {i = c.loop-step.step-index} c.loop-step-test.false in
    rw (← c.loop-step.invariant.1, c.in-Ok-push_counted.ensures.ok) (walked_end _ _ _ _ _ fit (rw none at c.loop-step.invariant.2) (rw c.in-Ok-push_counted.ensures.ok at c.push_counted.ensures.scalars))
