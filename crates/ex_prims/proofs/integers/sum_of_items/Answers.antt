use Rattle.std.proofs.Common.{◌+ℤ◌, FitsSigned, to_z, of_z, arith, rules, ◌∙◌}
use Rattle.std.specs.Int.{w128}
use Rattle.std.proofs.lemmas.Int.{ints}
use Rattle.ex_prims.proofs.IntegerSums.{whole, whole-wide, sum-next, sum-stops, sum-last}
use Rattle.ex_prims.proofs.integers.sum_of_items.Goals as goal

pub returns-in_err-number : goal.returns-in_err-number
returns-in_err-number c =
    let stops = sum-stops c.args.items.now c.loop-item.item-index c.item-item.result (whole (to_z w128 c.loop-item.sum-bits) (to_z w128 c.loop-item.wraps-bits)) _ c.loop-item-test.true c.item-item.is c.loop-item.invariant.so_far in
    let known = stops c.in_err-number.field-0.0 c.in_err-number.ensures in
    search (rules, known)

pub loop-item-preserved : goal.loop-item-preserved
loop-item-preserved c =
    let fits : FitsSigned w128 c.added-cut.result.0 = search rules in
    let missing : FitsSigned w128 c.added-cut.result.1 = search rules in
    let number : FitsSigned w128 c.in_ok-number.number = search rules in
    record {
      so_far = sum-next c.args.items.now c.loop-item.item-index c.item-item.result (to_z w128 c.loop-item.sum-bits) c.added-cut.result.0 (to_z w128 c.loop-item.wraps-bits) c.added-cut.result.1 c.in_ok-number.number (to_z w128 (of_z w128 c.added-cut.result.0)) (to_z w128 (of_z w128 (to_z w128 c.loop-item.wraps-bits +ℤ to_z w128 (of_z w128 c.added-cut.result.1)))) _ c.loop-item-test.true c.item-item.is c.in_ok-number.ensures (omega (arith, ints, c.added-cut.ensures.whole)) (omega (arith, ints)) (omega (arith, ints, c.added-cut.ensures.least, c.added-cut.ensures.most)) c.loop-item.invariant.so_far;
      least = omega (arith, ints, c.added-cut.ensures.least, c.added-cut.ensures.most);
      most = omega (arith, ints, c.added-cut.ensures.least, c.added-cut.ensures.most);
    }

pub returns-else-wraps-eq0 : goal.returns-else-wraps-eq0
returns-else-wraps-eq0 c =
    let fits : FitsSigned w128 (to_z w128 c.loop-item.sum-bits) = search rules in
    sum-last c.args.items.now c.loop-item.item-index (whole (to_z w128 c.loop-item.sum-bits) (to_z w128 c.loop-item.wraps-bits)) _ c.loop-item-test.false c.loop-item.invariant.so_far
    ∙ whole-wide (to_z w128 c.loop-item.sum-bits) (to_z w128 c.loop-item.wraps-bits) fits (λ e. grind (arith, ints, e, c.if-wraps-eq0.false))
