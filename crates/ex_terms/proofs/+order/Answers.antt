use Rattle.std.proofs.Common.{◌+◌, drop, refl, sym, ap, ◌∙◌, arith}
use Rattle.std.specs.Ordering.{ordering_then}
use Rattle.ex_terms.specs.Seen.{terms_of}
use Rattle.ex_terms.specs.Order.{order_all}
use Rattle.ex_terms.proofs.Ordering.{order-next, order-end, at-end, tuples-by, count-at}
use Rattle.ex_terms.proofs.+order.Goals as goal

pub value::order_items-loop-place-init : goal.value::order_items-loop-place-init
value::order_items-loop-place-init t c = record { rest = refl; within = omega arith }

-- an item is smaller than all of them
pub value::order_items-order-requires : goal.value::order_items-order-requires
value::order_items-order-requires t c = let small = count-at c.args.left.now c.loop-place.place c.index-left-place.result (omega (arith, c.loop-place-test.true, c.min-place-end.ensures)) c.index-left-place.is in (omega (arith, small, c.decreases), tt)

pub value::order_items-returns-in-Less : goal.value::order_items-returns-in-Less
value::order_items-returns-in-Less t c =
    let o = sym c.in-Less.is ∙ c.order.ensures in
    ap (λ k. ordering_then k (order_all (terms_of (drop (c.loop-place.place + 1) c.args.left.now)) (terms_of (drop (c.loop-place.place + 1) c.args.right.now)))) o ∙ sym (c.loop-place.invariant.rest ∙ order-next c.args.left.now c.args.right.now c.loop-place.place c.index-left-place.result c.index-right-place.result (omega (arith, c.loop-place-test.true, c.min-place-end.ensures)) (omega (arith, c.loop-place-test.true, c.min-place-end.ensures)) c.index-left-place.is c.index-right-place.is)

pub value::order_items-returns-in-Greater : goal.value::order_items-returns-in-Greater
value::order_items-returns-in-Greater t c =
    let o = sym c.in-Greater.is ∙ c.order.ensures in
    ap (λ k. ordering_then k (order_all (terms_of (drop (c.loop-place.place + 1) c.args.left.now)) (terms_of (drop (c.loop-place.place + 1) c.args.right.now)))) o ∙ sym (c.loop-place.invariant.rest ∙ order-next c.args.left.now c.args.right.now c.loop-place.place c.index-left-place.result c.index-right-place.result (omega (arith, c.loop-place-test.true, c.min-place-end.ensures)) (omega (arith, c.loop-place-test.true, c.min-place-end.ensures)) c.index-left-place.is c.index-right-place.is)

pub value::order_items-loop-place-preserved : goal.value::order_items-loop-place-preserved
value::order_items-loop-place-preserved t c =
    let o = sym c.in-Equal.is ∙ c.order.ensures in
    record {
      rest = c.loop-place.invariant.rest ∙ (order-next c.args.left.now c.args.right.now c.loop-place.place c.index-left-place.result c.index-right-place.result (omega (arith, c.loop-place-test.true, c.min-place-end.ensures)) (omega (arith, c.loop-place-test.true, c.min-place-end.ensures)) c.index-left-place.is c.index-right-place.is ∙ sym (ap (λ k. ordering_then k (order_all (terms_of (drop (c.loop-place.place + 1) c.args.left.now)) (terms_of (drop (c.loop-place.place + 1) c.args.right.now)))) o));
      within = omega (arith, c.loop-place-test.true, c.min-place-end.ensures);
    }

pub value::order_items-returns : goal.value::order_items-returns
value::order_items-returns t c = c.cmp.ensures ∙ sym (c.loop-place.invariant.rest ∙ order-end c.loop-place.place c.args.left.now c.args.right.now (omega (arith, c.loop-place.invariant.within)) (omega (arith, c.loop-place.invariant.within)) (at-end _ _ c.loop-place.place (omega (arith, c.loop-place-test.false, c.min-place-end.ensures))))

-- the numbers of items decide, unless they are equal
pub value::order_tuples-returns-in-Less : goal.value::order_tuples-returns-in-Less
value::order_tuples-returns-in-Less t c = tuples-by c.args.left.now c.args.right.now _ (sym c.in-Less.is ∙ c.cmp.ensures)

pub value::order_tuples-returns-in-Greater : goal.value::order_tuples-returns-in-Greater
value::order_tuples-returns-in-Greater t c = tuples-by c.args.left.now c.args.right.now _ (sym c.in-Greater.is ∙ c.cmp.ensures)

pub value::order_tuples-returns-in-Equal : goal.value::order_tuples-returns-in-Equal
value::order_tuples-returns-in-Equal t c = c.order_items.ensures ∙ tuples-by c.args.left.now c.args.right.now _ (sym c.in-Equal.is ∙ c.cmp.ensures)
