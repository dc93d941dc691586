use Rattle.std.proofs.Common.{string_bytes, arith}
use Rattle.ex_terms.proofs.Ordering.{count-at}
use Rattle.ex_terms.proofs.Printing.{item-more, items-done}
use Rattle.ex_terms.proofs.inspecting.+inspect.Goals as goal

pub push_items-loop-value-preserved : goal.push_items-loop-value-preserved
push_items-loop-value-preserved t c = item-more c.args.values.now c.loop-value.value-index c.value-item.result c.loop-value.is_first (string_bytes c.loop-value.out) (string_bytes c.push_comma.new.out) (string_bytes c.push_value.new.out) _ c.loop-value-test.true c.value-item.is c.in_ok-push_comma.ensures c.in_ok-push_value.ensures c.loop-value.invariant

pub push_items-returns : goal.push_items-returns
push_items-returns t c = items-done c.args.values.now c.loop-value.value-index c.loop-value.is_first (string_bytes c.loop-value.out) _ c.loop-value-test.false c.loop-value.invariant

-- an item is smaller than all of them
pub push_items-push_value-requires : goal.push_items-push_value-requires
push_items-push_value-requires t c = let small = count-at c.args.values.now c.loop-value.value-index c.value-item.result c.loop-value-test.true c.value-item.is in (omega (arith, small, c.decreases), tt)
