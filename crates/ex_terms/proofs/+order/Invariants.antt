use Rattle.std.proofs.Common.{◌≡◌, ◌≤◌, ◌+◌, ◌*◌, length, drop, min}
use Rattle.ex_terms.specs.Terms.{count, counts}
use Rattle.ex_terms.specs.Seen.{term_of, terms_of}
use Rattle.ex_terms.specs.Order.{order_all}
use Rattle.ex_terms.proofs.+order.Given as goal

abbrev pub decreases-values::Value::order : goal.decreases-values::Value::order
decreases-values::Value::order l = 3 * count (term_of l.self.now)

abbrev pub decreases-value::order_tuples : goal.decreases-value::order_tuples
decreases-value::order_tuples l = 3 * counts (terms_of l.left.now) + 2

abbrev pub decreases-value::order_items : goal.decreases-value::order_items
decreases-value::order_items l = 3 * counts (terms_of l.left.now) + 1

-- the items so far are equal, so what follows them decides
abbrev pub invariant-value::order_items-loop-place : goal.invariant-value::order_items-loop-place
invariant-value::order_items-loop-place l = record {
  rest : order_all (terms_of l.left) (terms_of l.right) ≡ order_all (terms_of (drop l.place l.left)) (terms_of (drop l.place l.right));
  within : l.place ≤ min (length l.left) (length l.right);
}
