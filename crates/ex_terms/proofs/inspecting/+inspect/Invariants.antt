use Rattle.std.proofs.Common.{◌≡◌, ◌+◌, ◌*◌, ◌++◌, drop, string_bytes}
use Rattle.ex_terms.specs.Terms.{count, counts}
use Rattle.ex_terms.specs.Seen.{term_of, terms_of}
use Rattle.ex_terms.specs.Printed.{all_inspected, items_left}
use Rattle.ex_terms.proofs.inspecting.+inspect.Given as goal

abbrev pub decreases-push_value : goal.decreases-push_value
decreases-push_value l = 2 * count (term_of l.value.now)

abbrev pub decreases-push_items : goal.decreases-push_items
decreases-push_items l = 2 * counts (terms_of l.values.now) + 1

-- what is put so far and the items that are left are all
abbrev pub invariant-push_items-loop-value : goal.invariant-push_items-loop-value
invariant-push_items-loop-value l = string_bytes l.out ++ items_left l.is_first (terms_of (drop l.value-index l.values)) ≡ string_bytes l.initial.out ++ all_inspected (terms_of l.values)
