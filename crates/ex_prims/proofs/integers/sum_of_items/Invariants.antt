use Rattle.std.proofs.Common.{◌≡◌, pos, neg_ℤ, ◌≤ℤ◌, drop}
use Rattle.ex_prims.specs.Integers.{all_integers, summed}
use Rattle.ex_prims.proofs.IntegerSums.{whole, summed_after}
use Rattle.ex_prims.proofs.integers.sum_of_items.Given as goal

-- the sum so far and what is left give the sum
abbrev pub invariant-loop-item : goal.invariant-loop-item
invariant-loop-item l = record {
  so_far : summed_after (whole l.sum l.wraps) (all_integers (drop l.item-index l.items)) ≡ summed (all_integers l.items);
  least : neg_ℤ (pos l.item-index) ≤ℤ l.wraps;
  most : l.wraps ≤ℤ pos l.item-index;
}
