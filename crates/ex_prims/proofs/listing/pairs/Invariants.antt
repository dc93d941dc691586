use Rattle.std.proofs.Common.{◌≡◌, ◌++◌, drop}
use Rattle.ex_prims.specs.Lists.{pairs}
use Rattle.ex_prims.proofs.listing.pairs.Given as goal

-- the pairs made so far and those of the items that are left are all
abbrev pub invariant-loop-place : goal.invariant-loop-place
invariant-loop-place l = l.together.items ++ pairs (drop l.place l.left) (drop l.place l.right) ≡ pairs l.left l.right
