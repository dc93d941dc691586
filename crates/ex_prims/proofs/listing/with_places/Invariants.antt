use Rattle.std.proofs.Common.{◌≡◌, ◌++◌, drop}
use Rattle.ex_prims.specs.Lists.{with_places}
use Rattle.ex_prims.proofs.ListPairs.{placed_from}
use Rattle.ex_prims.proofs.listing.with_places.Given as goal

-- the pairs made so far and those of the items that are left are all
abbrev pub invariant-loop-place : goal.invariant-loop-place
invariant-loop-place l = l.pairs.items ++ placed_from l.place (drop l.place l.items) ≡ with_places l.items
