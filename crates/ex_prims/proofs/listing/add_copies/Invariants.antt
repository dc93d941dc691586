use Rattle.std.proofs.Common.{◌≡◌, ◌++◌, take}
use Rattle.ex_prims.proofs.listing.add_copies.Given as goal

-- the first values are behind what was there
abbrev pub invariant-loop-value : goal.invariant-loop-value
invariant-loop-value l = l.copies.items ≡ l.initial.copies.items ++ take l.value-index l.values
