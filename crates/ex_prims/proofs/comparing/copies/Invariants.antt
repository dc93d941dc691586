use Rattle.std.proofs.Common.{◌≡◌, take}
use Rattle.ex_prims.proofs.comparing.copies.Given as goal

abbrev pub invariant-loop-item : goal.invariant-loop-item
invariant-loop-item l = l.values.items ≡ take l.item-index l.items
