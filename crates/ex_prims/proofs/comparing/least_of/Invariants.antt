use Rattle.std.proofs.Common.{◌≡◌, drop}
use Rattle.ex_prims.specs.Lists.{least}
use Rattle.ex_prims.proofs.comparing.least_of.Given as goal

-- the least so far and what follows give the least of all
abbrev pub invariant-loop-item : goal.invariant-loop-item
invariant-loop-item l = least l.best (drop l.item-index l.rest) ≡ least l.initial.best l.rest
