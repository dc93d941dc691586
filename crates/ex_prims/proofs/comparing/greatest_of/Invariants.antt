use Rattle.std.proofs.Common.{◌≡◌, drop}
use Rattle.ex_prims.specs.Lists.{greatest}
use Rattle.ex_prims.proofs.comparing.greatest_of.Given as goal

-- the greatest so far and what follows give the greatest of all
abbrev pub invariant-loop-item : goal.invariant-loop-item
invariant-loop-item l = greatest l.best (drop l.item-index l.rest) ≡ greatest l.initial.best l.rest
