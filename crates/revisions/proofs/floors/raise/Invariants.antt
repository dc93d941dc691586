use Rattle.std.proofs.Common.{◌≡◌, ◌++◌, drop, take, map}
use Rattle.revisions.specs.Floors.{raised_one}
use Rattle.revisions.proofs.floors.raise.Given as goal

abbrev pub invariant-loop-floor : goal.invariant-loop-floor
invariant-loop-floor l = l.floors ≡ map (raised_one l.client l.rev) (take l.floor-index l.fn.floors) ++ drop l.floor-index l.fn.floors
