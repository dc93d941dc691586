use Rattle.std.proofs.Common.{◌≡◌, drop}
use Rattle.revisions.specs.Floors.{has_floor}
use Rattle.revisions.proofs.floors.has_floor.Given as goal

abbrev pub invariant-loop-floor : goal.invariant-loop-floor
invariant-loop-floor l = has_floor l.client l.floors ≡ has_floor l.client (drop l.floor-index l.floors)
