use Rattle.std.proofs.Common.{◌≡◌, drop}
use Rattle.revisions.specs.Floors.{lowest}
use Rattle.revisions.proofs.floors.lowest.Given as goal

abbrev pub invariant-loop-floor : goal.invariant-loop-floor
invariant-loop-floor l = lowest l.rev l.floors ≡ lowest l.least (drop l.floor-index l.floors)
