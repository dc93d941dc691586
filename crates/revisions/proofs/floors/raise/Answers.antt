use Rattle.revisions.specs.Floors.{raised_one}
use Rattle.revisions.proofs.Raising.{map-turn, map-end}
use Rattle.revisions.proofs.floors.raise.Goals as goal

pub loop-floor-preserved : goal.loop-floor-preserved
loop-floor-preserved c = map-turn (raised_one c.args.client c.args.rev) _ _ _ _ _ c.loop-floor-test.true c.loop-floor.invariant c.raised_one.ensures

pub returns : goal.returns
returns c = map-end (raised_one c.args.client c.args.rev) _ _ _ c.loop-floor-test.false c.loop-floor.invariant
