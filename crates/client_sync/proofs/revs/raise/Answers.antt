use Rattle.client_sync.specs.Revisions.{raised_one}
use Rattle.client_sync.proofs.Revisions.{map-turn, map-end}
use Rattle.client_sync.proofs.revs.raise.Goals as goal

pub loop-entry-preserved : goal.loop-entry-preserved
loop-entry-preserved c = map-turn (raised_one c.args.cell c.args.rev) _ _ _ _ _ c.loop-entry-test.true c.loop-entry.invariant c.raised_one.ensures

pub returns : goal.returns
returns c = map-end (raised_one c.args.cell c.args.rev) _ _ _ c.loop-entry-test.false c.loop-entry.invariant
