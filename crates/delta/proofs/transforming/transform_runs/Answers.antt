use Rattle.std.proofs.Common.{arith}
use Rattle.delta.proofs.MoveTurns.{moving_room, moving_turn}
use Rattle.delta.proofs.transforming.transform_runs.Goals as goal

pub take-requires : goal.take-requires
take-requires c = omega (arith, moving_room _ _ _ _ _ _ _ _ _ c.loop-l.invariant c.next_turn-turn.ensures)

pub loop-l-preserved : goal.loop-l-preserved
loop-l-preserved c = moving_turn _ _ _ _ _ _ _ _ _ _ c.loop-l.invariant c.next_turn-turn.ensures c.in_ok-take.ensures
