use Rattle.std.proofs.Common.{arith}
use Rattle.delta.proofs.JoinTurns.{joining_room, joining_turn}
use Rattle.delta.proofs.composing.compose_runs.Goals as goal

pub take-requires : goal.take-requires
take-requires c = omega (arith, joining_room _ _ _ _ _ _ _ _ c.loop-a.invariant c.next_turn-turn.ensures)

pub loop-a-preserved : goal.loop-a-preserved
loop-a-preserved c = joining_turn _ _ _ _ _ _ _ _ _ c.loop-a.invariant c.next_turn-turn.ensures c.in_ok-take.ensures
