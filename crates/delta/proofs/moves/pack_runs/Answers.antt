use Rattle.std.proofs.Common.{arith}
use Rattle.delta.proofs.PackTurns.{packing_room, packing_turn}
use Rattle.delta.proofs.moves.pack_runs.Goals as goal

pub take-requires : goal.take-requires
take-requires c = omega (arith, packing_room _ _ _ _ _ c.loop-run.invariant c.loop-run-test.true c.run-item.is c.head_of.ensures)

pub loop-run-preserved : goal.loop-run-preserved
loop-run-preserved c = packing_turn _ _ _ _ _ _ c.loop-run.invariant c.loop-run-test.true c.run-item.is c.head_of.ensures c.in_ok-take.ensures
