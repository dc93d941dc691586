use Rattle.delta.proofs.MoveTurns.{move_turn}
use Rattle.delta.proofs.transforming.turn_runs.Goals as goal

pub returns : goal.returns
returns c =
    move_turn _ _ _ _ _ _ _ c.joint_run-m.ensures.some c.requires.left_front c.requires.right_front c.past.ensures c.past-2.ensures c.moved_piece.ensures c.joint_run-m.ensures.left_run c.joint_run-m.ensures.right_run c.requires.left_old c.requires.right_old c.requires.more
