use Rattle.delta.proofs.JoinTurns.{join_turn}
use Rattle.delta.proofs.composing.join_runs.Goals as goal

pub returns : goal.returns
returns c =
    join_turn _ _ _ _ _ _ c.joint_run-m.ensures.some c.requires.first_front c.requires.second_front c.past.ensures c.past-2.ensures c.joined_piece.ensures c.joint_run-m.ensures.left_run c.joint_run-m.ensures.right_run c.requires.stays c.requires.old c.requires.more
