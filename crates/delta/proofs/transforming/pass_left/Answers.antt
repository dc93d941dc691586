use Rattle.delta.proofs.MoveTurns.{left_turn}
use Rattle.delta.proofs.transforming.pass_left.Goals as goal

pub returns : goal.returns
returns c = left_turn _ _ _ _ _ c.requires.left_front c.requires.right_front c.requires.new c.requires.turn c.run_len.ensures c.front_of.ensures.front c.front_of.ensures.same
