use Rattle.delta.proofs.MoveTurns.{right_turn}
use Rattle.delta.proofs.transforming.put_right.Goals as goal

pub returns : goal.returns
returns c = right_turn _ _ _ _ c.requires.left_front c.requires.right_front c.requires.turn c.front_of.ensures.front c.front_of.ensures.same
