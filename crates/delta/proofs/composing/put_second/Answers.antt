use Rattle.delta.proofs.JoinTurns.{new_turn}
use Rattle.delta.proofs.composing.put_second.Goals as goal

pub returns : goal.returns
returns c = new_turn _ _ _ c.requires.first_front c.requires.second_front c.requires.stays c.requires.new c.front_of.ensures.front c.front_of.ensures.same
