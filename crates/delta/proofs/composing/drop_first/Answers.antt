use Rattle.delta.proofs.JoinTurns.{gone_turn}
use Rattle.delta.proofs.composing.drop_first.Goals as goal

pub returns : goal.returns
returns c = gone_turn _ _ _ c.requires.first_front c.requires.second_front c.requires.gone c.front_of.ensures.front c.front_of.ensures.same
