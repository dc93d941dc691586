use Rattle.turn.specs.Passes.{Belongs}
use Rattle.check_turns.proofs.strokes.strike_often.Given as goal

abbrev pub invariant-loop-turn : goal.invariant-loop-turn
invariant-loop-turn g l = Belongs l.pass l.turns
