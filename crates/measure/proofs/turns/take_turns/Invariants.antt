use Rattle.turn.specs.Passes.{Belongs}
use Rattle.measure.proofs.turns.take_turns.Given as goal

abbrev pub invariant-loop : goal.invariant-loop
invariant-loop g l = Belongs l.pass l.lock
