use Rattle.std.proofs.Common.{◌≡◌, ◌≤◌, ◌++◌, map, length}
use Rattle.std.specs.Prelude.{All}
use Rattle.std.specs.Vec.Iter.{into_iter_items, into_iter_len}
use Rattle.turn.specs.TurnRule.{IsIdle, end_of_pass}
use Rattle.turn.proofs.turns.gather.Given as goal

-- the seats of the passes so far have ended, in this one
abbrev pub invariant-loop-pass : goal.invariant-loop-pass
invariant-loop-pass g l = record {
  rest : l.yielded ++ into_iter_items l.pass-iterator ≡ into_iter_items l.initial.pass-iterator;
  len : into_iter_len l.pass-iterator ≡ length (into_iter_items l.pass-iterator);
  own : (l.seat.table_id ≡ l.fn.seat.table_id) × (l.seat.id ≡ l.fn.seat.id);
  idle : IsIdle l.seat.me;
  same : (l.seat.me.0.number ≡ l.fn.seat.me.0.number) × (l.seat.me.0.alone ≡ l.fn.seat.me.0.alone);
  ended : l.seat.me.0.ended ≡ l.fn.seat.me.0.ended ++ map end_of_pass l.yielded;
  known : (l.fn.seat.me.0.known ≤ l.seat.me.0.known) × All (λ p. p.known ≤ l.seat.me.0.known) l.yielded;
}
