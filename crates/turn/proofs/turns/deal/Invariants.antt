use Rattle.std.proofs.Common.{◌≡◌, ◌+◌, []}
use Rattle.turn.specs.Passes.{fresh_passes}
use Rattle.turn.proofs.Opening.{made_view}
use Rattle.turn.proofs.turns.deal.Given as goal

-- the passes of the numbers so far are dealt, and the newest seat has the next number
abbrev pub invariant-loop-number : goal.invariant-loop-number
invariant-loop-number g l = record {
  own : l.seat.table_id ≡ l.fn.first.table_id;
  newest : l.seat.me ≡ (made_view (g.S.Kept.opening l.board.shared.key.state.value) l.number (l.number + 1), []);
  dealt : l.passes.items ≡ fresh_passes l.board.shared.table_id (g.S.Kept.opening l.board.shared.key.state.value) l.number;
}
