use Rattle.std.proofs.Common.{◌≡◌, ℕ, ◌%◌, ◌^◌, [], Some}
use Rattle.turn.specs.TurnRule.{with_ticket}
use Rattle.turn.proofs.turns.Turns.enter.Given as goal

-- a ticket is drawn, and its turn has not come
abbrev pub invariant-loop : goal.invariant-loop
invariant-loop g l =
    (l.seat.table_id ≡ l.fn.seat.table_id) × (l.seat.id ≡ l.fn.seat.id) × ((t : ℕ) × (l.ticket ≡ t % 2 ^ 64) × (l.seat.me ≡ (with_ticket g.S.Kept.list g.S.Kept.opening g.S.Kept.number_of l.fn.seat.me.0 (Some t), [])))
