use Rattle.std.proofs.Common.{rules, ◌≡◌, ◌+◌, ap, arith}
use Rattle.turn.specs.TurnRule.{is_live}
use Rattle.turn.proofs.Seats.{splits}
use Rattle.turn.proofs.turns.deal.Goals as goal

pub split_seat-next-requires : goal.split_seat-next-requires
split_seat-next-requires g c = let new = c.loop-number.invariant.newest in
    let made : c.loop-number.seat.me.0.made ≡ c.loop-number.number + 1 = ap (λ m. m.0.made) new in (
      search rules,
      search rules,
      splits g.S.Kept.list g.S.Kept.opening g.S.Kept.number_of _ _ _ _ (ap (λ m. is_live m.0) new) (ap (λ m. m.0.turn) new) (omega arith) (omega arith),
    )
