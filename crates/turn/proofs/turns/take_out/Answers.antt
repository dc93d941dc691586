use Rattle.std.proofs.Common.{◌≡◌, Some, subst, sym, ◌∙◌}
use Rattle.turn.specs.TurnRule.{IsWhole}
use Rattle.turn.proofs.Closing.{last_state}
use Rattle.turn.proofs.turns.take_out.Goals as goal

pub unreachable-requires : goal.unreachable-requires
unreachable-requires g c = let idle = c.requires.seat.1 in
    let last = last_state g.S.Kept.list g.S.Kept.opening g.S.Kept.number_of _ _ _ _ _ _ _ c.close_with-closed.ensures.values.2 idle.live idle.turn c.requires.all c.take-held.ensures.value in
    c.in_default.not-Some last.0 last.1

pub returns : goal.returns
returns g c = let idle = c.requires.seat.1 in
    let last = last_state g.S.Kept.list g.S.Kept.opening g.S.Kept.number_of _ _ _ _ _ _ _ c.close_with-closed.ensures.values.2 idle.live idle.turn c.requires.all c.take-held.ensures.value in
    let same : Some last.0 ≡ Some c.in-Some.state = sym last.1 ∙ c.in-Some.is in
    let state : last.0 ≡ c.in-Some.state = cc in
    subst (IsWhole g.S.Kept.list g.S.Kept.opening g.S.Kept.number_of (g.S.Kept.opening c.args.board.shared.key.state.value) c.args.seat.me.0) state last.2
