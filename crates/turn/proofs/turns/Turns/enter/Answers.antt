use Rattle.std.proofs.Common.{rules, ap, ◌∙◌}
use Rattle.turn.specs.TurnRule.{is_live}
use Rattle.turn.proofs.Steps.{draws, looks}
use Rattle.turn.proofs.turns.Turns.enter.Goals as goal

pub fetch_add-ticket-requires : goal.fetch_add-ticket-requires
fetch_add-ticket-requires g c = let i = c.requires.idle in (search rules, search rules, draws g.S.Kept.list g.S.Kept.opening g.S.Kept.number_of _ _ _ _ _ i.live i.ticket i.turn)

pub load-requires : goal.load-requires
load-requires g c = let m = c.loop.invariant.2 in let i = c.requires.idle in
    (search rules, search rules, looks g.S.Kept.list g.S.Kept.opening g.S.Kept.number_of _ _ _ _ _ m.0 (ap (λ m. is_live m.0) m.2 ∙ i.live) (ap (λ m. m.1) m.2) (ap (λ m. m.0.ticket) m.2) (ap (λ m. m.0.turn) m.2))
