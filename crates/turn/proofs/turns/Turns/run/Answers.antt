use Rattle.std.proofs.Common.{rules, ◌≡◌, ℕ, List, [], ◌∷◌, Some, Option, ap, sym, ◌∙◌}
use Rattle.atomic_table.specs.Table.{rest}
use Rattle.turn.proofs.Entries.{turn_taken}
use Rattle.turn.proofs.turns.Turns.run.Goals as goal

pub exchange-held-requires : goal.exchange-held-requires
exchange-held-requires g c = let h = c.enter.ensures.turn in let e : c.enter.new.seat.me.1 ≡ (0, Some h.0) ∷ [] = ap (λ m. m.1) h.2 in
    (search rules, (Some h.0, e ∙ sym (ap (λ (l : List (ℕ × Option g.row.S.Denot)). (0, Some h.0) ∷ rest l) e)))

pub returns-clause-turn : goal.returns-clause-turn
returns-clause-turn g c = turn_taken g.S.Kept.number_of _ _ _ (g.S.Kept.list c.in-Some.state) _ _ (search rules) (search rules) (search rules)
