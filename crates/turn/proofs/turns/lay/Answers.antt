use Rattle.std.proofs.Common.{rules, ◌≡◌, List, [], ◌∷◌, Some, Option, subst, sym}
use Rattle.atomic_table.specs.Table.{opening}
use Rattle.turn.specs.TurnRule.{TurnRule, first_view}
use Rattle.turn.proofs.Opening.{opens}
use Rattle.turn.proofs.turns.lay.Goals as goal

pub new-requires : goal.new-requires
new-requires g c = let slots : c.push.new.self.items ≡ Some c.args.state ∷ [] = search rules in
    subst (λ (x : g.row.S.Denot × List (Option g.row.S.Denot)). TurnRule g.S.Kept.list g.S.Kept.opening g.S.Kept.number_of (g.S.Kept.opening x.0) c.args.seats (opening (0 ∷ 0 ∷ 0 ∷ []) x.1 (first_view (g.S.Kept.opening x.0))))
    (λ i. (sym c.of.ensures i, sym slots i)) (opens g.S.Kept.list g.S.Kept.opening g.S.Kept.number_of c.args.state c.args.seats c.requires.seats.0 c.requires.seats.1 c.requires.empty)
