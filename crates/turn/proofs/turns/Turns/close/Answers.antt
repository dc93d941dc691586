use Rattle.std.proofs.Common.{ℕ, ◌≤◌, List, ◌++◌, map, ap, sym, subst, ◌∙◌}
use Rattle.turn.specs.Passes.{Pass, HaveSeen, IsAllOf, WereTold}
use Rattle.turn.specs.TurnRule.{end_of_pass}
use Rattle.turn.proofs.Closing.{of_passes, told_all}
use Rattle.turn.proofs.turns.Turns.close.Goals as goal

known : (g : _) (c : goal.After-take_out g) → HaveSeen g.S.Kept.number_of c.args.passes.items (g.S.Kept.list c.take_out.result) × IsAllOf g.S.Kept.number_of c.args.passes.items (g.S.Kept.list c.take_out.result)
known g c = let inside = c.last.inside.seat.me.0 in let single = c.last.invariant.1 in
    subst (λ (l : List (Pass g.row.S-Opening.Denot g.row.S-Entry.Denot)). HaveSeen g.S.Kept.number_of l (g.S.Kept.list c.take_out.result) × IsAllOf g.S.Kept.number_of l (g.S.Kept.list c.take_out.result))
    (sym c.in-Some.ensures.items)
    (of_passes g.S.Kept.list g.S.Kept.opening g.S.Kept.number_of _ c.gather.new.seat.me.0 c.take_out.result c.pop.new.self.items c.in-Some.last c.take_out.ensures
    c.gather.ensures.seat.2.live
    (c.gather.ensures.same.0 ∙ (c.last.invariant.2 ∙ ap (λ p. p.number) c.last.view_is))
    (c.gather.ensures.same.1 ∙ (single.alone ∙ ap (λ p. p.seen) c.last.view_is))
    (c.gather.ensures.ended ∙ ap (λ l. l ++ map end_of_pass c.pop.new.self.items) single.ended))

pub returns-clause-seen : goal.returns-clause-seen
returns-clause-seen g c = (known g c).0

pub returns-clause-others : goal.returns-clause-others
returns-clause-others g c = (known g c).1

pub returns-clause-known : goal.returns-clause-known
returns-clause-known g c = subst (λ (l : List (Pass g.row.S-Opening.Denot g.row.S-Entry.Denot)). WereTold l (g.S.Kept.list c.take_out.result)) (sym c.in-Some.ensures.items)
    (told_all c.gather.new.seat.me.0.known (g.S.Kept.list c.take_out.result) c.pop.new.self.items c.in-Some.last c.take_out.ensures.known c.gather.ensures.known.1
    (subst (λ (n : ℕ). n ≤ c.gather.new.seat.me.0.known) (ap (λ p. p.known) c.last.view_is) c.gather.ensures.known.0))
