use Rattle.std.proofs.Common.{rules, ◌≡◌, ℕ, ◌≤◌, max, [], ◌∷◌, ◌++◌, map, ap, sym, subst, ◌∙◌, arith}
use Rattle.std.specs.Prelude.{All}
use Rattle.std.proofs.lemmas.List.{map-append}
use mathlib.Core.List.{append_assoc}
use Rattle.std.specs.Vec.Iter.{into_iter_items}
use Rattle.turn.specs.Passes.{Pass}
use Rattle.turn.specs.TurnRule.{end_of, end_of_pass}
use Rattle.turn.proofs.Places.{of_all}
use Rattle.turn.proofs.Seats.{joins}
use Rattle.turn.proofs.Closing.{told_more}
use Rattle.turn.proofs.turns.gather.Goals as goal

pub join_seat-requires : goal.join_seat-requires
join_seat-requires g c = let at = c.loop-pass in let p = c.in-Some.pass in
    let Home : Pass g.row.S-Opening.Denot g.row.S-Entry.Denot → Type 0 = λ p. p.home ≡ c.args.board.now.shared.table_id in
    let steps : into_iter_items at.pass-iterator ≡ p ∷ into_iter_items c.next.new.self = c.in-Some.ensures.steps.0 in
    let whole : c.args.passes.items ≡ at.yielded ++ p ∷ into_iter_items c.next.new.self = sym (c.into_iter-pass-iterator.ensures.into_iter_gives.0) ∙ (sym at.invariant.rest ∙ ap (λ l. at.yielded ++ l) steps) in
    let home = of_all Home at.yielded (into_iter_items c.next.new.self) p (subst (All Home) whole c.requires.passes) in
    let mine = at.invariant.idle in let theirs = c.pass.invariant.0 in (
      at.invariant.own.0 ∙ c.requires.seat.0,
      ap (λ p. p.home) c.pass.view_is ∙ home,
      theirs.hand,
      c.requires.board,
      joins g.S.Kept.list g.S.Kept.opening g.S.Kept.number_of _ _ _ _ _ _ mine.live theirs.live mine.ticket theirs.ticket mine.turn theirs.turn,
    )

pub loop-pass-preserved : goal.loop-pass-preserved
loop-pass-preserved g c = let at = c.loop-pass in let p = c.in-Some.pass in let n : ℕ = at.seat.me.0.known in
    let is : c.join_seat.new.seat.me.0.known ≡ max n p.known = ap (λ m. m.0.known) c.join_seat.ensures.2 ∙ ap (max n) (ap (λ p. p.known) c.pass.view_is) in
    let w = c.pass.inside.seat.me.0 in let first = c.args.seat.now.me.0.ended in
    let same : end_of w ≡ end_of_pass p = λ i. record { number = (c.pass.invariant.2 ∙ ap (λ p. p.number) c.pass.view_is) i; seen = ap (λ p. p.seen) c.pass.view_is i } in
    let more = told_more n at.yielded p at.invariant.known.1 in let least = at.invariant.known.0 in record {
      rest = append_assoc at.yielded (p ∷ []) (into_iter_items c.next.new.self) ∙ (ap (λ l. at.yielded ++ l) (sym c.in-Some.ensures.steps.0) ∙ at.invariant.rest);
      len = search rules;
      own = search rules;
      idle = search rules;
      same = search rules;
      ended = ap (λ m. m.0.ended) c.join_seat.ensures.2 ∙ ((λ i. at.seat.me.0.ended ++ same i ∷ c.pass.invariant.1.ended i) ∙ (ap (λ l. l ++ end_of_pass p ∷ []) at.invariant.ended
          ∙ (append_assoc first (map end_of_pass at.yielded) (end_of_pass p ∷ []) ∙ ap (λ l. first ++ l) (sym (map-append end_of_pass at.yielded (p ∷ []))))));
      known = subst (λ (k : ℕ). (c.args.seat.now.me.0.known ≤ k) × All (λ (q : Pass g.row.S-Opening.Denot g.row.S-Entry.Denot). q.known ≤ k) (at.yielded ++ p ∷ [])) (sym is) (omega arith, more);
    }
