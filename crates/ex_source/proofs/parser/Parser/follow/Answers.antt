use Rattle.std.proofs.Common.{sym, subst, refl, ◌∷◌, drop}
use Rattle.ex_model.specs.At.{IsAt}
use Rattle.ex_source.specs.Shown.{Turned, Tops}
use Rattle.ex_source.specs.declared.parser.Move.TheVariants.{Held}
use Rattle.ex_source.specs.Machine.{reduce}
use Rattle.ex_source.proofs.Stacks.{follow_shift, follow_shut, follow_complete}
use Rattle.ex_source.proofs.parser.Parser.follow.Goals as goal

pub returns-in_ok-wanted-in-Shift : goal.returns-in_ok-wanted-in-Shift
returns-in_ok-wanted-in-Shift c = λ all s t u i h it e.
    follow_shift _ _ _ _ c.args.lexeme.now c.floor.result c.is_bracket.result s t u all _ _ _ i (c.floor.ensures _ s h) (c.is_bracket.ensures _ s h) h it _ c.in-Shift.ensures c.in_ok-wanted-in-Shift.ensures

pub returns-in-Shut : goal.returns-in-Shut
returns-in-Shut c = λ all s t u i h it e.
    follow_shut _ _ _ _ c.args.lexeme.now c.floor.result c.is_bracket.result s t u all c.args.after c.args.i (Held c.args.after c.args.i) i (c.floor.ensures _ s h) (c.is_bracket.ensures _ s h) h it _ _ c.in-Shut.ensures (c.top.ensures.stack _ s h) c.top.ensures.nodes refl

pub returns-in_ok-done-in-Complete : goal.returns-in_ok-done-in-Complete
returns-in_ok-done-in-Complete c = λ all s t u i h it e.
    let n = c.top-top.ensures.nodes in
    follow_complete _ _ _ _ c.args.lexeme.now c.floor.result c.is_bracket.result s t u all _ _ _ i (c.floor.ensures _ s h) (c.is_bracket.ensures _ s h) h it c.in-Complete.ensures
    (subst (λ v. Turned v c.complete.new.self.nodes.items c.complete.new.self.stack.items all c.in_ok-done-in-Complete.done (reduce s t (u ∷ drop c.args.after all))) n
    (c.in_ok-done-in-Complete.ensures all s t _ (subst (λ v. Tops v c.top-top.new.self.stack.items c.top-top.result s) (sym n) (c.top-top.ensures.stack _ s h)) (subst (λ v. IsAt v c.args.i t) (sym n) it) e))
