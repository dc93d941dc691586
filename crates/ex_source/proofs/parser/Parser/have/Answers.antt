use Rattle.std.proofs.Common.{sym, subst}
use Rattle.ex_model.specs.At.{IsAt}
use Rattle.ex_source.specs.Shown.{Turned, Tops}
use Rattle.ex_source.specs.Machine.{reduce}
use Rattle.ex_source.proofs.Stacks.{have_none, have_some}
use Rattle.ex_source.proofs.parser.Parser.have.Goals as goal

pub returns-in_ok-done-in-None : goal.returns-in_ok-done-in-None
returns-in_ok-done-in-None c = λ all s t rest a h it r.
    let n = c.top-top.ensures.nodes in
    have_none _ _ _ c.args.tokens.now all rest _ c.args.at s t a c.in-None.ensures r
    (subst (λ v. Turned v c.complete.new.self.nodes.items c.complete.new.self.stack.items all c.in_ok-done-in-None.done (reduce s t rest)) n
    (c.in_ok-done-in-None.ensures all s t rest (subst (λ v. Tops v c.top-top.new.self.stack.items c.top-top.result s) (sym n) (c.top-top.ensures.stack _ s h)) (subst (λ v. IsAt v c.args.i t) (sym n) it) r))

pub returns-in_ok-done-in-Some : goal.returns-in_ok-done-in-Some
returns-in_ok-done-in-Some c = λ all s t rest a h it r.
    have_some _ _ _ c.args.tokens.now all rest _ c.args.at s t c.in-Some.lexeme.now a r c.in-Some.ensures.1 (λ u i e. c.in_ok-done-in-Some.ensures all s t u i h it e)
