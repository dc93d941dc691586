use Rattle.std.proofs.Common.{◌∷◌, drop, sym, subst}
use Rattle.ex_source.specs.Lexemes.{mark_token}
use Rattle.ex_source.specs.Shown.{is_bracket, Turned}
use Rattle.ex_source.specs.Machine.{Bracket, want}
use Rattle.ex_source.proofs.Stacks.{begun_turned}
use Rattle.ex_source.proofs.parser.Parser.first_mark.Goals as goal

pub returns-in_ok-wanted-in-Opening : goal.returns-in_ok-wanted-in-Opening
returns-in_ok-wanted-in-Opening c = λ all s h.
    subst (λ v. Turned c.args.self.now.nodes.items c.begun.new.self.nodes.items c.begun.new.self.stack.items all c.in_ok-wanted-in-Opening.wanted (want s (mark_token v ∷ drop c.args.after all))) (sym c.in-Opening.is)
    (begun_turned _ _ _ _ _ all _ _ s Bracket c.in_ok-wanted-in-Opening.ensures h is_bracket)
