use Rattle.std.proofs.Common.{Some, None, refl, sym, ◌∙◌, subst, drop}
use Rattle.ex_grammar.specs.Trees.{NoTree}
use Rattle.ex_parser.specs.Follow.{call_head}
use Rattle.ex_parser.specs.Machine.{Prefixed, InCall, listed}
use Rattle.ex_parser.specs.Shown.{token_of, tokens_of, CallShows, is_prefixed, is_call}
use Rattle.ex_parser.proofs.TokenPlaces.{of_drop, of_drop_nil}
use Rattle.ex_parser.proofs.Turns.{begins}
use Rattle.ex_parser.proofs.StepTurns.{token_there, wants_nothing, wants_prefix, wants_call, wants_first, no_items}
use Rattle.ex_parser.proofs.parser.Parser.want.Goals as goal

pub returns-in_default : goal.returns-in_default
returns-in_default c = λ s a k. wants_nothing _ _ (tokens_of c.args.tokens.now) s c.args.at (of_drop_nil c.args.tokens.now c.args.at c.in_default.ensures)

pub returns-in-Some-prefix_of : goal.returns-in-Some-prefix_of
returns-in-Some-prefix_of c = λ s a k.
    let all = tokens_of c.args.tokens.now in
    wants_prefix s c.args.at (token_of c.in-Some.token.now.kind) c.in-Some-prefix_of.prefix (of_drop c.args.tokens.now c.args.at c.in-Some.token.now _ c.in-Some.ensures.1) (sym c.in-Some-prefix_of.is ∙ c.prefix_of.ensures)
    (begins _ _ all _ s (Prefixed c.in-Some-prefix_of.prefix) c.in_ok-moved.ensures k is_prefixed refl)

pub returns-in-Some-2 : goal.returns-in-Some-2
returns-in-Some-2 c = λ s a k.
    let all = tokens_of c.args.tokens.now in
    wants_call s c.args.at c.in-Some-2.after (token_of c.in-Some.token.now.kind) c.in-Some-2.name (of_drop c.args.tokens.now c.args.at c.in-Some.token.now _ c.in-Some.ensures.1) (sym c.in_default-prefix_of.is ∙ c.prefix_of.ensures)
    (subst (λ r. CallShows all r (call_head (drop c.args.at all))) c.in-Some-2.is c.in_ok-name.ensures)
    (c.in_ok-moved-2.ensures (InCall c.in-Some-2.name 11) (listed (Some NoTree) None) is_call (no_items _ _ c.new.ensures.items refl refl) refl s k)

pub returns : goal.returns
returns c = λ s a k.
    let all = tokens_of c.args.tokens.now in
    wants_first s c.args.at (token_of c.in-Some.token.now.kind) (of_drop c.args.tokens.now c.args.at c.in-Some.token.now _ c.in-Some.ensures.1) (sym c.in_default-prefix_of.is ∙ c.prefix_of.ensures)
    (subst (λ r. CallShows all r (call_head (drop c.args.at all))) c.in_default-2.is c.in_ok-name.ensures)
    (c.in_ok-moved-3.ensures s (token_there c.args.tokens.now c.args.at c.in-Some.token.now _ a c.in-Some.ensures.1) k)
