use Rattle.std.proofs.Common.{drop, refl}
use Rattle.ex_grammar.specs.declared.token.Keyword.TheVariants as K
use Rattle.ex_grammar.specs.declared.token.WordValue.TheVariants as W
use Rattle.ex_parser.specs.Machine.{want_word, Condition, Subject, ForPattern}
use Rattle.ex_parser.specs.Shown.{tokens_of, is_condition, is_subject, is_for_pattern}
use Rattle.ex_parser.proofs.Turns.{begins}
use Rattle.ex_parser.proofs.FirstTurns.{at_same, reads_word}
use Rattle.ex_parser.proofs.parser.Parser.first_word.Goals as goal

pub returns-in_ok-moved-in-True : goal.returns-in_ok-moved-in-True
returns-in_ok-moved-in-True c = λ s k.
    let all = tokens_of c.args.tokens.now in
    at_same (λ w. want_word w s (drop c.args.after all)) K.True c.args.word c.in-True.is (reads_word _ W.True all s c.in_ok-moved-in-True.ensures k)

pub returns-in_ok-moved-in-False : goal.returns-in_ok-moved-in-False
returns-in_ok-moved-in-False c = λ s k.
    let all = tokens_of c.args.tokens.now in
    at_same (λ w. want_word w s (drop c.args.after all)) K.False c.args.word c.in-False.is (reads_word _ W.False all s c.in_ok-moved-in-False.ensures k)

pub returns-in_ok-moved-in-Nil : goal.returns-in_ok-moved-in-Nil
returns-in_ok-moved-in-Nil c = λ s k.
    let all = tokens_of c.args.tokens.now in
    at_same (λ w. want_word w s (drop c.args.after all)) K.Nil c.args.word c.in-Nil.is (reads_word _ W.Nil all s c.in_ok-moved-in-Nil.ensures k)

pub returns-in_ok-moved-in-If : goal.returns-in_ok-moved-in-If
returns-in_ok-moved-in-If c = λ s k.
    let all = tokens_of c.args.tokens.now in
    at_same (λ w. want_word w s (drop c.args.after all)) K.If c.args.word c.in-If.is (begins _ _ all _ s Condition c.in_ok-moved-in-If.ensures k is_condition refl)

pub returns-in_ok-moved-in-Case : goal.returns-in_ok-moved-in-Case
returns-in_ok-moved-in-Case c = λ s k.
    let all = tokens_of c.args.tokens.now in
    at_same (λ w. want_word w s (drop c.args.after all)) K.Case c.args.word c.in-Case.is (begins _ _ all _ s Subject c.in_ok-moved-in-Case.ensures k is_subject refl)

pub returns-in_ok-moved-in-For : goal.returns-in_ok-moved-in-For
returns-in_ok-moved-in-For c = λ s k.
    let all = tokens_of c.args.tokens.now in
    at_same (λ w. want_word w s (drop c.args.after all)) K.For c.args.word c.in-For.is (begins _ _ all _ s ForPattern c.in_ok-moved-in-For.ensures k is_for_pattern refl)
