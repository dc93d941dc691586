use Rattle.std.proofs.Common.{drop, refl}
use Rattle.ex_grammar.specs.declared.token.Sign.TheVariants as S
use Rattle.ex_parser.specs.Machine.{want_sign, Parens, InTuple, InList}
use Rattle.ex_parser.specs.Shown.{tokens_of, is_parens, is_tuple, is_list}
use Rattle.ex_parser.proofs.Turns.{begins}
use Rattle.ex_parser.proofs.FirstTurns.{at_same}
use Rattle.ex_parser.proofs.parser.Parser.first_sign.Goals as goal

pub returns-in_ok-moved-in-OpenParen : goal.returns-in_ok-moved-in-OpenParen
returns-in_ok-moved-in-OpenParen c = λ s k.
    let all = tokens_of c.args.tokens.now in
    at_same (λ m. want_sign m s (drop c.args.after all)) S.OpenParen c.args.sign c.in-OpenParen.is (begins _ _ all _ s Parens c.in_ok-moved-in-OpenParen.ensures k is_parens refl)

pub returns-in_ok-moved-in-OpenBrace : goal.returns-in_ok-moved-in-OpenBrace
returns-in_ok-moved-in-OpenBrace c = λ s k.
    let all = tokens_of c.args.tokens.now in
    at_same (λ m. want_sign m s (drop c.args.after all)) S.OpenBrace c.args.sign c.in-OpenBrace.is (c.in_ok-moved-in-OpenBrace.ensures InTuple is_tuple tt s k)

pub returns-in_ok-moved-in-OpenBracket : goal.returns-in_ok-moved-in-OpenBracket
returns-in_ok-moved-in-OpenBracket c = λ s k.
    let all = tokens_of c.args.tokens.now in
    at_same (λ m. want_sign m s (drop c.args.after all)) S.OpenBracket c.args.sign c.in-OpenBracket.is (c.in_ok-moved-in-OpenBracket.ensures InList is_list tt s k)
