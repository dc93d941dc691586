use Rattle.std.proofs.Common.{◌∙◌, ap, sym}
use Rattle.ex_grammar.specs.Newlines.{asks_for_more}
use Rattle.ex_grammar.proofs.CodeTokens.{sign_is}
use Rattle.ex_lexer.proofs.settled.asks_for_more.Goals as goal

pub returns-in-Sign : goal.returns-in-Sign
returns-in-Sign c = λ t h. c.sign_asks.ensures ∙ ap asks_for_more (sym (sign_is c.in-Sign.sign c.in-Sign.is h))
