use Rattle.std.proofs.Common.{◌∙◌, ap, sym}
use Rattle.ex_grammar.specs.Newlines.{is_closing}
use Rattle.ex_grammar.proofs.CodeTokens.{sign_is}
use Rattle.ex_lexer.proofs.settled.is_closing.Goals as goal

pub returns-in-Sign : goal.returns-in-Sign
returns-in-Sign c = λ t h. c.sign_closes.ensures ∙ ap is_closing (sym (sign_is c.in-Sign.sign c.in-Sign.is h))
