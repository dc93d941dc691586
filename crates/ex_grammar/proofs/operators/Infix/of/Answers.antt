use Rattle.std.proofs.Common.{◌∙◌, ap, sym}
use Rattle.ex_grammar.specs.Operators.{infix_of}
use Rattle.ex_grammar.proofs.CodeTokens.{sign_is, word_is}
use Rattle.ex_grammar.proofs.operators.Infix.of.Goals as goal

pub returns-in-Sign : goal.returns-in-Sign
returns-in-Sign c = λ t h. c.of_sign.ensures ∙ ap infix_of (sym (sign_is c.in-Sign.sign c.in-Sign.is h))

pub returns-in-Word : goal.returns-in-Word
returns-in-Word c = λ t h. c.of_word.ensures ∙ ap infix_of (sym (word_is c.in-Word.word c.in-Word.is h))
