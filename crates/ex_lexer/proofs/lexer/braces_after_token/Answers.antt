use Rattle.std.proofs.Common.{◌∙◌, sym, ap, Some}
use Rattle.ex_grammar.specs.Lexing.{Whole, braces_by}
use Rattle.ex_grammar.proofs.CodeTokens.{sign_is}
use Rattle.ex_lexer.specs.Machine.{braced}
use Rattle.ex_lexer.proofs.lexer.braces_after_token.Goals as goal

pub returns-in-Sign : goal.returns-in-Sign
returns-in-Sign c = λ t h. c.braces_after_sign.ensures ∙ ap (λ v. braced c.args.braces (braces_by (Whole v) (Some c.args.braces))) (sym (sign_is c.in-Sign.sign c.in-Sign.is h))
