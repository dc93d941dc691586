use Rattle.std.proofs.Common.{◌∙◌, sym}
use Rattle.ex_lexer.proofs.FrontCode as X
use Rattle.ex_grammar.specs.Tokens.{signs}
use Rattle.ex_grammar.specs.Lexing.{sign_in}
use Rattle.ex_lexer.proofs.front.sign_front.Goals as goal

pub returns-in-None : goal.returns-in-None
returns-in-None c = X.no_sign_front (sign_in signs c.args.bytes.now) (sym c.in-None.is ∙ c.sign_at.ensures)

pub returns-in-Some : goal.returns-in-Some
returns-in-Some c = X.sign_front (sign_in signs c.args.bytes.now) c.in-Some.sign c.in-Some.len (sym c.in-Some.is ∙ c.sign_at.ensures)
