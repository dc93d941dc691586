use Rattle.std.proofs.Common.{◌∙◌, sym}
use Rattle.ex_lexer.proofs.FrontCode as X
use Rattle.ex_lexer.proofs.front.word_kind.Goals as goal

pub returns-in-Some : goal.returns-in-Some
returns-in-Some c = X.word_is c.args.name.now c.args.called c.in-Some.word (sym c.in-Some.is ∙ c.keyword_of.ensures)

pub returns-in_ok-of-in-None : goal.returns-in_ok-of-in-None
returns-in_ok-of-in-None c = X.called_is c.in_ok-of-in-None.field-0 c.args.name.now c.args.called (sym c.in-None.is ∙ c.keyword_of.ensures) c.if-called.true c.in_ok-of-in-None.ensures

pub returns-in_ok-of-in-None-2 : goal.returns-in_ok-of-in-None-2
returns-in_ok-of-in-None-2 c = X.name_is c.in_ok-of-in-None-2.field-0 c.args.name.now c.args.called (sym c.in-None.is ∙ c.keyword_of.ensures) c.if-called.false c.in_ok-of-in-None-2.ensures
