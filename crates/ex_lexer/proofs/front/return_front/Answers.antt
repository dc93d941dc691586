use Rattle.std.proofs.Common.{◌∙◌, sym}
use Rattle.ex_lexer.proofs.FrontCode as X
use Rattle.ex_lexer.proofs.front.return_front.Goals as goal

pub returns-then-begins_with : goal.returns-then-begins_with
returns-then-begins_with c = X.found_return c.args.after.now (sym c.begins_with.ensures ∙ c.if-begins_with.true)

pub returns-else-begins_with : goal.returns-else-begins_with
returns-else-begins_with c = X.failed_return c.args.after.now (sym c.begins_with.ensures ∙ c.if-begins_with.false)
