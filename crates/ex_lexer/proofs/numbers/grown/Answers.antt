use Rattle.std.proofs.Common.{◌∙◌, sym}
use Rattle.ex_lexer.proofs.NumberRuns.{counts_none, counts_some}
use Rattle.ex_lexer.proofs.numbers.grown.Goals as goal

pub returns-in-None : goal.returns-in-None
returns-in-None c = λ ds h. counts_none ds c.args.b (sym c.is_digit.ensures ∙ c.if-not-is_digit.false) (rw c.in-None.is at h)

pub returns-in-Some : goal.returns-in-Some
returns-in-Some c = λ ds h. counts_some ds c.args.b c.in-Some.n c.with_digit.result (sym c.is_digit.ensures ∙ c.if-not-is_digit.false) (rw c.in-Some.is at h) c.with_digit.ensures
