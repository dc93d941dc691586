use Rattle.std.proofs.Common.{sym, ◌∙◌}
use Rattle.ex_source.proofs.Fronts.{found_mark}
use Rattle.ex_source.proofs.front.mark_front.Goals as goal

pub returns-else-goes_on : goal.returns-else-goes_on
returns-else-goes_on c = λ all. found_mark c.args.mark all c.args.rest.now (sym c.goes_on.ensures ∙ c.if-goes_on.false)
