use Rattle.std.proofs.Common.{sym, ◌∙◌}
use Rattle.ex_source.proofs.Fronts.{found_return}
use Rattle.ex_source.proofs.front.return_front.Goals as goal

pub returns-then-begins_with : goal.returns-then-begins_with
returns-then-begins_with c = λ all. found_return all c.args.rest.now (sym c.begins_with.ensures ∙ c.if-begins_with.true)
