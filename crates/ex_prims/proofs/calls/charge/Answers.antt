use Rattle.std.proofs.Common.{rules}
use Rattle.ex_prims.proofs.Charging.{is_charged}
use Rattle.ex_prims.proofs.calls.charge.Goals as goal

-- src/calls.rt:131:1
pub returns-then-charge-left : goal.returns-then-charge-left
returns-then-charge-left c = λ args o h. is_charged args c.args.limits.now.left c.args.limits.now.operands c.size.result c.in-Some.charge c.args.printed c.args.value o c.size.ensures h (search rules) (search rules) (search rules)
