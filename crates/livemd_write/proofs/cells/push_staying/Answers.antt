use Rattle.std.proofs.Common.{sym, ◌∙◌}
use Rattle.livemd_write.proofs.Keeping.{puts_none, puts_staying}
use Rattle.livemd_write.proofs.cells.push_staying.Goals as goal

pub returns-then-stays-clause-puts : goal.returns-then-stays-clause-puts
returns-then-stays-clause-puts c = puts_staying _ _ c.args.id c.args.cell.now c.in_ok-tidy.tidy c.in_ok-tidy.ensures.tidy (sym c.stays.ensures ∙ c.if-stays.true) c.in_ok-push.ensures.ok

pub returns-clause-puts : goal.returns-clause-puts
returns-clause-puts c = puts_none _ c.args.id c.args.cell.now c.in_ok-tidy.tidy c.in_ok-tidy.ensures.tidy (sym c.stays.ensures ∙ c.if-stays.false)
