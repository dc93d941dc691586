use Rattle.ex_prims.proofs.TextSizes.{no-room}
use Rattle.ex_prims.proofs.printing.show.Goals as goal

pub returns-then-size-limits : goal.returns-then-size-limits
returns-then-size-limits c = no-room c.args.value.now c.size.result c.args.limits.now.room c.size.ensures c.if-size-limits.true
