use Rattle.ex_prims.proofs.TextCopies.{unpaid}
use Rattle.ex_prims.proofs.texting.repeated.Goals as goal

pub returns-in-Err : goal.returns-in-Err
returns-in-Err c = unpaid c.args.limits.now c.repeated_size.result c.args.times c.args.text.now c.in-Err.refused c.repeated_size.ensures c.in-Err.ensures
