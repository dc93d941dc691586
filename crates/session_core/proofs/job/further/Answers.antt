use Rattle.session_core.proofs.Basing.{gone-further}
use Rattle.session_core.proofs.job.further.Goals as goal

pub returns : goal.returns
returns c = gone-further c.with.result c.args.cell.now c.as_str.result.now c.args.bindings c.in_ok-ran.ran c.as_str.ensures.bytes c.in_ok-ran.ensures c.with.ensures
