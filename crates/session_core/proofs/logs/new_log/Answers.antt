use Rattle.std.proofs.Common.{refl}
use Rattle.session_core.proofs.Standing.{stands-new}
use Rattle.session_core.proofs.logs.new_log.Goals as goal

pub returns : goal.returns
returns c = λ s fresh. (refl, stands-new s c.args.cell c.args.source c.args.joined.now c.in_ok-log.log fresh c.in_ok-log.ensures)
