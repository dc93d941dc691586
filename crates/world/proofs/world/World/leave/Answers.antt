use Rattle.session_ops.specs.declared.entry.Op.TheVariants.{Leave}
use Rattle.session_ops.specs.declared.entry.Call.TheVariants.{Client as ByClient}
use Rattle.world.specs.World.{called}
use Rattle.world.proofs.world.World.leave.Goals as goal

pub returns : goal.returns
returns c = λ w sound is. c.dismiss.ensures (called w (ByClient c.args.number Leave)) sound.apart (c.in_ok-call.ensures w is)
