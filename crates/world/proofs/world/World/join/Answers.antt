use Rattle.std.proofs.Common.{refl}
use Rattle.session_ops.specs.declared.entry.Op.TheVariants.{Join}
use Rattle.session_ops.specs.declared.entry.Call.TheVariants.{Client as ByClient}
use Rattle.session_core.proofs.Calls.{answered-over}
use Rattle.world.specs.declared.world.World.{World}
use Rattle.world.proofs.Playing.{joined-plays}
use Rattle.world.proofs.world.World.join.Goals as goal

pub returns : goal.returns
returns c = λ w is.
    let mid : World = record { session = c.apply.new.self; clients = c.args.self.now.clients } in
    joined-plays w c.args.self.now mid c.admit.new.self c.args.number c.in_ok-reply.reply c.admit.result is
    (answered-over w.opening 0 (ByClient c.args.number Join) c.args.self.now.session c.apply.new.self c.in_ok-reply.reply is.session c.in_ok-reply.ensures.ok) refl c.admit.ensures
