use Rattle.std.proofs.Common.{refl}
use Rattle.session_ops.specs.declared.entry.Call.TheVariants.{Client as ByClient}
use Rattle.session_core.proofs.Calls.{answered-over}
use Rattle.world.proofs.Playing.{called-plays}
use Rattle.world.proofs.world.World.call.Goals as goal

pub returns : goal.returns
returns c = λ w is.
    let call = ByClient c.args.number c.args.op in
    called-plays w c.args.self.now (record { session = c.apply.new.self; clients = c.args.self.now.clients }) call c.in_ok-apply.field-0 is
    (answered-over w.opening 0 call c.args.self.now.session c.apply.new.self c.in_ok-apply.field-0 is.session c.in_ok-apply.ensures.ok) refl
