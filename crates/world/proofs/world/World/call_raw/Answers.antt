use Rattle.world.proofs.Playing.{holder-at, raw-held}
use Rattle.world.proofs.world.World.call_raw.Goals as goal

pub returns-in-Some : goal.returns-in-Some
returns-in-Some c = λ w is.
    raw-held w c.args.self.now c.args.number c.in-Some.field-0 c.args.op.now (holder-at w c.args.self.now c.deref.result.now c.args.number c.in-Some.field-0 c.deref.ensures.value c.in-Some.ensures.place is) is
