use Rattle.std.proofs.Common.{refl}
use Rattle.world.specs.Plays.{IsHolderAt}
use Rattle.world.proofs.Playing.{holder-at, nobody-there, nobody-gone, dismissed-plays}
use Rattle.world.proofs.world.World.dismiss.Goals as goal

pub returns-in-Some : goal.returns-in-Some
returns-in-Some c = λ w apart is.
    let p : IsHolderAt c.args.number w.clients c.in-Some.place = holder-at w c.args.self.now c.deref.result.now c.args.number c.in-Some.place c.deref.ensures.value c.in-Some.ensures.place is in
    dismissed-plays w c.args.self.now (record { session = c.args.self.now.session; clients = c.remove.new.self }) c.args.number c.in-Some.place apart is p refl c.remove.ensures.items

pub returns-in-None : goal.returns-in-None
returns-in-None c = λ w apart is. nobody-gone w c.args.self.now c.args.number (nobody-there w c.args.self.now c.deref.result.now c.args.number c.deref.ensures.value c.in-None.ensures.place is) is
