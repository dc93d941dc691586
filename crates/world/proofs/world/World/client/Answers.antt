use Rattle.std.proofs.Common.{sym, subst, Some}
use Rattle.world.specs.Plays.{IsHeldBy, IsHolderAt}
use Rattle.world.proofs.Mirroring.{client-at, mirror-at}
use Rattle.world.proofs.Playing.{holder-at}
use Rattle.world.proofs.world.World.client.Goals as goal

pub returns-in-Some : goal.returns-in-Some
returns-in-Some c = λ w is.
    let p : IsHolderAt c.args.number w.clients c.in-Some.place = holder-at w c.args.self.now c.deref.result.now c.args.number c.in-Some.place c.deref.ensures.value c.in-Some.ensures.place is in
    subst (λ o. IsHeldBy w.opening o (Some c.index.result.now)) (sym (client-at c.args.number w.clients c.in-Some.place p)) (mirror-at w.opening c.args.self.now.clients.items w.clients c.args.number c.in-Some.place c.index.result.now is.clients c.index.ensures p)
