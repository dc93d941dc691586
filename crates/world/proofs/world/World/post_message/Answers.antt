use Rattle.std.proofs.Common.{refl, subst}
use Rattle.std.proofs.lemmas.Result.{on_ok_weaker}
use Rattle.std.specs.Vec.{with_item}
use Rattle.client_sync.specs.Client.{with_message}
use Rattle.client_sync.specs.Stands.{Mirrors}
use Rattle.world.specs.declared.world.World.{World}
use Rattle.world.specs.Plays.{IsHolderAt}
use Rattle.world.proofs.Mirroring.{mirror-at}
use Rattle.world.proofs.Playing.{HasPut, holder-at, post-plays}
use Rattle.world.proofs.world.World.post_message.Goals as goal

pub returns-in_ok-op-in-Some : goal.returns-in_ok-op-in-Some
returns-in_ok-op-in-Some c = λ w sound is.
    let p : IsHolderAt c.args.number w.clients c.in-Some.place = holder-at w c.args.self.now c.deref.result.now c.args.number c.in-Some.place c.deref.ensures.value c.in-Some.ensures.place is in
    let before : Mirrors w.opening c.index_mut.result.now p.here = mirror-at w.opening c.args.self.now.clients.items w.clients c.args.number c.in-Some.place c.index_mut.result.now is.clients c.index_mut.ensures.value p in
    let next : World = record { session = c.args.self.now.session; clients = with_item c.args.self.now.clients c.in-Some.place c.post.new.self } in
    let put : HasPut w c.args.self.now next c.args.number c.in-Some.place c.post.new.self = record { plays = is; apart = sound.apart; holder = p; session = refl; clients = refl } in
    on_ok_weaker c.post.result (λ now. post-plays w c.args.self.now next c.args.number c.in-Some.place c.args.op.now c.post.new.self c.requires put (subst (λ o. Mirrors w.opening c.post.new.self (with_message p.here o)) c.in_ok-op-in-Some.ensures now)) (c.post.ensures.posted w.opening p.here before)
