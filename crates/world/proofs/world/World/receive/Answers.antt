use Rattle.std.proofs.Common.{◌≡◌, length, drop, refl, sym, ap, subst, ◌∙◌}
use Rattle.std.proofs.lemmas.Result.{on_ok_weaker}
use Rattle.std.specs.Vec.{with_item}
use Rattle.client_sync.specs.Stands.{Mirrors}
use Rattle.world.specs.declared.world.World.{World}
use Rattle.world.specs.Plays.{IsHolderAt, received_first}
use Rattle.world.proofs.Mirroring.{mirror-at}
use Rattle.world.proofs.Playing.{HasPut, holder-at, receive-plays, next-known}
use Rattle.world.proofs.world.World.receive.Goals as goal

pub returns-in-Some : goal.returns-in-Some
returns-in-Some c = λ w sound is.
    let p : IsHolderAt c.args.number w.clients c.in-Some.place = holder-at w c.args.self.now c.deref.result.now c.args.number c.in-Some.place c.deref.ensures.value c.in-Some.ensures.place is in
    let before : Mirrors w.opening c.index_mut.result.now p.here = mirror-at w.opening c.args.self.now.clients.items w.clients c.args.number c.in-Some.place c.index_mut.result.now is.clients c.index_mut.ensures.value p in
    let next : World = record { session = c.args.self.now.session; clients = with_item c.args.self.now.clients c.in-Some.place c.receive_next.new.client } in
    let put : HasPut w c.args.self.now next c.args.number c.in-Some.place c.receive_next.new.client = record { plays = is; apart = sound.apart; holder = p; session = refl; clients = refl } in
    let h : c.history.result.now ≡ w.history = c.history.ensures.entries ∙ is.history in
    on_ok_weaker c.receive_next.result
    (λ now. receive-plays w c.args.self.now next c.args.number c.in-Some.place c.receive_next.new.client put (subst (λ k. Mirrors w.opening c.receive_next.new.client (received_first w.opening p.here (drop (length p.here.seen) k))) h now))
    (c.receive_next.ensures w.opening p.here before (λ e es rest. next-known w c.args.number c.in-Some.place sound p e es (sym (ap (drop (length p.here.seen)) h) ∙ rest)))
