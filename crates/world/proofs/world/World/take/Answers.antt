use Rattle.std.proofs.Common.{refl, Some, None}
use Rattle.std.specs.Vec.{with_item}
use Rattle.session_ops.specs.declared.entry.Call.TheVariants.{Client as ByClient}
use Rattle.session_core.specs.Session.{HasAnswered}
use Rattle.session_core.proofs.Calls.{answered-over}
use Rattle.client_sync.specs.Stands.{Mirrors, HasTaken}
use Rattle.world.specs.declared.world.World.{World}
use Rattle.world.specs.Plays.{IsHolderAt}
use Rattle.world.proofs.Mirroring.{mirror-at}
use Rattle.world.proofs.Playing.{HasPut, holder-at, empty-plays, take-plays}
use Rattle.world.proofs.world.World.take.Goals as goal

pub returns-in-None-take_front : goal.returns-in-None-take_front
returns-in-None-take_front c = λ w sound is.
    let p : IsHolderAt c.args.number w.clients c.in-Some.place = holder-at w c.args.self.now c.deref.result.now c.args.number c.in-Some.place c.deref.ensures.value c.in-Some.ensures.place is in
    let before : Mirrors w.opening c.index_mut.result.now p.here = mirror-at w.opening c.args.self.now.clients.items w.clients c.args.number c.in-Some.place c.index_mut.result.now is.clients c.index_mut.ensures.value p in
    let next : World = record { session = c.args.self.now.session; clients = with_item c.args.self.now.clients c.in-Some.place c.take_front.new.self } in
    let put : HasPut w c.args.self.now next c.args.number c.in-Some.place c.take_front.new.self = record { plays = is; apart = sound.apart; holder = p; session = refl; clients = refl } in
    let took : HasTaken w.opening p.here c.take_front.new.self None = c.in-None-take_front.ensures w.opening p.here before in
    empty-plays w c.args.self.now next c.args.number c.in-Some.place c.take_front.new.self put took.0 took.1

pub returns-in_ok-apply-in-Some-take_front : goal.returns-in_ok-apply-in-Some-take_front
returns-in_ok-apply-in-Some-take_front c = λ w sound is.
    let p : IsHolderAt c.args.number w.clients c.in-Some.place = holder-at w c.args.self.now c.deref.result.now c.args.number c.in-Some.place c.deref.ensures.value c.in-Some.ensures.place is in
    let before : Mirrors w.opening c.index_mut.result.now p.here = mirror-at w.opening c.args.self.now.clients.items w.clients c.args.number c.in-Some.place c.index_mut.result.now is.clients c.index_mut.ensures.value p in
    let next : World = record { session = c.args.self.now.session; clients = with_item c.args.self.now.clients c.in-Some.place c.take_front.new.self } in
    let last : World = record { session = c.apply.new.self; clients = with_item c.args.self.now.clients c.in-Some.place c.take_front.new.self } in
    let put : HasPut w c.args.self.now next c.args.number c.in-Some.place c.take_front.new.self = record { plays = is; apart = sound.apart; holder = p; session = refl; clients = refl } in
    let took : HasTaken w.opening p.here c.take_front.new.self (Some c.in-Some-take_front.op) = c.in-Some-take_front.ensures w.opening p.here before in
    let done : HasAnswered w.opening 0 (ByClient c.args.number c.in-Some-take_front.op) c.args.self.now.session c.apply.new.self c.in_ok-apply-in-Some-take_front.field-0 = answered-over w.opening 0 (ByClient c.args.number c.in-Some-take_front.op) c.args.self.now.session c.apply.new.self c.in_ok-apply-in-Some-take_front.field-0 is.session c.in_ok-apply-in-Some-take_front.ensures.ok in
    take-plays w c.args.self.now next last c.args.number c.in-Some.place c.take_front.new.self c.in-Some-take_front.op took.0 c.in_ok-apply-in-Some-take_front.field-0 put took.1.0 took.1.1 done refl
