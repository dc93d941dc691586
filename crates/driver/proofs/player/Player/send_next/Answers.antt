use Rattle.std.proofs.Common.{refl, None, Some}
use Rattle.driver.specs.Clients.{IsAt}
use Rattle.driver.specs.Player.{send_next}
use Rattle.driver.proofs.Placing.{within}
use Rattle.driver.proofs.Asking.{message-sent}
use Rattle.driver.proofs.Still.{stands-placed, done-nothing}
use Rattle.driver.proofs.player.Player.send_next.Goals as goal

pub index_mut-requires : goal.index_mut-requires
index_mut-requires c = within c.args.client c.deref.result.now _ _ c.in-Some.at c.place_of.result c.place_of.ensures.first c.in-Some.is refl c.deref.ensures.len

-- no such client
pub returns-in_default : goal.returns-in_default
returns-in_default c = λ g s nm st.
    let none = stands-placed g c.args.self.now s c.args.client c.place_of.result None c.deref.result.now st c.place_of.ensures.first c.deref.ensures.value c.in_default.is in
    done-nothing g (send_next g c.args.client) c.args.self.now _ s _ st refl refl st.mirrored (λ ts. rw none refl)

-- no message
pub returns-in-None : goal.returns-in-None
returns-in-None c = λ g s nm st.
    let is : IsAt g.opening c.args.self.now.clients.items s.clients c.args.client c.in-Some.at = stands-placed g c.args.self.now s c.args.client c.place_of.result (Some c.in-Some.at) c.deref.result.now st c.place_of.ensures.first c.deref.ensures.value c.in-Some.is in
    let taken = c.in-None.ensures g.opening is.own (is.mirrors c.index_mut.result.now c.index_mut.ensures.value) in
    done-nothing g (send_next g c.args.client) c.args.self.now _ s _ st refl refl (is.kept c.take_front.new.self taken.1) (λ ts. rw (is.there, taken.0) refl)

-- the message is sent
pub returns-in_ok-ask-in-Some-take_front : goal.returns-in_ok-ask-in-Some-take_front
returns-in_ok-ask-in-Some-take_front c = λ g s nm st.
    let is : IsAt g.opening c.args.self.now.clients.items s.clients c.args.client c.in-Some.at = stands-placed g c.args.self.now s c.args.client c.place_of.result (Some c.in-Some.at) c.deref.result.now st c.place_of.ensures.first c.deref.ensures.value c.in-Some.is in
    let taken = c.in-Some-take_front.ensures g.opening is.own (is.mirrors c.index_mut.result.now c.index_mut.ensures.value) in
    message-sent g c.args.self.now _ _ s c.args.client c.in-Some.at is.own c.in-Some-take_front.op taken.0 c.args.name.now _ _ nm st is.there is.number taken.1.0 refl refl
    (is.replaced c.take_front.new.self (record is.own { outbox = taken.0 }) is.number taken.1.1) (c.in_ok-ask-in-Some-take_front.ensures g.opening st.session)
