use Rattle.std.proofs.Common.{refl, None, Some}
use Rattle.driver.specs.Clients.{IsAt}
use Rattle.driver.specs.Player.{send_all}
use Rattle.driver.proofs.Placing.{within}
use Rattle.driver.proofs.Still.{stands-placed, done-nothing}
use Rattle.driver.proofs.Sending.{all-sent-of}
use Rattle.driver.proofs.player.Player.send_all.Goals as goal

pub index-requires : goal.index-requires
index-requires c = within c.args.client c.deref.result.now _ _ c.in-Some.at c.place_of.result c.place_of.ensures.first c.in-Some.is refl c.deref.ensures.len

-- no such client
pub returns-in_default : goal.returns-in_default
returns-in_default c = λ g s nm st.
    let none = stands-placed g c.args.self.now s c.args.client c.place_of.result None c.deref.result.now st c.place_of.ensures.first c.deref.ensures.value c.in_default.is in
    done-nothing g (send_all g c.args.client) c.args.self.now _ s _ st refl refl st.mirrored (λ ts. rw none refl)

pub returns : goal.returns
returns c = λ g s nm st.
    let is : IsAt g.opening c.args.self.now.clients.items s.clients c.args.client c.in-Some.at = stands-placed g c.args.self.now s c.args.client c.place_of.result (Some c.in-Some.at) c.deref.result.now st c.place_of.ensures.first c.deref.ensures.value c.in-Some.is in
    all-sent-of g c.args.client c.outbox_len-many.result is.own c.args.self.now c.send_many.new.self s _ _ is.there
    (c.outbox_len-many.ensures g.opening is.own (is.mirrors c.index.result.now c.index.ensures)) (c.in_ok-send_many.ensures g s nm st)
