use Rattle.std.proofs.Common.{refl, ◌∙◌}
use Rattle.std.proofs.lemmas.List.{with_items_is}
use Rattle.driver.specs.Player.{Game}
use Rattle.driver.proofs.Looking.{round-made}
use Rattle.driver.proofs.Placing.{mirrored-numbers}
use Rattle.driver.proofs.player.Player.round.Goals as goal

pub returns : goal.returns
returns c = λ n0 s st.
    let g : Game = record { opening = n0; names = c.args.names.now } in
    round-made g c.args.self.now c.send_each.new.self c.look.new.self _ s c.as_slice.result.now c.in_ok-at.at c.history.result.now c.deref_mut.result.now c.deliver_all.new.clients _ _ (c.as_slice.ensures.value ∙ c.in_ok-numbers.ensures ∙ mirrored-numbers n0 c.args.self.now.clients.items s.clients st.mirrored) (c.in_ok-send_each.ensures n0 s st) c.in_ok-at.ensures.0 c.in_ok-at.ensures.1
    c.history.ensures.entries c.deref_mut.ensures.value refl refl (with_items_is c.look.new.self.clients c.deliver_all.new.clients (c.deliver_all.auto.clients ∙ c.deref_mut.ensures.len)) (λ cs l honest m. c.in_ok-deliver_all.ensures g cs l honest m)
