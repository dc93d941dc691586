use Rattle.std.proofs.Common.{◌++◌, ◌∷◌, [], refl, ap, subst, ◌∙◌, string_bytes, None, Some}
use Rattle.transcript.specs.Texts.{as_text}
use Rattle.session_ops.specs.declared.entry.Call.TheVariants.{Client as ByClient}
use Rattle.driver.specs.Lines.{raw_words, raw_refused_words}
use Rattle.driver.specs.Clients.{IsAt}
use Rattle.driver.specs.Standing.{HasCalled}
use Rattle.driver.proofs.Still.{stands-placed, raw-held}
use Rattle.driver.proofs.Asking.{raw-played}
use Rattle.driver.proofs.player.Player.raw.Goals as goal

pub returns-in_ok-push_raw_refused-in-Some : goal.returns-in_ok-push_raw_refused-in-Some
returns-in_ok-push_raw_refused-in-Some c = λ g s nm st.
    let is : IsAt g.opening c.args.self.now.clients.items s.clients c.args.client c.in-Some.field-0 = stands-placed g c.args.self.now s c.args.client c.place_of.result (Some c.in-Some.field-0) c.deref.result.now st c.place_of.ensures.first c.deref.ensures.value c.in-Some.is in
    raw-held g c.args.self.now _ s c.args.client c.args.op.now is.own _ _ st is.there refl
    (c.in_ok-push_raw_refused-in-Some.ensures ∙ ap (λ x. string_bytes c.args.out.now ++ as_text (raw_refused_words x ∷ [])) nm)

pub returns-in_ok-push_raw-in-None : goal.returns-in_ok-push_raw-in-None
returns-in_ok-push_raw-in-None c = λ g s nm st.
    let called : HasCalled g.opening (ByClient c.args.client c.args.op.now) c.args.self.now c.call.new.self c.in_ok-reply-in-None.reply =
    subst (λ op. HasCalled g.opening (ByClient c.args.client op) c.args.self.now c.call.new.self c.in_ok-reply-in-None.reply) c.in_ok-copy-in-None.ensures (c.in_ok-reply-in-None.ensures g.opening st.session) in
    raw-played g c.args.self.now _ s c.args.client c.args.op.now c.in_ok-reply-in-None.reply _ _ st (stands-placed g c.args.self.now s c.args.client c.place_of.result None c.deref.result.now st c.place_of.ensures.first c.deref.ensures.value c.in-None.is) called.answered called.marks called.clients
    (c.in_ok-push_raw-in-None.ensures ∙ ap (λ x. string_bytes c.args.out.now ++ as_text (raw_words x c.in_ok-reply-in-None.reply ∷ [])) nm)
