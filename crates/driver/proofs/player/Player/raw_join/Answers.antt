use Rattle.std.proofs.Common.{◌++◌, ◌∷◌, [], ap, subst, ◌∙◌, string_bytes}
use Rattle.transcript.specs.Texts.{as_text}
use Rattle.session_ops.specs.declared.entry.Reply.TheVariants.{Accepted}
use Rattle.session_ops.specs.declared.entry.Call.TheVariants.{Client as ByClient}
use Rattle.session_ops.specs.declared.entry.Op.TheVariants.{Join as Joins}
use Rattle.driver.specs.Lines.{raw_not_joined_words}
use Rattle.driver.specs.Standing.{HasCalled}
use Rattle.driver.proofs.Asking.{raw-join-accepted, raw-join-refused}
use Rattle.driver.proofs.player.Player.raw_join.Goals as goal

pub returns-in_ok-push_raw_joined-in-Accepted : goal.returns-in_ok-push_raw_joined-in-Accepted
returns-in_ok-push_raw_joined-in-Accepted c = λ g s nm st.
    let called : HasCalled g.opening (ByClient c.args.client Joins) c.args.self.now c.call.new.self Accepted = subst (HasCalled g.opening (ByClient c.args.client Joins) c.args.self.now c.call.new.self) c.in-Accepted.is (c.in_ok-reply.ensures g.opening st.session) in
    raw-join-accepted g c.args.self.now _ s c.args.client c.args.name.now _ _ c.history.result.now nm st called.answered called.marks called.clients c.history.ensures.entries c.in_ok-push_raw_joined-in-Accepted.ensures

pub returns-in_ok-push_raw_not_joined-in_default : goal.returns-in_ok-push_raw_not_joined-in_default
returns-in_ok-push_raw_not_joined-in_default c = λ g s nm st.
    let called = c.in_ok-reply.ensures g.opening st.session in
    raw-join-refused g c.args.self.now _ s c.args.client c.in_ok-reply.reply _ _ st c.in_default.not-Accepted called.answered called.marks called.clients
    (c.in_ok-push_raw_not_joined-in_default.ensures ∙ ap (λ x. string_bytes c.args.out.now ++ as_text (raw_not_joined_words x c.in_ok-reply.reply ∷ [])) nm)
