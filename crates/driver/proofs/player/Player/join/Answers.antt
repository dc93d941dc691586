use Rattle.std.proofs.Common.{◌++◌, ◌∷◌, [], ap, subst, ◌∙◌, string_bytes}
use Rattle.session_ops.specs.declared.entry.Call.TheVariants.{Client as ByClient}
use Rattle.session_ops.specs.declared.entry.Op.TheVariants.{Join as Joins}
use Rattle.session_ops.specs.declared.entry.Reply.TheVariants.{Accepted}
use Rattle.transcript.specs.Texts.{as_text}
use Rattle.driver.specs.Lines.{not_joined_words}
use Rattle.driver.specs.Standing.{HasCalled}
use Rattle.driver.proofs.Asking.{join-admitted, join-refused-played}
use Rattle.driver.proofs.player.Player.join.Goals as goal

pub returns-in_ok-push_joined-in-Accepted : goal.returns-in_ok-push_joined-in-Accepted
returns-in_ok-push_joined-in-Accepted c = λ g s nm st.
    let called : HasCalled g.opening (ByClient c.args.client Joins) c.args.self.now c.call.new.self Accepted = subst (HasCalled g.opening (ByClient c.args.client Joins) c.args.self.now c.call.new.self) c.in-Accepted.is (c.in_ok-reply.ensures g.opening st.session) in
    join-admitted g c.args.self.now c.call.new.self c.admit.new.self s c.args.client c.args.name.now _ _ c.history.result.now nm st called.answered called.clients called.marks (c.in_ok-admit-in-Accepted.ensures g.opening called.answered.session) c.history.ensures.entries c.in_ok-push_joined-in-Accepted.ensures

pub returns-in_ok-push_not_joined-in_default : goal.returns-in_ok-push_not_joined-in_default
returns-in_ok-push_not_joined-in_default c = λ g s nm st.
    let called = c.in_ok-reply.ensures g.opening st.session in
    join-refused-played g c.args.self.now _ s c.args.client c.in_ok-reply.reply _ _ st c.in_default.not-Accepted called.answered called.marks called.clients
    (c.in_ok-push_not_joined-in_default.ensures ∙ ap (λ x. string_bytes c.args.out.now ++ as_text (not_joined_words x c.in_ok-reply.reply ∷ [])) nm)
