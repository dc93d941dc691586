use Rattle.std.proofs.Common.{◌++◌, ◌∷◌, [], sym, ap, subst, ◌∙◌, string_bytes}
use Rattle.transcript.specs.Texts.{as_text}
use Rattle.driver.specs.Lines.{left_words}
use Rattle.driver.specs.Clients.{AreMirrors}
use Rattle.driver.proofs.Asking.{leave-played}
use Rattle.driver.proofs.player.Player.leave.Goals as goal

pub returns : goal.returns
returns c = λ g s nm st.
    let called = c.in_ok-reply.ensures g.opening st.session in
    leave-played g c.args.self.now _ s c.args.client c.in_ok-reply.reply _ _ st called.answered called.marks
    (c.remove.ensures g.opening s.clients (subst (λ v. AreMirrors g.opening v.items s.clients) (sym called.clients) st.mirrored) st.apart)
    (c.in_ok-push_left.ensures ∙ ap (λ x. string_bytes c.args.out.now ++ as_text (left_words x c.in_ok-reply.reply ∷ [])) nm)
