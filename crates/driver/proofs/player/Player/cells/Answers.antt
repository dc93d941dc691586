use Rattle.std.proofs.Common.{◌≡◌, ◌++◌, ◌∷◌, [], refl, sym, ap, subst, ◌∙◌, string_bytes}
use Rattle.script.specs.declared.line.ScriptLine.TheVariants.{Cells}
use Rattle.session_core.specs.Session.{IsSession, state_of}
use Rattle.session_core.proofs.Calls.{told-over}
use Rattle.driver.specs.Standing.{HasPlayed}
use Rattle.driver.specs.Statuses.{Tells}
use Rattle.driver.proofs.Looking.{cells-played}
use Rattle.driver.proofs.Settled.{states-printed}
use Rattle.driver.proofs.player.Player.cells.Goals as goal

pub returns : goal.returns
returns c = λ g s st.
    let look = c.in_ok-look.ensures in
    let same : c.look.new.self.session ≡ c.args.self.now.session = ap (λ p. p.session) look.1 in
    let book : c.parts.result.now ≡ (state_of g.opening c.args.self.now.session).book = c.parts.ensures.parts ∙ (told-over (λ x. c.book.result.now ≡ x.book) g.opening c.look.new.self.session (subst (IsSession g.opening) (sym same) st.session) c.book.ensures ∙ ap (λ x. (state_of g.opening x).book) same) in
    subst (λ p. HasPlayed g Cells c.args.self.now p s (string_bytes c.args.out.now) (string_bytes c.push_statuses.new.out)) (sym look.1)
    (cells-played g c.args.self.now _ s _ _ st refl (ap (λ x. c.args.self.now.marks ++ x ∷ []) look.0) refl
    (states-printed g.opening c.args.self.now.session c.parts.result.now _ _ st.session book (λ w t. c.in_ok-push_statuses.ensures w (subst (Tells c.parts.result.now w) (sym same) t))))
