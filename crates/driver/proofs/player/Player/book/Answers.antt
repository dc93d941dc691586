use Rattle.std.proofs.Common.{◌≡◌, ◌++◌, ◌∷◌, [], refl, sym, ap, subst, ◌∙◌, string_bytes}
use Rattle.livemd_format.specs.Tidy.{tidied}
use Rattle.livemd_format.specs.Write.{text_of}
use Rattle.script.specs.declared.line.ScriptLine.TheVariants.{Book}
use Rattle.session_core.specs.Session.{IsSession, state_of}
use Rattle.session_core.proofs.Calls.{told-over}
use Rattle.driver.specs.Standing.{HasPlayed}
use Rattle.driver.proofs.Looking.{book-played}
use Rattle.driver.proofs.player.Player.book.Goals as goal

pub returns : goal.returns
returns c = λ g s st.
    let look = c.in_ok-look.ensures in
    let same : c.look.new.self.session ≡ c.args.self.now.session = ap (λ p. p.session) look.1 in
    let held : c.book.result.now ≡ (state_of g.opening c.args.self.now.session).book = told-over (λ x. c.book.result.now ≡ x.book) g.opening c.look.new.self.session (subst (IsSession g.opening) (sym same) st.session) c.book.ensures ∙ ap (λ x. (state_of g.opening x).book) same in
    let printed : string_bytes c.push_plain.new.out ≡ string_bytes c.args.out.now ++ text_of (tidied (state_of g.opening c.args.self.now.session).book) =
    c.in_ok-push_plain.ensures ∙ ap (λ x. string_bytes c.args.out.now ++ x) (c.as_str.ensures.value ∙ (c.in_ok-book.ensures.text ∙ ap (λ n. text_of (tidied n)) held)) in
    subst (λ p. HasPlayed g Book c.args.self.now p s (string_bytes c.args.out.now) (string_bytes c.push_plain.new.out)) (sym look.1)
    (book-played g c.args.self.now _ s _ _ st refl (ap (λ x. c.args.self.now.marks ++ x ∷ []) look.0) refl printed)
