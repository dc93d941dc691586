use Rattle.std.proofs.Common.{◌++◌, ◌∷◌, [], refl, sym, ap, subst, string_bytes}
use Rattle.script.specs.declared.line.ScriptLine.TheVariants.{Settle}
use Rattle.driver.specs.Standing.{HasPlayed}
use Rattle.driver.proofs.Settled.{settle-played}
use Rattle.driver.proofs.player.Player.settle.Goals as goal

pub returns : goal.returns
returns g c = λ k s st.
    let look = c.in_ok-look.ensures in
    subst (λ p. HasPlayed k Settle c.args.self.now p s (string_bytes c.args.out.now) (string_bytes c.push_plain.new.out)) (sym look.1)
    (settle-played k c.args.self.now _ s _ _ st (c.in_ok-settle.ensures k.opening st.session) refl (ap (λ x. c.args.self.now.marks ++ x ∷ []) look.0) c.in_ok-push_plain.ensures)
