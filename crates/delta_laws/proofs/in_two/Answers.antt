use Rattle.std.proofs.Common.{◌∙◌, sym, ap}
use Rattle.delta.specs.Moves.{text_after}
use Rattle.delta_laws.proofs.Laws.{composed_law}
use Rattle.delta_laws.proofs.in_two.Goals as goal

pub returns : goal.returns
returns c =
    let law = composed_law c.args.a.now c.args.b.now c.args.text.now c.requires.a_fits c.requires.b_fits in
    let one = c.in_ok-one.ensures ∙ ap (λ w. text_after c.args.b.now w) c.in_ok-after.ensures in
    record { one = one; other = c.in_ok-other.ensures; same = one ∙ (sym law.one_text ∙ sym c.in_ok-other.ensures); composed = law }
