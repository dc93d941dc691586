use Rattle.std.proofs.Common.{◌≡◌, Some, sym, ap, ◌∙◌}
use Rattle.delta.specs.Moves.{text_after}
use Rattle.notebook.specs.Book.{with_source}
use Rattle.session_ops.proofs.Deeds.{moved-one}
use Rattle.session_ops.proofs.deed.edit_source.Goals as goal

pub returns-clause-edited : goal.returns-clause-edited
returns-clause-edited c = λ f.
    let d = c.args.delta.now in
    let both : Some c.in-Some.text ≡ Some (text_after d f.own.source) = sym c.in-Some.is ∙ c.in_ok-text.ensures f.own f.there f.fits in
    let text : c.in-Some.text ≡ text_after d f.own.source = cc both in
    c.set_source.ensures.set ∙ (ap (λ t. with_source c.args.cell t c.args.book.now) text ∙ sym (moved-one c.args.book.now c.args.cell d f.own c.keeps_rules.ensures f.there))
