use Rattle.std.proofs.Common.{ne_eqb, ◌∙◌, ap}
use Rattle.notebook.specs.declared.parts.Parts.{Parts}
use Rattle.notebook.proofs.Setting.{at-place}
use Rattle.notebook.proofs.book.Notebook.find.Goals as goal

pub returns : goal.returns
returns c =
    at-place
    c.args.self.now
    _
    _
    _
    _
    _
    _
    _
    (ne_eqb _ _ (rw c.self.view_is at c.if-self-cell.false))
    (c.as_slice-sections.ensures ∙ ap (λ (n : Parts). n.sections) c.self.view_is)
    c.in_ok-place.ensures
    c.index-sections-place.is
    c.as_slice.ensures
    c.index-as_slice-place.is
