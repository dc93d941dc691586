use Rattle.std.proofs.Common.{sym, ◌∙◌}
use Rattle.notebook.proofs.Answers.{at-err, at-ok}
use Rattle.notebook.proofs.Making.{as-before, deleted}
use Rattle.notebook.proofs.edits.delete_section.Goals as goal

pub returns-then-is_err : goal.returns-then-is_err
returns-then-is_err c =
    let failed = sym c.is_err.ensures.value ∙ c.if-is_err.true in
    (tt, as-before _ _ _ _ _ c.item_mut.ensures.value (at-err _ failed c.pour.ensures.from) (at-err _ failed c.pour.ensures.into))

pub returns : goal.returns
returns c =
    let done = sym c.is_err.ensures.value ∙ c.if-is_err.false in
    deleted
    _
    _
    _
    _
    _
    _
    _
    c.requires
    (rw c.as_slice.ensures at c.in-Some.ensures)
    c.item_mut.ensures.value
    (rw c.as_slice-2.ensures at (sym c.has_branches.ensures ∙ c.if-has_branches.false))
    (at-ok _ done c.pour.ensures.taken)
    (at-ok _ done c.pour.ensures.put)
    c.remove-empty.ensures.rest
