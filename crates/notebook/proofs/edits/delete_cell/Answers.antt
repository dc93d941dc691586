use Rattle.std.proofs.Common.{sym, ◌∙◌}
use Rattle.notebook.proofs.Answers.{at-err, at-ok}
use Rattle.notebook.proofs.Making.{as-before, made-deleted}
use Rattle.notebook.proofs.edits.delete_cell.Goals as goal

pub returns-then-is_err : goal.returns-then-is_err
returns-then-is_err c =
    let failed = sym c.is_err.ensures.value ∙ c.if-is_err.true in
    (tt, as-before _ _ _ _ _ c.item_mut.ensures.value (at-err _ failed c.transfer.ensures.from) (at-err _ failed c.transfer.ensures.to))

pub returns : goal.returns
returns c =
    let done = sym c.is_err.ensures.value ∙ c.if-is_err.false in
    made-deleted c.args.parts.now c.args.cell _ _ _ _ _ _ c.requires (rw c.as_slice.ensures at c.in-Some.ensures) c.item_mut.ensures.value c.len-end.ensures (at-ok _ done c.transfer.ensures.ok)
