use Rattle.std.proofs.Common.{refl, sym, ap, ◌∙◌}
use Rattle.notebook.specs.Change.{insert_cell}
use Rattle.notebook.proofs.Answers.{at-err, at-ok}
use Rattle.notebook.proofs.Making.{as-before, read-in, read-len, past-new, full-new, made-new}
use Rattle.notebook.proofs.edits.insert_cell.Goals as goal

pub returns-then-index-len : goal.returns-then-index-len
returns-then-index-len c =
    (past-new c.args.parts.now c.args.section _ c.args.index _ _ _ (rw c.as_slice.ensures at c.in-Some.ensures) (read-in c.as_slice-2.result.now c.args.parts.now.sections c.in-Some.at c.index-as_slice-at.result c.as_slice-2.ensures c.index-as_slice-at.is) (read-len c.as_slice-2.result.now c.in-Some.at c.index-as_slice-at.result _ c.index-as_slice-at.is c.len-len.ensures) c.if-index-len.true, refl)

pub returns-then-is_full : goal.returns-then-is_full
returns-then-is_full c = (
  ap (insert_cell c.args.parts.now c.args.section c.args.index) (sym c.kind-kind.ensures)
      ∙ full-new c.args.parts.now c.args.section _ c.args.index _ _ _ _ c.requires.rules (rw c.as_slice.ensures at c.in-Some.ensures) (read-in c.as_slice-2.result.now c.args.parts.now.sections c.in-Some.at c.index-as_slice-at.result c.as_slice-2.ensures c.index-as_slice-at.is) (read-len c.as_slice-2.result.now c.in-Some.at c.index-as_slice-at.result _ c.index-as_slice-at.is c.len-len.ensures) c.if-index-len.false c.is_full.ensures c.if-is_full.true,
  refl,
)

pub returns-then-is_err : goal.returns-then-is_err
returns-then-is_err c =
    let failed = sym c.is_err.ensures.value ∙ c.if-is_err.true in
    (tt, as-before c.args.parts.now _ _ _ _ c.item_mut.ensures.value (at-err _ failed c.insert.ensures.err) refl)

pub returns : goal.returns
returns c =
    let done = sym c.is_err.ensures.value ∙ c.if-is_err.false in
    ap (insert_cell c.args.parts.now c.args.section c.args.index) (sym c.kind-kind.ensures)
    ∙ made-new
    c.args.parts.now
    c.args.section
    _
    c.args.index
    _
    _
    _
    _
    _
    _
    _
    c.requires.rules
    (rw c.as_slice.ensures at c.in-Some.ensures)
    (read-in c.as_slice-2.result.now c.args.parts.now.sections c.in-Some.at c.index-as_slice-at.result c.as_slice-2.ensures c.index-as_slice-at.is)
    (read-len c.as_slice-2.result.now c.in-Some.at c.index-as_slice-at.result _ c.index-as_slice-at.is c.len-len.ensures)
    c.if-index-len.false
    c.is_full.ensures
    c.if-is_full.false
    c.item_mut.ensures.value
    (rw (c.new.ensures, c.new-2.ensures, c.new-3.ensures) refl)
    (at-ok _ done c.insert.ensures.ok)
