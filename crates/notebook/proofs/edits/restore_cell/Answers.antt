use Rattle.std.proofs.Common.{refl, sym, ap, ◌∙◌}
use Rattle.notebook.specs.declared.parts.Cell.{Cell}
use Rattle.notebook.specs.Change.{is_full}
use Rattle.notebook.proofs.Answers.{at-err, at-ok}
use Rattle.notebook.proofs.Making.{read-in, read-len}
use Rattle.notebook.proofs.CellMoves.{no-section-again, past-again, full-again, made-again, both-before, fits-read, fits-again}
use Rattle.notebook.proofs.edits.restore_cell.Goals as goal

pub returns-in_default-section_at : goal.returns-in_default-section_at
returns-in_default-section_at c =
    (no-section-again c.args.parts.now c.args.cell c.args.section c.args.index _ (rw c.as_slice.ensures at c.in-Some.ensures) (rw c.as_slice-2.ensures at c.in_default-section_at.ensures), refl)

pub returns-then-index-len : goal.returns-then-index-len
returns-then-index-len c = (
  past-again
      c.args.parts.now
      c.args.cell
      c.args.section
      c.in-Some-section_at.at
      c.args.index
      _
      c.index-as_slice-at.result
      _
      (rw c.as_slice.ensures at c.in-Some.ensures)
      (rw c.as_slice-2.ensures at c.in-Some-section_at.ensures)
      (read-in c.as_slice-3.result.now c.args.parts.now.sections c.in-Some-section_at.at c.index-as_slice-at.result c.as_slice-3.ensures c.index-as_slice-at.is)
      (read-len c.as_slice-3.result.now c.in-Some-section_at.at c.index-as_slice-at.result _ c.index-as_slice-at.is c.len-len.ensures)
      c.if-index-len.true,
  refl,
)

pub returns-then-is_full : goal.returns-then-is_full
returns-then-is_full c = (
  full-again
      c.args.parts.now
      c.args.cell
      c.args.section
      c.in-Some-section_at.at
      c.args.index
      _
      c.index-as_slice-at.result
      c.index-as_slice-from.result
      _
      _
      c.requires.rules
      (rw c.as_slice.ensures at c.in-Some.ensures)
      (rw c.as_slice-2.ensures at c.in-Some-section_at.ensures)
      (read-in c.as_slice-3.result.now c.args.parts.now.sections c.in-Some-section_at.at c.index-as_slice-at.result c.as_slice-3.ensures c.index-as_slice-at.is)
      (read-len c.as_slice-3.result.now c.in-Some-section_at.at c.index-as_slice-at.result _ c.index-as_slice-at.is c.len-len.ensures)
      c.if-index-len.false
      (rw c.as_slice-4.ensures at c.index-as_slice-from.is)
      (c.is_full.ensures ∙ ap (λ (y : Cell). is_full c.args.parts.now y.kind) (sym c.index-as_slice-from.is))
      c.if-is_full.true,
  refl,
)

pub transfer-requires-clause-index : goal.transfer-requires-clause-index
transfer-requires-clause-index c =
    fits-read
    c.args.parts.now.sections
    c.in-Some-section_at.at
    c.args.index
    c.index-as_slice-at.result
    _
    _
    (read-in c.as_slice-3.result.now c.args.parts.now.sections c.in-Some-section_at.at c.index-as_slice-at.result c.as_slice-3.ensures c.index-as_slice-at.is)
    (read-len c.as_slice-3.result.now c.in-Some-section_at.at c.index-as_slice-at.result _ c.index-as_slice-at.is c.len-len.ensures)
    c.if-index-len.false
    c.item_mut.ensures.value

pub returns-then-is_err : goal.returns-then-is_err
returns-then-is_err c =
    let failed = sym c.is_err.ensures.value ∙ c.if-is_err.true in
    (tt, both-before c.args.parts.now _ _ _ _ c.item_mut.ensures.value (at-err _ failed c.transfer.ensures.from) (at-err _ failed c.transfer.ensures.to))

pub item_mut-requires-3 : goal.item_mut-requires-3
item_mut-requires-3 c =
    let done = sym c.is_err.ensures.value ∙ c.if-is_err.false in
    fits-again
    c.args.parts.now.sections
    c.in-Some-section_at.at
    c.args.index
    _
    _
    _
    _
    _
    _
    c.item_mut.ensures.value
    (fits-read
    c.args.parts.now.sections
    c.in-Some-section_at.at
    c.args.index
    c.index-as_slice-at.result
    _
    _
    (read-in c.as_slice-3.result.now c.args.parts.now.sections c.in-Some-section_at.at c.index-as_slice-at.result c.as_slice-3.ensures c.index-as_slice-at.is)
    (read-len c.as_slice-3.result.now c.in-Some-section_at.at c.index-as_slice-at.result _ c.index-as_slice-at.is c.len-len.ensures)
    c.if-index-len.false
    c.item_mut.ensures.value)
    (at-ok _ done c.transfer.ensures.ok)
    c.item_mut-2.ensures.value

pub returns : goal.returns
returns c =
    let done = sym c.is_err.ensures.value ∙ c.if-is_err.false in
    made-again
    c.args.parts.now
    c.args.cell
    c.args.section
    c.in-Some-section_at.at
    c.args.index
    _
    c.index-as_slice-at.result
    c.index-as_slice-from.result
    _
    _
    _
    _
    _
    _
    _
    c.requires.rules
    (rw c.as_slice.ensures at c.in-Some.ensures)
    (rw c.as_slice-2.ensures at c.in-Some-section_at.ensures)
    (read-in c.as_slice-3.result.now c.args.parts.now.sections c.in-Some-section_at.at c.index-as_slice-at.result c.as_slice-3.ensures c.index-as_slice-at.is)
    (read-len c.as_slice-3.result.now c.in-Some-section_at.at c.index-as_slice-at.result _ c.index-as_slice-at.is c.len-len.ensures)
    c.if-index-len.false
    (rw c.as_slice-4.ensures at c.index-as_slice-from.is)
    (c.is_full.ensures ∙ ap (λ (y : Cell). is_full c.args.parts.now y.kind) (sym c.index-as_slice-from.is))
    c.if-is_full.false
    c.item_mut.ensures.value
    (at-ok _ done c.transfer.ensures.ok)
    c.item_mut-2.ensures.value
    c.item_mut-3.ensures.value
