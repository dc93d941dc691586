use Rattle.std.proofs.Common.{refl, sym, ◌∙◌}
use Rattle.notebook.proofs.Answers.{at-err, at-ok}
use Rattle.notebook.proofs.Making.{read-in, read-len}
use Rattle.notebook.proofs.Setting.{within-home}
use Rattle.notebook.proofs.CellMoves.{no-section-moved, past-across, made-across, across-before, fits-across}
use Rattle.notebook.proofs.edits.move_cell.Goals as goal

pub returns-in_default-section_at : goal.returns-in_default-section_at
returns-in_default-section_at c =
    (no-section-moved c.args.parts.now c.args.cell c.args.section c.args.index _ _ (rw c.as_slice.ensures at c.in-Some.ensures) (rw c.as_slice-2.ensures at c.in_default-section_at.ensures), refl)

pub returns-then-index-len : goal.returns-then-index-len
returns-then-index-len c = (
  past-across
      c.args.parts.now
      c.args.cell
      c.args.section
      c.in-Some-section_at.at
      c.args.index
      _
      _
      c.index-as_slice-at.result
      _
      c.requires
      (rw c.as_slice.ensures at c.in-Some.ensures)
      (rw c.as_slice-2.ensures at c.in-Some-section_at.ensures)
      c.if-place-at.false
      (read-in c.as_slice-3.result.now c.args.parts.now.sections c.in-Some-section_at.at c.index-as_slice-at.result c.as_slice-3.ensures c.index-as_slice-at.is)
      (read-len c.as_slice-3.result.now c.in-Some-section_at.at c.index-as_slice-at.result _ c.index-as_slice-at.is c.len-len.ensures)
      c.if-index-len.true,
  refl,
)

pub transfer-moved-requires-clause-place : goal.transfer-moved-requires-clause-place
transfer-moved-requires-clause-place c =
    rw c.replace-cells.ensures.value (within-home c.args.parts.now.sections c.args.cell _ _ _ (rw c.as_slice.ensures at c.in-Some.ensures) c.item_mut.ensures.value)

pub transfer-moved-requires-clause-index : goal.transfer-moved-requires-clause-index
transfer-moved-requires-clause-index c =
    fits-across
    c.args.parts.now.sections
    c.in-Some.place.section
    c.in-Some-section_at.at
    c.args.index
    c.index-as_slice-at.result
    c.item_mut.result.now
    _
    c.replace-cells.new.dest
    _
    c.if-place-at.false
    (read-in c.as_slice-3.result.now c.args.parts.now.sections c.in-Some-section_at.at c.index-as_slice-at.result c.as_slice-3.ensures c.index-as_slice-at.is)
    (read-len c.as_slice-3.result.now c.in-Some-section_at.at c.index-as_slice-at.result _ c.index-as_slice-at.is c.len-len.ensures)
    c.if-index-len.false
    c.item_mut-2.ensures.value

pub returns-then-is_err : goal.returns-then-is_err
returns-then-is_err c =
    let failed = sym c.is_err.ensures.value ∙ c.if-is_err.true in (
      tt,
      across-before
          c.args.parts.now
          c.in-Some.place.section
          c.in-Some-section_at.at
          _
          _
          _
          _
          _
          _
          c.if-place-at.false
          c.item_mut.ensures.value
          c.item_mut-2.ensures.value
          c.item_mut-3.ensures.value
          (at-err _ failed c.transfer-moved.ensures.from ∙ c.replace-cells.ensures.value)
          (at-err _ failed c.transfer-moved.ensures.to),
    )

pub returns : goal.returns
returns c =
    let done = sym c.is_err.ensures.value ∙ c.if-is_err.false in
    made-across
    c.args.parts.now
    c.args.cell
    c.args.section
    c.in-Some-section_at.at
    c.args.index
    c.in-Some.place.section
    c.in-Some.place.cell
    c.index-as_slice-at.result
    _
    _
    _
    _
    _
    _
    _
    c.requires
    (rw c.as_slice.ensures at c.in-Some.ensures)
    (rw c.as_slice-2.ensures at c.in-Some-section_at.ensures)
    c.if-place-at.false
    (read-in c.as_slice-3.result.now c.args.parts.now.sections c.in-Some-section_at.at c.index-as_slice-at.result c.as_slice-3.ensures c.index-as_slice-at.is)
    (read-len c.as_slice-3.result.now c.in-Some-section_at.at c.index-as_slice-at.result _ c.index-as_slice-at.is c.len-len.ensures)
    c.if-index-len.false
    c.item_mut.ensures.value
    c.item_mut-2.ensures.value
    c.item_mut-3.ensures.value
    (rw c.replace-cells.ensures.value at (at-ok _ done c.transfer-moved.ensures.ok))
