use Rattle.std.proofs.Common.{refl}
use Rattle.notebook.proofs.Making.{read-in, read-len}
use Rattle.notebook.proofs.CellMoves.{past-within, made-within}
use Rattle.notebook.proofs.edits.move_within.Goals as goal

pub returns-then-index-others : goal.returns-then-index-others
returns-then-index-others c = (
  past-within
      c.args.parts.now
      c.args.cell
      c.args.section
      c.args.index
      c.args.place.section
      c.args.place.cell
      _
      _
      c.requires.rules
      c.requires.place
      c.requires.section
      (read-in c.as_slice.result.now c.args.parts.now.sections c.args.place.section c.index-as_slice-place.result c.as_slice.ensures c.index-as_slice-place.is)
      (read-len c.as_slice.result.now c.args.place.section c.index-as_slice-place.result _ c.index-as_slice-place.is c.len-others.ensures)
      c.if-index-others.true,
  refl,
)

pub returns : goal.returns
returns c =
    made-within
    c.args.parts.now
    c.args.cell
    c.args.section
    c.args.index
    c.args.place.section
    c.args.place.cell
    _
    _
    _
    _
    c.requires.rules
    c.requires.place
    c.requires.section
    (read-in c.as_slice.result.now c.args.parts.now.sections c.args.place.section c.index-as_slice-place.result c.as_slice.ensures c.index-as_slice-place.is)
    (read-len c.as_slice.result.now c.args.place.section c.index-as_slice-place.result _ c.index-as_slice-place.is c.len-others.ensures)
    c.if-index-others.false
    c.item_mut.ensures.value
    c.shift.ensures
