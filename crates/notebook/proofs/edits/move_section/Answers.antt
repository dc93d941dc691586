use Rattle.std.proofs.Common.{refl}
use Rattle.notebook.proofs.Making.{none-moved, past-moved, bad-moved, made-moved}
use Rattle.notebook.proofs.edits.move_section.Goals as goal

pub returns-in_default : goal.returns-in_default
returns-in_default c = (none-moved c.args.parts.now c.args.section c.args.index (rw c.as_slice.ensures at c.in_default.ensures), refl)

pub returns-then-index-others : goal.returns-then-index-others
returns-then-index-others c =
    (past-moved c.args.parts.now c.args.section _ c.args.index _ c.requires (rw c.as_slice.ensures at c.in-Some.ensures) c.len-others.ensures c.if-index-others.true, refl)

pub returns-then-not-may_stand : goal.returns-then-not-may_stand
returns-then-not-may_stand c =
    (bad-moved c.args.parts.now c.args.section _ c.args.index _ _ c.requires (rw c.as_slice.ensures at c.in-Some.ensures) c.len-others.ensures c.if-index-others.false (rw c.as_slice-2.ensures at c.may_stand.ensures) c.if-not-may_stand.true, refl)

pub returns : goal.returns
returns c =
    made-moved c.args.parts.now c.args.section _ c.args.index _ _ _ c.requires (rw c.as_slice.ensures at c.in-Some.ensures) c.len-others.ensures c.if-index-others.false (rw c.as_slice-2.ensures at c.may_stand.ensures) c.if-not-may_stand.false c.shift.ensures
