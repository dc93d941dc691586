use Rattle.lanes.specs.Changes.{as_stored}
use Rattle.lanes.proofs.Marks.{remarked-at, remarked-none}
use Rattle.lanes.proofs.change.keep.Goals as goal

pub returns-in-Some : goal.returns-in-Some
returns-in-Some c = remarked-at c.args.cell (as_stored c.args.path c.args.shown) c.args.marks.now _ c.item_mut-mark.result.now (rw c.as_slice.ensures at c.in-Some.ensures) c.item_mut-mark.ensures.value

pub returns-in_default : goal.returns-in_default
returns-in_default c = remarked-none c.args.cell (as_stored c.args.path c.args.shown) c.args.marks.now (rw c.as_slice.ensures at c.in_default.ensures)
