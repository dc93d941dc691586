use Rattle.std.proofs.Common.{refl}
use Rattle.freshness.specs.Marked.{with_started}
use Rattle.freshness.proofs.Remarking.{remarked-at, remarked-none}
use Rattle.freshness.proofs.following.keep_start.Goals as goal

pub returns-in-Some : goal.returns-in-Some
returns-in-Some c = remarked-at c.args.cell (with_started c.args.started) c.args.marks.now _ c.item_mut.result.now (rw c.as_slice.ensures at c.in-Some.ensures) c.item_mut.ensures.value refl

pub returns-in_default : goal.returns-in_default
returns-in_default c = remarked-none c.args.cell (with_started c.args.started) c.args.marks.now (rw c.as_slice.ensures at c.in_default.ensures)
