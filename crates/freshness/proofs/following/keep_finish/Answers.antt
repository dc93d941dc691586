use Rattle.std.proofs.Common.{sym, subst}
use Rattle.std.specs.Prelude.{slice_set}
use Rattle.freshness.specs.Calls.{AreRemarked}
use Rattle.freshness.specs.Marked.{as_finished}
use Rattle.freshness.proofs.Remarking.{remarked-at, remarked-none, finished-number}
use Rattle.freshness.proofs.following.keep_finish.Goals as goal

pub returns-in-Some : goal.returns-in-Some
returns-in-Some c =
    subst (λ m. AreRemarked c.args.cell (as_finished c.args.eval c.args.shown) c.args.marks.now (slice_set c.args.marks.now c.in-Some.at m)) (sym c.finish.ensures)
    (remarked-at c.args.cell (as_finished c.args.eval c.args.shown) c.args.marks.now c.in-Some.at c.item_mut.result.now (rw c.as_slice.ensures at c.in-Some.ensures) c.item_mut.ensures.value
    (finished-number c.args.eval c.args.shown c.item_mut.result.now c.item_mut.result.now.started))

pub returns-in_default : goal.returns-in_default
returns-in_default c = remarked-none c.args.cell (as_finished c.args.eval c.args.shown) c.args.marks.now (rw c.as_slice.ensures at c.in_default.ensures)
