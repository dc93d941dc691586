use Rattle.std.proofs.Common.{sym, ◌∙◌}
use Rattle.lanes.specs.Places.{with_queued}
use Rattle.lanes.proofs.Marks.{marked-at, marked-none}
use Rattle.lanes.proofs.change.set_queued.Goals as goal

pub returns-in-Some-clause-ok : goal.returns-in-Some-clause-ok
returns-in-Some-clause-ok c = marked-at c.args.cell (with_queued c.args.queued) c.args.marks.now _ c.item_mut.result.now (rw c.as_slice.ensures at c.in-Some.ensures) c.item_mut.ensures.value

pub returns-in_ok-push-in-None-clause-ok : goal.returns-in_ok-push-in-None-clause-ok
returns-in_ok-push-in-None-clause-ok c = c.in_ok-push-in-None.ensures.ok ∙ sym (marked-none c.args.cell (with_queued c.args.queued) c.args.marks.now (rw c.as_slice.ensures at c.in-None.ensures))
