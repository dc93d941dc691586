use Rattle.std.proofs.Common.{◌≡◌, length, arith, ap, ◌∙◌}
use Rattle.lanes.specs.Changes.{moved_mark}
use Rattle.lanes.proofs.Lists.{half-start, half-length, half-more, half-all}
use Rattle.std.specs.Prelude.{slice_set}
use Rattle.lanes.proofs.change.abort_moved.Goals as goal

pub loop-at-init : goal.loop-at-init
loop-at-init c = (half-start _ _, c.len-at-end.ensures)

pub item_mut-requires : goal.item_mut-requires
item_mut-requires c =
    let size : length c.loop-at.marks ≡ length c.args.marks.now = ap length c.loop-at.invariant.0 ∙ half-length _ _ _ in
    omega (arith, size, c.loop-at.invariant.1, c.loop-at-test.true)

pub loop-at-preserved : goal.loop-at-preserved
loop-at-preserved c = (
  ap (slice_set c.loop-at.marks c.loop-at.at) c.abort_if_moved.ensures ∙ half-more (moved_mark c.args.book.now c.args.running.now) c.loop-at.at c.args.marks.now c.loop-at.marks c.item_mut.result.now c.loop-at.invariant.0 c.item_mut.ensures.value,
  c.loop-at.invariant.1,
)

pub returns : goal.returns
returns c = c.loop-at.invariant.0 ∙ half-all _ _ _ (omega (arith, c.loop-at.invariant.1, c.loop-at-test.false))
