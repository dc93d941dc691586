use Rattle.std.proofs.Common.{◌≡◌, ◌∙◌, ap}
use Rattle.delta.specs.Runs.{all_runs}
use Rattle.delta.specs.Steps.{all_small}
use Rattle.delta.proofs.Rooms.{transformed_room, transformed_good}
use Rattle.delta.proofs.moves.transform.Goals as goal

pub transform_runs-requires-clause-reach : goal.transform_runs-requires-clause-reach
transform_runs-requires-clause-reach c =
    let left : all_runs c.deref.result.now ≡ all_small c.args.left.now = ap all_runs c.deref.ensures.value ∙ (c.in_ok-lefts.ensures.same ∙ ap all_small c.to_compact.ensures.steps) in
    let right : all_runs c.deref-2.result.now ≡ all_small c.args.right.now = ap all_runs c.deref-2.ensures.value ∙ (c.in_ok-rights.ensures.same ∙ ap all_small c.to_compact-2.ensures.steps) in
    rw (left, right) (transformed_room c.is_right.result c.args.left.now c.args.right.now c.requires)

pub sealed-requires : goal.sealed-requires
sealed-requires c =
    let left : all_runs c.deref.result.now ≡ all_small c.args.left.now = ap all_runs c.deref.ensures.value ∙ (c.in_ok-lefts.ensures.same ∙ ap all_small c.to_compact.ensures.steps) in
    let right : all_runs c.deref-2.result.now ≡ all_small c.args.right.now = ap all_runs c.deref-2.ensures.value ∙ (c.in_ok-rights.ensures.same ∙ ap all_small c.to_compact-2.ensures.steps) in
    rw (c.in_ok-steps.ensures, left, right) (transformed_good c.is_right.result c.args.left.now c.args.right.now c.requires)
