use Rattle.std.proofs.Common.{◌≡◌, ◌∙◌, ap}
use Rattle.delta.specs.Runs.{all_runs}
use Rattle.delta.specs.Steps.{all_small}
use Rattle.delta.proofs.Rooms.{composed_room, composed_good}
use Rattle.delta.proofs.moves.compose.Goals as goal

pub compose_runs-requires-clause-reach : goal.compose_runs-requires-clause-reach
compose_runs-requires-clause-reach c =
    let first : all_runs c.deref.result.now ≡ all_small c.args.a.now = ap all_runs c.deref.ensures.value ∙ (c.in_ok-first.ensures.same ∙ ap all_small c.to_compact.ensures.steps) in
    let second : all_runs c.deref-2.result.now ≡ all_small c.args.b.now = ap all_runs c.deref-2.ensures.value ∙ (c.in_ok-second.ensures.same ∙ ap all_small c.to_compact-2.ensures.steps) in
    rw (first, second) (composed_room c.args.a.now c.args.b.now c.requires)

pub sealed-requires : goal.sealed-requires
sealed-requires c =
    let first : all_runs c.deref.result.now ≡ all_small c.args.a.now = ap all_runs c.deref.ensures.value ∙ (c.in_ok-first.ensures.same ∙ ap all_small c.to_compact.ensures.steps) in
    let second : all_runs c.deref-2.result.now ≡ all_small c.args.b.now = ap all_runs c.deref-2.ensures.value ∙ (c.in_ok-second.ensures.same ∙ ap all_small c.to_compact-2.ensures.steps) in
    rw (c.in_ok-steps.ensures, first, second) (composed_good c.args.a.now c.args.b.now c.requires)
