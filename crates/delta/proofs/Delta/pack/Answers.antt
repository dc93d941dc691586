use Rattle.std.proofs.Common.{◌≡◌, ◌∙◌, ap}
use Rattle.delta.specs.Runs.{all_runs}
use Rattle.delta.specs.Steps.{all_small}
use Rattle.delta.proofs.Rooms.{packed_room, packed_steps_good}
use Rattle.delta.proofs.Delta.pack.Goals as goal

pub pack_runs-requires : goal.pack_runs-requires
pack_runs-requires c =
    let same : all_runs c.deref-2.result.now ≡ all_small c.args.steps.items = ap all_runs c.deref-2.ensures.value ∙ (c.in_ok-runs.ensures.same ∙ ap all_small c.deref.ensures.value) in
    rw same (packed_room c.args.steps.items c.requires.reach)

pub sealed-requires : goal.sealed-requires
sealed-requires c =
    let same : all_runs c.deref-2.result.now ≡ all_small c.args.steps.items = ap all_runs c.deref-2.ensures.value ∙ (c.in_ok-runs.ensures.same ∙ ap all_small c.deref.ensures.value) in
    rw (c.in_ok-packed.ensures, same) (packed_steps_good c.args.steps.items c.requires.reach c.requires.inserted)
