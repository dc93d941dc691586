use Rattle.std.proofs.Common.{refl}
use Rattle.std.specs.List.{flat_map}
use Rattle.livemd_format.specs.Write.{saved_blocks}
use Rattle.livemd_write.proofs.Blocks.{drop_last, drop_turn, left}
use Rattle.livemd_write.proofs.page.push_saved.Goals as goal

pub loop-output-preserved : goal.loop-output-preserved
loop-output-preserved c = drop_turn (flat_map saved_blocks) saved_blocks (λ x xs. refl) _ _ c.output-item.result _ _ _ (left c.args.saved.now c.loop-output.output-index c.output-item.result c.loop-output-test.true c.output-item.is) c.loop-output.invariant c.in_ok-push_output.ensures.ok

pub returns : goal.returns
returns c = record { ok = drop_last (flat_map saved_blocks) refl c.args.saved.now c.loop-output.output-index _ _ _ c.loop-output-test.false c.loop-output.invariant }
