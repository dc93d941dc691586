use Rattle.livemd_write.proofs.Blocks.{run_start, run_turn}
use Rattle.livemd_write.proofs.fences.longest_run.Goals as goal

pub loop-b-init : goal.loop-b-init
loop-b-init c = run_start c.args.text.now

pub loop-b-preserved : goal.loop-b-preserved
loop-b-preserved c = run_turn c.args.text.now c.loop-b.b-index c.loop-b.run c.loop-b.best _ _ c.loop-b-test.true c.loop-b.invariant c.run_with-run.ensures c.max-best.ensures
