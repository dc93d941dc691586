use Rattle.livemd_write.proofs.Blocks.{Runs}
use Rattle.livemd_write.proofs.fences.longest_run.Given as goal

abbrev pub invariant-loop-b : goal.invariant-loop-b
invariant-loop-b l = Runs l.text l.b-index l.run l.best
