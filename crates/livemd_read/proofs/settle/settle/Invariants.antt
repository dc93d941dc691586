use Rattle.livemd_read.proofs.Settling.{Settles}
use Rattle.livemd_read.proofs.settle.settle.Given as goal

abbrev pub invariant-loop-at : goal.invariant-loop-at
invariant-loop-at l = Settles l.fn.items.items l.items.items l.at l.behind

abbrev pub decreases-loop-at : goal.decreases-loop-at
decreases-loop-at l = l.at
