use Rattle.std.proofs.Common.{◌+◌, length}
use Rattle.delta.specs.Runs.{all_runs}
use Rattle.delta.specs.Fronts.{left}
use Rattle.delta.proofs.MoveTurns.{Moving}
use Rattle.delta.proofs.transforming.transform_runs.Given as goal

abbrev pub invariant-loop-l : goal.invariant-loop-l
invariant-loop-l l = Moving l.right_first (all_runs l.fn.left) (all_runs l.fn.right) l.packer l.l l.r

abbrev pub decreases-loop-l : goal.decreases-loop-l
decreases-loop-l l = length (left l.l) + length (left l.r)
