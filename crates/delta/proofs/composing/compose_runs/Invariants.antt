use Rattle.std.proofs.Common.{◌+◌, length}
use Rattle.delta.specs.Runs.{all_runs}
use Rattle.delta.specs.Fronts.{left}
use Rattle.delta.proofs.JoinTurns.{Joining}
use Rattle.delta.proofs.composing.compose_runs.Given as goal

abbrev pub invariant-loop-a : goal.invariant-loop-a
invariant-loop-a l = Joining (all_runs l.fn.first) (all_runs l.fn.second) l.packer l.a l.b

abbrev pub decreases-loop-a : goal.decreases-loop-a
decreases-loop-a l = length (left l.a) + length (left l.b)
