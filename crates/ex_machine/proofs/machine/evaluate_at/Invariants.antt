use Rattle.std.proofs.Common.{length}
use Rattle.ex_model.specs.Tree.{Tree}
use Rattle.ex_model.specs.At.{IsAt}
use Rattle.ex_model.specs.Meaning.{meaning_of}
use Rattle.ex_machine.specs.Futures.{IsFuture, weight}
use Rattle.ex_machine.proofs.machine.evaluate_at.Given as goal

-- whichever tree stands at the root, its meaning is what is given in the end
abbrev pub invariant-loop-alloc : goal.invariant-loop-alloc
invariant-loop-alloc l = (t : Tree) → IsAt l.nodes l.root t → IsFuture l.nodes l.base l.machine.frames.items l.machine.made l.machine.left l.spot (meaning_of l.base t l.fn.made l.fn.left)

abbrev pub decreases-loop-alloc : goal.decreases-loop-alloc
decreases-loop-alloc l = weight l.spot (length l.machine.frames.items) l.machine.left
