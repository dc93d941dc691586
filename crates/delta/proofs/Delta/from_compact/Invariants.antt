use Rattle.std.proofs.Common.{◌≡◌}
use Rattle.delta.proofs.CanonicalSteps.{SoFar}
use Rattle.delta.proofs.Delta.from_compact.Given as goal

abbrev pub invariant-loop-i : goal.invariant-loop-i
invariant-loop-i l = (l.step-items ≡ l.fn.steps.items) × SoFar l.step-items l.i l.reach l.inserted
