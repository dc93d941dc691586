use Rattle.std.proofs.Common.{◌≡◌, take}
use Rattle.delta.proofs.Delta.copy.Given as goal

abbrev pub invariant-loop-step : goal.invariant-loop-step
invariant-loop-step l = (l.step-items ≡ l.self-inside.steps.items) × (l.steps.items ≡ take l.step-index l.step-items)
