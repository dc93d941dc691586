use Rattle.std.proofs.Common.{◌≡◌, ◌++◌, drop, string_bytes}
use Rattle.std.specs.List.{flat_map}
use Rattle.transcript.specs.Deltas.{next_step_text}
use Rattle.transcript.proofs.deltas.push_next_steps.Given as goal

-- the text so far and that of the steps left are the whole
abbrev pub invariant-loop-step : goal.invariant-loop-step
invariant-loop-step l = string_bytes l.out ++ flat_map next_step_text (drop l.step-index l.steps) ≡ string_bytes l.fn.out ++ flat_map next_step_text l.steps
