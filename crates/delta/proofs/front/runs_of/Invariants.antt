use Rattle.std.proofs.Common.{◌≡◌, take}
use Rattle.delta.specs.Steps.{all_small}
use Rattle.delta.specs.Runs.{AllRuns, all_runs}
use Rattle.delta.proofs.front.runs_of.Given as goal

abbrev pub invariant-loop-step : goal.invariant-loop-step
invariant-loop-step l = (all_runs l.runs.items ≡ all_small (take l.step-index l.steps)) × AllRuns l.runs.items
