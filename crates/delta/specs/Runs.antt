-- The steps of a delta as runs over units.
use Rattle.std.specs.Prelude.{◌≡◌, ◌<◌, Bool, List, [], ◌∷◌, ◌++◌, map, replicate, length}
use Rattle.std.specs.List.{flat_map}
use Rattle.delta.specs.Spread.{Small, Keep, Drop, Put}
use Rattle.delta.specs.Steps.{small_steps}
use Rattle.delta.specs.Compose.{composed_small}
use Rattle.delta.specs.Transform.{transformed_small}
use Rattle.delta.specs.declared.Step.{Step}
use Rattle.delta.specs.declared.front.Run.{Run}
use Rattle.delta.specs.declared.front.Run.TheVariants.{Kept, Gone, New}

-- the small steps of a run
abbrev pub run_small : Run → List Small
run_small (Kept n) = replicate n Keep
run_small (Gone n) = replicate n Drop
run_small (New units) = map Put units.items

-- the small steps of the runs, one after the other
abbrev pub all_runs : List Run → List Small
all_runs runs = flat_map run_small runs

-- the first runs and then the second, as one
abbrev pub composed_runs : List Run → List Run → List Small
composed_runs first second = composed_small (all_runs first) (all_runs second)

-- the right's runs as they go after the left's, whose inserts come first in a tie unless the right's do
abbrev pub transformed_runs : Bool → List Run → List Run → List Small
transformed_runs right_first left right = transformed_small right_first (all_runs left) (all_runs right)

-- a run that is not empty
abbrev pub IsRun : Run → Type 0
IsRun (Kept n) = 0 < n
IsRun (Gone n) = 0 < n
IsRun (New units) = 0 < length units.items

abbrev pub AllRuns : List Run → Type 0
AllRuns [] = Unit {0}
AllRuns (run ∷ runs) = IsRun run × AllRuns runs

-- the run of a step was added, where it is not empty
pub record AppendsRun (old new : List Run) (step : Step) : Type 0 where
  pub same : all_runs new ≡ all_runs old ++ small_steps step
  pub runs : AllRuns old → AllRuns new
