-- What sources mean along a path, each over what those before it made.
use Rattle.std.specs.Prelude.{◌≡◌, ℕ, List, [], ◌∷◌, ◌++◌}
use Rattle.ex_value.specs.declared.Value.{Value}
use Rattle.ex_model.specs.declared.bindings.Binding.{Binding}
use Rattle.ex_model.specs.declared.ran.Outcome.TheVariants as Outcomes
use Rattle.ex_model.specs.declared.ran.Ran.{Ran}
use Rattle.ex_model.specs.declared.ran.Shown.{Shown}
use Rattle.ex_model.specs.Bound.{put_all}
use Rattle.ex_model.specs.Means.{Means}

-- what a source means over bindings within the 200,000 steps that a cell has
abbrev pub MeansInCell : List ℕ → List Binding → Ran → Type 0
MeansInCell source base ran = Means source base 200000 ran

-- the bindings after all sources of a path, none of which faults
pub data After : List (List ℕ) → List Binding → Type 0 where
  at_start : After [] []
  and_after : {sources : List (List ℕ)} {base : List Binding} {source : List ℕ} {ran : Ran} {value : Value}
      → After sources base → MeansInCell source base ran → ran.shown.outcome ≡ Outcomes.Value value → After (sources ++ source ∷ []) (put_all base ran.made)

-- what the last source of a path shows, where none before it faults
pub data IsShown : List (List ℕ) → Shown → Type 0 where
  is_last : {sources : List (List ℕ)} {base : List Binding} {source : List ℕ} {ran : Ran} → After sources base → MeansInCell source base ran → IsShown (sources ++ source ∷ []) ran.shown
