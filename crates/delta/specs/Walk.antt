-- One step of a delta, taken over what is left of a text.
use Rattle.std.specs.Prelude.{◌≡◌, ℕ, ◌+◌, false, List, [], ◌++◌}
use Rattle.utf16_text.specs.Units.{unit_count, is_whole}
use Rattle.delta.specs.declared.Step.{Step}
use Rattle.delta.specs.declared.Step.TheVariants.{Retain, Insert, Delete}
use Rattle.delta.specs.declared.ApplyError.{ApplyError}
use Rattle.delta.specs.declared.ApplyError.TheVariants.{PastEnd, SplitsPair, OutOfMemory}
use Rattle.delta.specs.Steps.{passed}

-- what a step writes of the old characters that it passes
abbrev pub written : Step → List ℕ → List ℕ
written (Retain n) taken = taken
written (Insert text) taken = text
written (Delete n) taken = []

-- a step has gone from this text made and this rest to those
pub record StepsOver (step : Step) (made rest made' rest' : List ℕ) : Type 0 where
  pub taken : List ℕ
  pub parts : rest ≡ taken ++ rest'
  pub passes : unit_count taken ≡ passed step
  pub writes : made' ≡ made ++ written step taken

-- why a part of n units was not cut from the rest, which begins at a place: the cut would split a pair
abbrev pub IsSplitAt : ℕ → ℕ → List ℕ → ApplyError → Type 0
IsSplitAt n at rest (PastEnd len) = ⊥
IsSplitAt n at rest (SplitsPair p) = (p ≡ at + n) × (is_whole rest n ≡ false)
IsSplitAt n at rest OutOfMemory = ⊥

-- why a step was not taken
abbrev pub IsStepCause : Step → ℕ → List ℕ → ApplyError → Type 0
IsStepCause step at rest (PastEnd len) = ⊥
IsStepCause step at rest (SplitsPair p) = (p ≡ at + passed step) × (is_whole rest (passed step) ≡ false)
IsStepCause step at rest OutOfMemory = Unit {0}
