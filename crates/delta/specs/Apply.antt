-- What applying a delta answers.
use Rattle.std.specs.Prelude.{◌≡◌, ◌<◌, ◌≤◌, ℕ, List, Some}
use Rattle.utf16_text.specs.Units.{unit_count}
use Rattle.delta.specs.declared.Step.{Step}
use Rattle.delta.specs.declared.ApplyError.{ApplyError}
use Rattle.delta.specs.declared.ApplyError.TheVariants.{PastEnd, SplitsPair, OutOfMemory}
use Rattle.delta.specs.Steps.{reach_of, broken_cut}
use Rattle.delta.specs.Moves.{FitsText, text_after}

-- the steps fit the old text, and the new one is what they make of it
pub record IsApplied (steps : List Step) (old new : List ℕ) : Type 0 where
  pub fits : FitsText steps old
  pub text : new ≡ text_after steps old

-- why the steps do not fit the text: they reach past its units, or else this is the first cut within a character
abbrev pub IsApplyCause : List Step → List ℕ → ApplyError → Type 0
IsApplyCause steps old (PastEnd len) = (len ≡ unit_count old) × (unit_count old < reach_of steps)
IsApplyCause steps old (SplitsPair at) = (reach_of steps ≤ unit_count old) × (broken_cut steps old ≡ Some at)
IsApplyCause steps old OutOfMemory = Unit {0}
