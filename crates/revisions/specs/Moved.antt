-- What moving a delta to the present text answers.
use Rattle.std.specs.Prelude.{◌≡◌, ◌≤◌, ℕ, ◌+◌, List, Some}
use Rattle.utf16_text.specs.Units.{unit_count}
use Rattle.delta.specs.declared.Step.{Step}
use Rattle.delta.specs.Steps.{reach_of}
use Rattle.delta.specs.Moves.{FitsText, text_after}
use Rattle.delta_laws.specs.Misfits.{misfit, Past, Splits}
use Rattle.revisions.specs.declared.errors.RevError.{RevError}
use Rattle.revisions.specs.declared.errors.RevError.TheVariants.{TooNew, TooOld, PastEnd, SplitsPair, OutOfMemory}
use Rattle.revisions.specs.declared.moved.Move.{Move}
use Rattle.revisions.specs.Answer.{Takes, answer, IsWithin}
use Rattle.revisions.specs.Source.{Source, rev_of}

-- its delta fits the text, and its text is what the delta makes of it
pub record IsMove (now : List ℕ) (m : Move) : Type 0 where
  pub fits : FitsText m.delta now
  pub makes : m.text ≡ text_after m.delta now

-- what the delta becomes at the present revision: the source would take this, and it fits its text
pub record IsMoved (s : Source) (base : ℕ) (d : List Step) (m : Move) : Type 0 where
  pub answered : answer s base d ≡ Takes (rev_of s + 1) m.delta
  pub moves : IsMove s.text m
  pub within : IsWithin s base d

-- the delta became x, which fits the text, and stays within the text on which it was made
pub record BecomesMove (d x : List Step) (t now : List ℕ) (m : Move) : Type 0 where
  pub moved : m.delta ≡ x
  pub moves : IsMove now m
  pub reach : reach_of d ≤ unit_count t

-- why a delta that became x isn't applied; memory is wanted only where the delta stays within the text on which it was made
abbrev pub IsMoveCause : List Step → List Step → List ℕ → List ℕ → RevError → Type 0
IsMoveCause d x t now (TooNew rev) = ⊥
IsMoveCause d x t now (TooOld rev) = ⊥
IsMoveCause d x t now (PastEnd len) = misfit x now ≡ Some (Past len)
IsMoveCause d x t now (SplitsPair at) = misfit x now ≡ Some (Splits at)
IsMoveCause d x t now OutOfMemory = reach_of d ≤ unit_count t
