-- What a source answers.
use Rattle.std.specs.Prelude.{◌≡◌, ◌≤◌, ◌<◌, ◌⊎◌, ℕ, ◌+◌, nat_lt, if◌then◌else◌, List, [], ◌∷◌, drop, take, Option, Some, None}
use Rattle.utf16_text.specs.Units.{unit_count}
use Rattle.delta.specs.declared.Step.{Step}
use Rattle.delta.specs.Steps.{reach_of}
use Rattle.delta.specs.Moves.{FitsText, over}
use Rattle.delta_laws.specs.Misfits.{Misfit, Past, Splits, misfit}
use Rattle.revisions.specs.declared.errors.RevError.{RevError}
use Rattle.revisions.specs.declared.errors.RevError.TheVariants as error
use Rattle.revisions.specs.declared.errors.ReportError.{ReportError}
use Rattle.revisions.specs.declared.errors.ReportError.TheVariants as report_error
use Rattle.revisions.specs.declared.floors.Floor.{Floor}
use Rattle.revisions.specs.Kept.{made_by}
use Rattle.revisions.specs.Source.{Source, rev_of, least_of}

-- it takes the delta, moved, as this revision; or the base is above its revision, or below the least floor, or the moved delta reaches past its units, or cuts inside a character
pub data Answer : Type 0 where
  Takes : ℕ → List Step → Answer
  TooNew : ℕ → Answer
  TooOld : ℕ → Answer
  PastEnd : ℕ → Answer
  SplitsPair : ℕ → Answer

-- the answer to a moved delta, by what keeps it from the text
abbrev pub judged : ℕ → List Step → Option Misfit → Answer
judged rev x None = Takes (rev + 1) x
judged rev x (Some (Past len)) = PastEnd len
judged rev x (Some (Splits at)) = SplitsPair at

-- the answer to a delta that is moved over those that came after its base, each of which goes first in a tie
abbrev pub fitted : Source → List Step → Answer
fitted s x = judged (rev_of s) x (misfit x s.text)

-- the answer to a delta that was made at the base, in the order of the checks
abbrev pub answer : Source → ℕ → List Step → Answer
answer s base d =
    if nat_lt (rev_of s) base then TooNew (rev_of s)
    else (if nat_lt base (least_of s) then TooOld (least_of s)
    else fitted s (over d (drop base s.taken)))

-- a delta that may be moved, and doesn't reach past the text on which it was made
pub record IsWithin (s : Source) (base : ℕ) (d : List Step) : Type 0 where
  pub not_new : base ≤ rev_of s
  pub not_old : least_of s ≤ base
  pub reach : reach_of d ≤ unit_count (made_by (take base s.taken) s.first)

-- some floor of the client is at most this revision
abbrev pub HasFloorUpTo : ℕ → ℕ → List Floor → Type 0
HasFloorUpTo client rev [] = ⊥
HasFloorUpTo client rev (f ∷ fs) = ((f.client ≡ client) × (f.rev ≤ rev)) ⊎ HasFloorUpTo client rev fs

-- a delta that was made from the client's floor on, and fitted the text on which it was made
pub record IsHonest (s : Source) (client base : ℕ) (d : List Step) : Type 0 where
  pub joined : HasFloorUpTo client base s.floors
  pub not_new : base ≤ rev_of s
  pub fits : FitsText d (made_by (take base s.taken) s.first)

-- why the delta isn't taken: the source answers so; and memory is wanted only for one that may be moved and stays within its text
abbrev pub IsCause : Source → ℕ → List Step → RevError → Type 0
IsCause s base d (error.TooNew now) = answer s base d ≡ TooNew now
IsCause s base d (error.TooOld kept) = answer s base d ≡ TooOld kept
IsCause s base d (error.PastEnd len) = answer s base d ≡ PastEnd len
IsCause s base d (error.SplitsPair at) = answer s base d ≡ SplitsPair at
IsCause s base d error.OutOfMemory = IsWithin s base d

-- why a report isn't noted: it is of a revision above the present one
abbrev pub IsReportCause : Source → ℕ → ReportError → Type 0
IsReportCause s rev (report_error.TooNew now) = (now ≡ rev_of s) × (rev_of s < rev)
