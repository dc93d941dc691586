-- What a session's state says of one cell's source, and which log stands for it.
use Rattle.std.specs.Prelude.{◌≡◌, ◌≤◌, ℕ, ◌+◌, List, [], ◌∷◌, Some}
use Rattle.delta.specs.declared.Step.{Step}
use Rattle.notebook.specs.declared.parts.Cell.{Cell}
use Rattle.revisions.specs.declared.floors.Floor.{Floor}
use Rattle.revisions.specs.declared.moved.Move.{Move}
use Rattle.revisions.specs.declared.source_log.SourceLog.{SourceLog}
use Rattle.revisions.specs.Answer.{Answer, Takes, TooNew, TooOld, PastEnd, SplitsPair}
use Rattle.revisions.specs.Log.{IsLog}
use Rattle.revisions.specs.Moved.{IsMove}
use Rattle.revisions.specs.Source.{Source}
use Rattle.session_ops.specs.declared.entry.Refusal.TheVariants as refusal
use Rattle.session_ops.specs.declared.entry.Reply.{Reply}
use Rattle.session_ops.specs.declared.entry.Reply.TheVariants.{Applied, Refused}
use Rattle.session_ops.specs.State.{State, Known, first_source, taken_by, revision, floor, delta_reply}

-- the floors for a cell of these clients, in their order
abbrev pub floors_of : ℕ → List Known → List ℕ → List Floor
floors_of cell known [] = []
floors_of cell known (n ∷ ns) =
    record { client = n; rev = floor n cell known } ∷ floors_of cell known ns

-- the source of a cell, which is this text now: the one with which it began, the deltas that it took, and the floors of those who have joined
abbrev pub source_in : State → ℕ → List ℕ → Source
source_in s cell text =
    record {
      first = first_source cell s.began;
      taken = taken_by cell s.taken;
      text = text;
      floors = floors_of cell s.known s.joined;
    }

-- the log is that of the cell's source; and nobody is known to have a later revision than its own
pub record StandsFor (s : State) (cell : ℕ) (text : List ℕ) (log : SourceLog) : Type 0 where
  pub log_of : IsLog (source_in s cell text) log
  pub known : (n : ℕ) → floor n cell s.known ≤ revision s cell

-- how a client is told what a source answers to its delta
abbrev pub as_reply : Answer → Reply
as_reply (Takes rev x) = Applied rev x
as_reply (TooNew now) = Refused (refusal.TooNew now)
as_reply (TooOld kept) = Refused (refusal.TooOld kept)
as_reply (PastEnd len) = Refused (refusal.PastEnd len)
as_reply (SplitsPair at) = Refused (refusal.SplitsPair at)

-- what a client's delta becomes: the session would answer with this delta, which fits the cell's source, and this is the text that it makes
pub record IsMovedIn (s : State) (cell : ℕ) (c : Cell) (base : ℕ) (d : List Step) (m : Move) : Type 0 where
  pub answered : delta_reply s cell base d (Some c) ≡ Applied (revision s cell + 1) m.delta
  pub moves : IsMove c.source m
