-- A session is told by the notebook with which it opened and its history, which make its state.
use Rattle.std.specs.Prelude.{◌≡◌, ℕ, ◌==◌, Bool, true, false, List, [], ◌∷◌, ◌++◌, find, Option, Some, None, option_map}
use Rattle.notebook.specs.declared.parts.Parts.{Parts}
use Rattle.notebook.specs.declared.parts.Passed.{Passed}
use Rattle.notebook.specs.declared.states.Lane.{Lane}
use Rattle.notebook.specs.declared.states.Status.{Status}
use Rattle.notebook.specs.declared.states.Validity.{Validity}
use Rattle.notebook.specs.Rules.{IsNotebook}
use Rattle.notebook.specs.declared.parts.Cell.{Cell}
use Rattle.notebook.specs.declared.change.Change.{Change}
use Rattle.notebook.specs.declared.change.Change.TheVariants.{DeleteSection, DeleteCell}
use Rattle.notebook.specs.declared.change.NoteError.{NoteError}
use Rattle.notebook.specs.declared.change.NoteError.TheVariants as note
use Rattle.notebook.specs.Living.{made_cells}
use Rattle.notebook.specs.Flow.{path}
use Rattle.notebook.specs.Validity.{validity_by, status_by}
use Rattle.ex_model.specs.declared.ran.Shown.{Shown}
use Rattle.lanes.specs.Work.{may_start, is_queued, is_aborted, is_running, last_finished, path_read, shown_in, ready_lane as ready_lane_of}
use Rattle.session_ops.specs.declared.entry.Call.{Call}
use Rattle.session_ops.specs.declared.entry.Call.TheVariants.{Start}
use Rattle.session_ops.specs.declared.entry.Reply.{Reply}
use Rattle.session_ops.specs.declared.entry.Reply.TheVariants.{Started, Refused}
use Rattle.session_ops.specs.declared.entry.Refusal.{Refusal}
use Rattle.session_ops.specs.declared.entry.Refusal.TheVariants as refusal
use Rattle.session_ops.specs.declared.entry.Entry.{Entry}
use Rattle.session_ops.specs.State.{State, Job, state, reply, jobs, is_job, Legal}
use Rattle.revisions.specs.declared.errors.RevError.{RevError}
use Rattle.revisions.specs.declared.errors.RevError.TheVariants.{TooNew, TooOld, PastEnd, SplitsPair, OutOfMemory}
use Rattle.session_core.specs.declared.job.PlainJob.{PlainJob}
use Rattle.session_core.specs.Jobs.{IsAlong}

-- what a session is to its callers: the notebook with which it opened, and all that was asked of it since, with its answers
pub record Session : Type 0 where
  pub opening : Parts
  pub history : List Entry

-- all that was asked of the session, with its answers
abbrev pub history_of : Session → List Entry
history_of s = s.history

-- what its history makes of a notebook
abbrev pub state_of : Parts → Session → State
state_of n0 s = state n0 (history_of s)

-- the session opened with this notebook, and its history is legal
pub record IsSession (n0 : Parts) (s : Session) : Type 0 where
  pub of : s.opening ≡ n0
  pub opening : IsNotebook n0
  pub legal : Legal n0 (history_of s)

abbrev pub entry_of : ℕ → Call → Reply → Entry
entry_of by call answer = record { by = by; call = call; reply = answer }

-- the session answered the call as the state says, and its history has just that entry more
pub record HasAnswered (n0 : Parts) (by : ℕ) (call : Call) (old new : Session) (answer : Reply) : Type 0 where
  pub right : answer ≡ reply (state_of n0 old) call
  pub history : history_of new ≡ history_of old ++ entry_of by call answer ∷ []
  pub session : IsSession n0 new

-- whatever was appended, the state is as it was
abbrev pub LeavesState : Parts → Session → Session → Type 0
LeavesState n0 old new = state_of n0 new ≡ state_of n0 old

-- the job was started under this number and isn't answered yet: its source and its bindings are those along the path that was read at its start
pub record IsHandedOut (n0 : Parts) (s : Session) (by : ℕ) (job : PlainJob) : Type 0 where
  pub out : Job
  pub is_out : find (is_job job.eval) (jobs n0 (history_of s)) ≡ Some out
  pub number : out.by ≡ by
  pub along : IsAlong out.path job

-- each job that is out stays out
abbrev pub StayOut : Session → Session → Type 0
StayOut old new = (owner : ℕ) (job : PlainJob) → IsHandedOut old.opening old owner job → IsHandedOut new.opening new owner job

-- the same, but for that of one evaluation
abbrev pub OthersStayOut : ℕ → Session → Session → Type 0
OthersStayOut eval old new = (owner : ℕ) (job : PlainJob) → (eval == job.eval) ≡ false → IsHandedOut old.opening old owner job → IsHandedOut new.opening new owner job

-- an evaluation was started in the lane, and its job handed out: its source, and the bindings over which it is to be evaluated
pub record HasStarted (n0 : Parts) (by : ℕ) (lane : Lane) (old new : Session) (job : PlainJob) : Type 0 where
  pub may : may_start (state_of n0 old).book (state_of n0 old).work lane ≡ Some job.cell
  pub answered : HasAnswered n0 by (Start lane) old new (Started job.eval job.cell)
  pub handed : IsHandedOut n0 new by job

-- the same, or no cell of the lane may start, and the session is as it was
abbrev pub HasTriedStart : Parts → ℕ → Lane → Session → Session → Option PlainJob → Type 0
HasTriedStart n0 by lane old new None = (may_start (state_of n0 old).book (state_of n0 old).work lane ≡ None) × (new ≡ old)
HasTriedStart n0 by lane old new (Some job) = HasStarted n0 by lane old new job

-- why a reply refuses
abbrev pub refused_by : Reply → Option Refusal
refused_by (Refused why) = Some why
refused_by answer = None

-- how a client is told that a delta isn't taken; for want of memory it is told nothing
abbrev pub told : RevError → Option Refusal
told (TooNew now) = Some (refusal.TooNew now)
told (TooOld kept) = Some (refusal.TooOld kept)
told (PastEnd len) = Some (refusal.PastEnd len)
told (SplitsPair at) = Some (refusal.SplitsPair at)
told OutOfMemory = None

-- the status of a cell, and its validity by the path that it has now
abbrev pub status_on : State → ℕ → List Passed → Status
status_on s cell present = status_by (is_running s.work cell) (is_queued s.work cell)

abbrev pub validity_on : State → ℕ → List Passed → Validity
validity_on s cell present = validity_by (is_aborted s.work cell) (option_map path_read (last_finished s.work cell)) present

-- both of a live setup or code cell: a cell has a path exactly where it is one
abbrev pub status_of : State → ℕ → Option Status
status_of s cell = option_map (status_on s cell) (path s.book cell)

abbrev pub validity_of : State → ℕ → Option Validity
validity_of s cell = option_map (validity_on s cell) (path s.book cell)

-- what a live setup or code cell's last finished evaluation showed
abbrev pub shown_if : State → ℕ → Option (List Passed) → Option Shown
shown_if s cell None = None
shown_if s cell (Some present) = option_map shown_in (last_finished s.work cell)

abbrev pub shown_of : State → ℕ → Option Shown
shown_of s cell = shown_if s cell (path s.book cell)

-- the first lane that may start: the main one first, and then the branches in notebook order
abbrev pub ready_lane : State → Option Lane
ready_lane s = ready_lane_of s.book s.work

-- nothing runs, and some cell is queued
pub record IsWaiting (s : State) : Type 0 where
  pub rests : s.work.running ≡ []
  pub cell : ℕ
  pub queued : is_queued s.work cell ≡ true

-- a cell that a change makes, if it makes one, begins with this source
abbrev pub first_of : List Cell → Option (List ℕ)
first_of [] = None
first_of (c ∷ cs) = Some c.source

abbrev pub new_source : Parts → Change → Option (List ℕ)
new_source n asked = first_of (made_cells n asked)

-- whether a change takes cells away
abbrev pub takes_away : Change → Bool
takes_away (DeleteSection section) = true
takes_away (DeleteCell cell) = true
takes_away asked = false

-- how a client is told that a change isn't made; for want of memory it is told nothing
abbrev pub told_change : NoteError → Option Refusal
told_change note.NoCell = Some refusal.NoCell
told_change note.NoSection = Some refusal.NoSection
told_change (note.BadIndex len) = Some (refusal.BadIndex len)
told_change note.BadParent = Some refusal.BadParent
told_change note.HasBranches = Some refusal.HasBranches
told_change note.TooManyCells = Some refusal.TooManyCells
told_change note.TooManySections = Some refusal.TooManySections
told_change note.OutOfMemory = None
