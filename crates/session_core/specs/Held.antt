-- What a session holds stands for the state that its history makes of the opening notebook.
use Rattle.std.specs.Prelude.{◌≡◌, ℕ, List, [], ◌∷◌, ◌++◌, find, length, true, Option, Some, None, Result, IfOk, OnErr, MatchResult}
use Rattle.notebook.specs.declared.parts.Parts.{Parts}
use Rattle.notebook.specs.declared.states.Lane.{Lane}
use Rattle.notebook.specs.Rules.{IsNotebook}
use Rattle.notebook.specs.declared.change.Change.{Change}
use Rattle.notebook.specs.declared.change.Changed.{Changed}
use Rattle.notebook.specs.declared.change.NoteError.{NoteError}
use Rattle.notebook.specs.Change.{Makes, change, Refuses}
use Rattle.lanes.specs.Work.{may_start}
use Rattle.session_ops.specs.declared.entry.Call.{Call}
use Rattle.session_ops.specs.declared.entry.Call.TheVariants.{Client, Start}
use Rattle.session_ops.specs.declared.entry.Op.{Op}
use Rattle.session_ops.specs.declared.entry.Op.TheVariants.{Delta}
use Rattle.session_ops.specs.declared.entry.Refusal.{Refusal}
use Rattle.session_ops.specs.declared.entry.Reply.{Reply}
use Rattle.session_ops.specs.declared.entry.Reply.TheVariants.{Started, Refused}
use Rattle.session_ops.specs.declared.entry.Entry.{Entry}
use Rattle.session_ops.specs.Numbers.{is_in}
use Rattle.session_ops.specs.Orderly.{IsOrderly}
use Rattle.session_ops.specs.State.{State, Job, state, reply, jobs, is_job, Legal, once_made}
use Rattle.session_core.specs.declared.job.PlainJob.{PlainJob}
use Rattle.session_core.specs.declared.held.Held.{Held}
use Rattle.session_core.specs.declared.sources.Edit.{Edit}
use Rattle.session_core.specs.Jobs.{IsAlong}
use Rattle.session_core.specs.History.{AreApart, HasRoom, entries_in}
use Rattle.session_core.specs.Logs.{AreLogs}
use Rattle.session_core.specs.Session.{entry_of, refused_by}

-- all that was asked, with the answers
abbrev pub history_of : Held → List Entry
history_of s = entries_in s.history

-- what its history makes of the notebook with which it opened
abbrev pub state_of : Parts → Held → State
state_of n0 s = state n0 (history_of s)

-- the history is legal, what is held is what the history makes of the opening notebook, and as many answers are owed as jobs are out, with room for all of them
pub record IsHeld (n0 : Parts) (s : Held) : Type 0 where
  pub legal : Legal n0 (history_of s)
  pub opening : IsNotebook n0
  pub book : s.book ≡ (state_of n0 s).book
  pub joined : s.joined.items ≡ (state_of n0 s).joined
  pub logs : AreLogs (state_of n0 s) s.logs.items
  pub work : s.work ≡ (state_of n0 s).work
  pub owed : s.history.owed ≡ length (jobs n0 (history_of s))
  pub apart : AreApart (jobs n0 (history_of s))
  pub room : HasRoom s.history.owed s.history

-- the call was answered as the state says, and the history has just that entry more
pub record HasAnswered (n0 : Parts) (by : ℕ) (call : Call) (old new : Held) (answer : Reply) : Type 0 where
  pub right : answer ≡ reply (state_of n0 old) call
  pub history : history_of new ≡ history_of old ++ entry_of by call answer ∷ []
  pub session : IsHeld n0 new

-- whatever was appended, the state is as it was
abbrev pub LeavesState : Parts → Held → Held → Type 0
LeavesState n0 old new = state_of n0 new ≡ state_of n0 old

-- nothing was appended, and what is held stands for the history as before
pub record IsAsBefore (n0 : Parts) (old new : Held) : Type 0 where
  pub history : history_of new ≡ history_of old
  pub session : IsHeld n0 new

-- the job was started under this number and isn't answered yet: its source and its bindings are those along the path that was read at its start
pub record IsHandedOut (n0 : Parts) (s : Held) (by : ℕ) (job : PlainJob) : Type 0 where
  pub out : Job
  pub is_out : find (is_job job.eval) (jobs n0 (history_of s)) ≡ Some out
  pub number : out.by ≡ by
  pub along : IsAlong out.path job

-- an evaluation was started in the lane, and its job handed out: its source, and the bindings over which it is to be evaluated
pub record HasStarted (n0 : Parts) (by : ℕ) (lane : Lane) (old new : Held) (job : PlainJob) : Type 0 where
  pub may : may_start (state_of n0 old).book (state_of n0 old).work lane ≡ Some job.cell
  pub answered : HasAnswered n0 by (Start lane) old new (Started job.eval job.cell)
  pub handed : IsHandedOut n0 new by job

-- the same, or no cell of the lane may start, and nothing was appended
abbrev pub HasTriedStart : Parts → ℕ → Lane → Held → Held → Option PlainJob → Type 0
HasTriedStart n0 by lane old new None = (may_start (state_of n0 old).book (state_of n0 old).work lane ≡ None) × IsAsBefore n0 old new
HasTriedStart n0 by lane old new (Some job) = HasStarted n0 by lane old new job

-- the operation that a client's edit is
abbrev pub delta_of : Edit → Op
delta_of edit = Delta edit.cell edit.base edit.delta

-- whatever the notebook with which it opened: the call is answered as the state says, and one entry more is appended
abbrev pub Answers : {E : Type 0} → ℕ → Call → Held → Held → Result Reply E → Type 0
Answers by call old new result = (n0 : Parts) → IsHeld n0 old → IfOk result (HasAnswered n0 by call old new)

-- the same, where the state's reply refuses for this cause
abbrev pub AnswersRefused : {E : Type 0} → ℕ → Call → Refusal → Held → Held → Result Reply E → Type 0
AnswersRefused by call why old new result = (n0 : Parts) → IsHeld n0 old → reply (state_of n0 old) call ≡ Refused why → IfOk result (HasAnswered n0 by call old new)

-- the same, where the state's reply doesn't refuse
abbrev pub AnswersAccepted : {E : Type 0} → ℕ → Call → Held → Held → Result Reply E → Type 0
AnswersAccepted by call old new result = (n0 : Parts) → IsHeld n0 old → refused_by (reply (state_of n0 old) call) ≡ None → IfOk result (HasAnswered n0 by call old new)

-- the same, where this client has joined
abbrev pub AnswersMember : {E : Type 0} → ℕ → ℕ → Op → Held → Held → Result Reply E → Type 0
AnswersMember by client op old new result = (n0 : Parts) → IsHeld n0 old → is_in client old.joined.items ≡ true → IfOk result (HasAnswered n0 by (Client client op) old new)

-- after want of memory nothing was appended
abbrev pub KeepsAll : {A E : Type 0} → Held → Held → Result A E → Type 0
KeepsAll old new result = (n0 : Parts) → IsHeld n0 old → OnErr result (IsAsBefore n0 old new)

-- the same, where this client has joined
abbrev pub KeepsAllMember : {A E : Type 0} → ℕ → Held → Held → Result A E → Type 0
KeepsAllMember client old new result = (n0 : Parts) → IsHeld n0 old → is_in client old.joined.items ≡ true → OnErr result (IsAsBefore n0 old new)

-- what is held is what the state says, whatever the history
pub record Holds (s : State) (x : Held) : Type 0 where
  pub book : x.book ≡ s.book
  pub joined : x.joined.items ≡ s.joined
  pub logs : AreLogs s x.logs.items
  pub work : x.work ≡ s.work

-- the change was made, or refused for this cause and nothing was changed
abbrev pub HasMade : State → Change → Held → Changed → Type 0
HasMade s asked new made = (change s.book asked ≡ Makes new.book made) × Holds (once_made s (Makes new.book made)) new

abbrev pub HasNotMade : State → Change → Held → NoteError → Type 0
HasNotMade s asked new why = Refuses s.book asked why × Holds s new

-- a change that may be asked is made, or refused and nothing was changed
abbrev pub TriesChange : Change → Held → Held → Result Changed NoteError → Type 0
TriesChange asked old new result = (s : State) → Holds s old → IsOrderly s → MatchResult result (HasMade s asked new) (HasNotMade s asked new)
