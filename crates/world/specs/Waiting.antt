-- What a client has in flight, and where its message is.
use Rattle.std.specs.Prelude.{◌≡◌, ◌≢◌, ◌⊎◌, ℕ, ◌+◌, ◌≤◌, ◌==◌, if◌then◌else◌, Bool, true, false, List, [], ◌∷◌, ◌++◌, length, drop, Option, Some, None}
use Rattle.std.specs.List.{AllByRecursion}
use Rattle.delta.specs.declared.Step.{Step}
use Rattle.delta.specs.Moves.{over}
use Rattle.notebook.specs.declared.parts.Cell.{Cell}
use Rattle.notebook.specs.declared.parts.Parts.{Parts}
use Rattle.notebook.specs.Book.{cells, found, IsLive}
use Rattle.session_ops.specs.declared.entry.Op.{Op}
use Rattle.session_ops.specs.declared.entry.Op.TheVariants.{Join, Leave, Delta, Report}
use Rattle.session_ops.specs.declared.entry.Call.TheVariants.{Client as ByClient}
use Rattle.session_ops.specs.declared.entry.Refusal.TheVariants.{NotJoined, NoCell}
use Rattle.session_ops.specs.declared.entry.Reply.{Reply}
use Rattle.session_ops.specs.declared.entry.Reply.TheVariants.{Accepted, Applied, Refused}
use Rattle.session_ops.specs.declared.entry.Entry.{Entry}
use Rattle.session_ops.specs.Numbers.{is_in}
use Rattle.session_ops.specs.State.{State, state, state_from, taken_by, revision, floor, reply}
use Rattle.client_sync.specs.Client.{Client, Pending, pending_of, client_of}
use Rattle.client_sync.specs.Fits.{FitsHere}
use Rattle.world.specs.World.{World}
use Rattle.world.specs.Applied.{applied_in, HasNoOwn, HasNotLeft}

-- what an outbox has for a cell: a delta with the revision on which it was made, or a report of a revision
pub data Message : Type 0 where
  Edits : ℕ → List Step → Message
  Reports : ℕ → Message

abbrev pub message_in : ℕ → Op → List Message
message_in k (Delta cell base d) = if cell == k then Edits base d ∷ [] else []
message_in k (Report cell rev) = if cell == k then Reports rev ∷ [] else []
message_in k op = []

-- the deltas and reports for a cell in an outbox, in order
abbrev pub messages_for : ℕ → List Op → List Message
messages_for k [] = []
messages_for k (op ∷ ops) = message_in k op ++ messages_for k ops

-- reports alone, of revisions up to this one
abbrev pub IsReportUpTo : ℕ → Message → Type 0
IsReportUpTo top (Edits base d) = ⊥
IsReportUpTo top (Reports rev) = rev ≤ top

abbrev pub AreReports : ℕ → List Message → Type 0
AreReports top ms = AllByRecursion (IsReportUpTo top) ms

-- what is in flight is what was posted, moved over the deltas applied after its base, up to that delivery
pub record IsPosted (s : State) (k base : ℕ) (delta flight : List Step) : Type 0 where
  pub early : base ≤ revision s k
  pub moved : flight ≡ over delta (drop base (taken_by k s.taken))

-- the message still stands in the outbox, the only delta for its cell; reports before it are of no revision above its base
pub record IsWaiting (s : State) (later : List Entry) (n k : ℕ) (ops : List Op) (flight : List Step) : Type 0 where
  pub base : ℕ
  pub delta : List Step
  pub before : List Message
  pub after : List Message
  pub only : messages_for k ops ≡ before ++ Edits base delta ∷ after
  pub reports_before : AreReports base before
  pub reports_after : AreReports (revision s k) after
  pub posted : IsPosted s k base delta flight
  pub known : floor n k (state_from s later).known ≤ base
  pub none : HasNoOwn n k later

-- the message was taken and its delta applied, which the client has not received yet
pub record IsReturning (s : State) (later : List Entry) (n k : ℕ) (ops : List Op) (flight : List Step) : Type 0 where
  pub base : ℕ
  pub delta : List Step
  pub gone : AreReports (revision s k) (messages_for k ops)
  pub posted : IsPosted s k base delta flight
  pub before : List Entry
  pub own : Entry
  pub rest : List Entry
  pub parts : later ≡ before ++ own ∷ rest
  pub call : own.call ≡ ByClient n (Delta k base delta)
  pub rev : ℕ
  pub answer : own.reply ≡ Applied rev (over flight (applied_in k before))
  pub none_before : HasNoOwn n k before
  pub none_after : HasNoOwn n k rest
  pub known : floor n k (state_from s later).known ≤ revision s k + length (applied_in k before) + 1

-- the message was taken after the cell was deleted, and refused; the client has not received the deletion yet
pub record IsLost (s : State) (later : List Entry) (n k : ℕ) (ops : List Op) (flight : List Step) : Type 0 where
  pub base : ℕ
  pub delta : List Step
  pub gone : AreReports (revision s k) (messages_for k ops)
  pub posted : IsPosted s k base delta flight
  pub before : List Entry
  pub own : Entry
  pub rest : List Entry
  pub parts : later ≡ before ++ own ∷ rest
  pub call : own.call ≡ ByClient n (Delta k base delta)
  pub answer : own.reply ≡ Refused NoCell
  pub late : found k (cells (state_from s before).book) ≡ None
  pub deleted : found k (cells (state_from s later).book) ≡ None
  pub none : HasNoOwn n k later

-- no delta of the client's for the cell is on its way
pub record IsQuiet (s : State) (later : List Entry) (n k : ℕ) (ops : List Op) : Type 0 where
  pub gone : AreReports (revision s k) (messages_for k ops)
  pub known : floor n k (state_from s later).known ≤ revision s k
  pub none : HasNoOwn n k later

-- of a cell that lives at the client
abbrev pub IsKeptLive : State → List Entry → ℕ → ℕ → List Op → Option Pending → Type 0
IsKeptLive s later n k ops None = IsQuiet s later n k ops
IsKeptLive s later n k ops (Some p) = FitsHere s k p × (IsWaiting s later n k ops p.flight ⊎ (IsReturning s later n k ops p.flight ⊎ IsLost s later n k ops p.flight))

-- of a cell that doesn't live at the client nothing is pending; of one that will have a number not given yet, nothing was ever said
pub record IsUntouched (s : State) (later : List Entry) (n k : ℕ) (ops : List Op) : Type 0 where
  pub gone : messages_for k ops ≡ []
  pub known : floor n k (state_from s later).known ≡ 0
  pub none : HasNoOwn n k later

pub record IsKeptDead (s : State) (later : List Entry) (n k : ℕ) (ops : List Op) (pending : Option Pending) : Type 0 where
  pub nothing : pending ≡ None
  pub untouched : s.book.next_cell ≤ k → IsUntouched s later n k ops

abbrev pub IsKept : State → List Entry → ℕ → ℕ → List Op → Option Cell → Option Pending → Type 0
IsKept s later n k ops None pending = IsKeptDead s later n k ops pending
IsKept s later n k ops (Some c) pending = IsKeptLive s later n k ops pending

-- a cell lived after some front of the entries
pub record HasLived (n0 : Parts) (h : List Entry) (k : ℕ) : Type 0 where
  pub front : List Entry
  pub rest : List Entry
  pub parts : h ≡ front ++ rest
  pub lived : IsLive (state n0 front).book k

-- a joining or a leaving, which no outbox holds
abbrev pub is_passage : Op → Bool
is_passage Join = true
is_passage Leave = true
is_passage op = false

abbrev pub HasNoPassage : List Op → Type 0
HasNoPassage ops = AllByRecursion (λ op. is_passage op ≡ false) ops

-- how a client stands to the history, cell by cell: it has received a front with its own joining in it, and hasn't left since; it speaks of cells alone that lived at it
pub record IsHonest (n0 : Parts) (h : List Entry) (c : Client) : Type 0 where
  pub later : List Entry
  pub behind : h ≡ c.seen ++ later
  pub since : is_in c.number (state n0 c.seen).joined ≡ true
  pub stays : HasNotLeft c.number later
  pub kept : (k : ℕ) → IsKept (state n0 c.seen) later c.number k c.outbox (found k (cells (state n0 c.seen).book)) (pending_of k c.pending)
  pub lived : (k : ℕ) → messages_for k c.outbox ≢ [] → HasLived n0 c.seen k
  pub no_passage : HasNoPassage c.outbox

-- all clients stand as they should
abbrev pub AreHonest : World → Type 0
AreHonest w = AllByRecursion (IsHonest w.opening w.history) w.clients

-- a cell lived once and doesn't any more
abbrev pub WasDeleted : Parts → List Entry → ℕ → Type 0
WasDeleted n0 h k = HasLived n0 h k × (found k (cells (state n0 h).book) ≡ None)

-- what a client may be answered: a delta is applied, and a report accepted, but where the cell was deleted; nothing is answered as a stranger's
abbrev pub IsFairAnswer : Parts → List Entry → Op → Reply → Type 0
IsFairAnswer n0 h (Delta cell base d) answer = ((rev : ℕ) × ((x : List Step) × (answer ≡ Applied rev x))) ⊎ ((answer ≡ Refused NoCell) × WasDeleted n0 h cell)
IsFairAnswer n0 h (Report cell rev) answer = (answer ≡ Accepted) ⊎ ((answer ≡ Refused NoCell) × WasDeleted n0 h cell)
IsFairAnswer n0 h op answer = answer ≢ Refused NotJoined

-- the message at the front of each outbox is answered so
abbrev pub AreFair : World → Type 0
AreFair w = (n : ℕ) (c : Client) (op : Op) (ops : List Op) → client_of n w.clients ≡ Some c → c.outbox ≡ op ∷ ops → IsFairAnswer w.opening w.history op (reply (state w.opening w.history) (ByClient c.number op))
