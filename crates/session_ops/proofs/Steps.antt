-- What each call keeps, every state of a legal history has.
use Rattle.std.proofs.Common.{◌≡◌, ℕ, ◌+◌, ◌≤◌, Bool, true, false, if◌then◌else◌, List, [], ◌∷◌, ◌++◌, Option, Some, None, refl, sym, ap, subst, ◌∙◌, arith}
use Rattle.std.specs.Prelude.{◌||◌, nat_lt, drop}
use Rattle.std.proofs.lemmas.Bool.Decides.{nat_tests}
use Rattle.delta.specs.declared.Step.{Step}
use Rattle.delta.specs.Moves.{over}
use Rattle.notebook.specs.declared.parts.Cell.{Cell}
use Rattle.notebook.specs.declared.parts.Parts.{Parts}
use Rattle.notebook.specs.declared.parts.Kind.{Kind}
use Rattle.notebook.specs.declared.parts.Kind.TheVariants.{Setup, Code, Markdown}
use Rattle.notebook.specs.declared.states.Lane.{Lane}
use Rattle.notebook.specs.declared.change.Change.{Change}
use Rattle.notebook.specs.declared.change.Change.TheVariants as note
use Rattle.notebook.specs.declared.change.CellKind.{CellKind}
use Rattle.notebook.specs.declared.change.Changed.{Changed}
use Rattle.notebook.specs.declared.change.Changed.TheVariants.{Plain, NewCell as MakesCell, NewSection as MakesSection}
use Rattle.notebook.specs.Change.{Attempt, Makes, Fails, change}
use Rattle.notebook.specs.Book.{cells, found, resourced}
use Rattle.ex_model.specs.declared.ran.Shown.{Shown}
use Rattle.lanes.specs.declared.work.Running.{Running}
use Rattle.lanes.specs.Work.{is_queued, is_running, failed_ancestor, may_start}
use Rattle.lanes.specs.Changes.{asked, begun, running_eval, stored, cancelled, swept}
use Rattle.session_ops.specs.declared.entry.Op.{Op}
use Rattle.session_ops.specs.declared.entry.Op.TheVariants.{Join, Leave, SetName, InsertSection, SetSectionName, DeleteSection, MoveSection, SetParent, InsertCell, DeleteCell, RestoreCell, MoveCell, Delta, Report, Queue, Cancel}
use Rattle.session_ops.specs.declared.entry.Call.{Call}
use Rattle.session_ops.specs.declared.entry.Call.TheVariants.{Client, Start, Respond}
use Rattle.session_ops.specs.declared.entry.Reply.TheVariants.{Accepted, NewCell, NewSection, Refused}
use Rattle.session_ops.specs.declared.entry.Refusal.TheVariants.{TooNew, TooOld}
use Rattle.session_ops.specs.declared.entry.Entry.{Entry}
use Rattle.session_ops.specs.Numbers.{is_in}
use Rattle.session_ops.specs.Orderly.{IsCodeKind}
use Rattle.session_ops.specs.Structure.{change_of}
use Rattle.session_ops.specs.Deeds.{Changes, moved_source}
use Rattle.session_ops.specs.State.{State, Job, Misfit, revision, least, taken_by, knows_all, once_left, once_made, once_done, after_op, after_call, after, reply, joined_reply, stranger_reply, delta_reply, judged_by, misfit, report_reply, code_reply, queue_reply, queue_reply_by, cancel_reply, cancel_reply_by, change_reply, start_reply, respond_reply, attempt_reply, opening, state, state_from, jobs_after, HasReplies, Legal}

-- the state after each kind of call that isn't refused
abbrev pub once_joined : State → ℕ → State
once_joined s n = record s { joined = s.joined ++ n ∷ []; known = s.known ++ knows_all s n (cells s.book) }

abbrev pub once_applied : State → ℕ → ℕ → ℕ → List Step → State
once_applied s n cell rev x = record s { book = resourced (moved_source cell x) s.book; taken = s.taken ++ record { cell = cell; delta = x } ∷ []; known = s.known ++ record { client = n; cell = cell; rev = rev } ∷ [] }

abbrev pub once_reported : State → ℕ → ℕ → ℕ → State
once_reported s n cell rev = record s { known = s.known ++ record { client = n; cell = cell; rev = rev } ∷ [] }

abbrev pub once_asked : State → ℕ → State
once_asked s cell = record s { work = asked cell s.work }

abbrev pub once_cancelled : State → ℕ → State
once_cancelled s cell = record s { work = cancelled cell s.work }

abbrev pub once_begun : State → Lane → ℕ → State
once_begun s lane cell = record s { work = begun s.book lane (s.work.started + 1) cell s.work }

abbrev pub once_stored : State → Shown → Running → State
once_stored s shown r = record s { work = stored shown s.work (Some r) }

abbrev pub once_swept : State → State
once_swept s = record s { work = swept s.book s.work }

-- what every call of a client that isn't refused keeps
pub record KeepsOps (P : State → Type 0) : Type 0 where
  pub join : (s : State) (n : ℕ) → P s → is_in n s.joined ≡ false → P (once_joined s n)
  pub leave : (s : State) (n : ℕ) → P s → P (once_left n s)
  pub made : (s : State) (asked : Change) (n' : Parts) (what : Changed) → P s → change s.book asked ≡ Makes n' what → P (once_made s (Makes n' what))
  pub applied : (s : State) (n cell base : ℕ) (d x : List Step) (c : Cell) → P s → found cell (cells s.book) ≡ Some c → x ≡ over d (drop base (taken_by cell s.taken)) → misfit x c.source ≡ None → P (once_applied s n cell (revision s cell + 1) x)
  pub reported : (s : State) (n cell rev : ℕ) (c : Cell) → P s → found cell (cells s.book) ≡ Some c → rev ≤ revision s cell → P (once_reported s n cell rev)
  pub queued : (s : State) (cell : ℕ) (c : Cell) → P s → found cell (cells s.book) ≡ Some c → IsCodeKind c.kind → failed_ancestor s.book s.work cell ≡ None → P (once_asked s cell)
  pub cancel : (s : State) (cell : ℕ) (c : Cell) → P s → found cell (cells s.book) ≡ Some c → IsCodeKind c.kind → P (once_cancelled s cell)

judged-keeps : (P : State → Type 0) → KeepsOps P → (s : State) (n cell base : ℕ) (d x : List Step) (c : Cell) (o : Option Misfit) → P s → found cell (cells s.book) ≡ Some c → x ≡ over d (drop base (taken_by cell s.taken)) → misfit x c.source ≡ o → P (after_op s n (Delta cell base d) (judged_by (revision s cell) x o))
judged-keeps P k s n cell base d x c None h f is e = k.applied s n cell base d x c h f is e
judged-keeps P k s n cell base d x c (Some why) h f is e = h

delta-keeps : (P : State → Type 0) → KeepsOps P → (s : State) (n cell base : ℕ) (d : List Step) (o : Option Cell) → P s → found cell (cells s.book) ≡ o → P (after_op s n (Delta cell base d) (delta_reply s cell base d o))
delta-keeps P k s n cell base d None h f = h
delta-keeps P k s n cell base d (Some c) h f =
    let x : List Step = over d (drop base (taken_by cell s.taken)) in
    elim (nat_lt (revision s cell) base)
    as (λ b. P (after_op s n (Delta cell base d) (if b then Refused (TooNew (revision s cell)) else (if nat_lt base (least s cell) then Refused (TooOld (least s cell)) else judged_by (revision s cell) x (misfit x c.source))))) [
      | true ↦ h
      | false ↦
          elim (nat_lt base (least s cell))
          as (λ b. P (after_op s n (Delta cell base d) (if b then Refused (TooOld (least s cell)) else judged_by (revision s cell) x (misfit x c.source)))) [
            | true ↦ h
            | false ↦ judged-keeps P k s n cell base d x c (misfit x c.source) h f refl refl
          ]
    ]

report-keeps : (P : State → Type 0) → KeepsOps P → (s : State) (n cell rev : ℕ) (o : Option Cell) → P s → found cell (cells s.book) ≡ o → P (after_op s n (Report cell rev) (report_reply s cell rev o))
report-keeps P k s n cell rev None h f = h
report-keeps P k s n cell rev (Some c) h f =
    elim (nat_lt (revision s cell) rev)
    as (λ b. nat_lt (revision s cell) rev ≡ b → P (after_op s n (Report cell rev) (if b then Refused (TooNew (revision s cell)) else Accepted)))
    [ true ↦ λ t. h | false ↦ λ t. k.reported s n cell rev c h f (grind (arith, nat_tests, t)) ]
    refl

queue-by : (P : State → Type 0) → KeepsOps P → (s : State) (n cell : ℕ) (c : Cell) (kind : Kind) (o : Option ℕ) → P s → found cell (cells s.book) ≡ Some c → c.kind ≡ kind → failed_ancestor s.book s.work cell ≡ o → P (after_op s n (Queue cell) (code_reply kind (queue_reply_by o)))
queue-by P k s n cell c Markdown o h f is e = h
queue-by P k s n cell c Setup None h f is e = k.queued s cell c h f (subst IsCodeKind (sym is) tt) e
queue-by P k s n cell c Setup (Some failed) h f is e = h
queue-by P k s n cell c Code None h f is e = k.queued s cell c h f (subst IsCodeKind (sym is) tt) e
queue-by P k s n cell c Code (Some failed) h f is e = h

queue-keeps : (P : State → Type 0) → KeepsOps P → (s : State) (n cell : ℕ) (o : Option Cell) → P s → found cell (cells s.book) ≡ o → P (after_op s n (Queue cell) (queue_reply s cell o))
queue-keeps P k s n cell None h f = h
queue-keeps P k s n cell (Some c) h f = queue-by P k s n cell c c.kind (failed_ancestor s.book s.work cell) h f refl refl

cancel-by : (P : State → Type 0) → KeepsOps P → (s : State) (n cell : ℕ) (c : Cell) (kind : Kind) (wanted : Bool) → P s → found cell (cells s.book) ≡ Some c → c.kind ≡ kind → P (after_op s n (Cancel cell) (code_reply kind (cancel_reply_by wanted)))
cancel-by P k s n cell c Markdown wanted h f is = h
cancel-by P k s n cell c Setup true h f is = k.cancel s cell c h f (subst IsCodeKind (sym is) tt)
cancel-by P k s n cell c Setup false h f is = h
cancel-by P k s n cell c Code true h f is = k.cancel s cell c h f (subst IsCodeKind (sym is) tt)
cancel-by P k s n cell c Code false h f is = h

cancel-keeps : (P : State → Type 0) → KeepsOps P → (s : State) (n cell : ℕ) (o : Option Cell) → P s → found cell (cells s.book) ≡ o → P (after_op s n (Cancel cell) (cancel_reply s cell o))
cancel-keeps P k s n cell None h f = h
cancel-keeps P k s n cell (Some c) h f = cancel-by P k s n cell c c.kind (is_queued s.work cell || is_running s.work cell) h f refl

-- an operation that changes the notebook's structure
pub record IsChange (op : Op) (asked : Change) : Type 0 where
  pub asks : change_of op ≡ Some asked
  pub reply : (s : State) → joined_reply s op ≡ change_reply s (Some asked)
  pub accepted : (s : State) (n : ℕ) → after_op s n op Accepted ≡ once_done s (Changes asked)
  pub cell : (s : State) (n c : ℕ) → after_op s n op (NewCell c) ≡ once_done s (Changes asked)
  pub section : (s : State) (n c : ℕ) → after_op s n op (NewSection c) ≡ once_done s (Changes asked)

-- what the change of the structure was answered with, it made
attempt-keeps : (P : State → Type 0) → KeepsOps P → (s : State) (n : ℕ) (op : Op) (asked : Change) (a : Attempt) → IsChange op asked → P s → change s.book asked ≡ a → P (after_op s n op (attempt_reply a))
attempt-keeps P k s n op asked (Fails why) is h e = h
attempt-keeps P k s n op asked (Makes n' Plain) is h e = subst P (sym (is.accepted s n ∙ ap (once_made s) e)) (k.made s asked n' Plain h e)
attempt-keeps P k s n op asked (Makes n' (MakesCell c)) is h e = subst P (sym (is.cell s n c ∙ ap (once_made s) e)) (k.made s asked n' (MakesCell c) h e)
attempt-keeps P k s n op asked (Makes n' (MakesSection c)) is h e = subst P (sym (is.section s n c ∙ ap (once_made s) e)) (k.made s asked n' (MakesSection c) h e)

-- each such operation is one
pub name-is : (name : List ℕ) → IsChange (SetName name) (note.SetName name)
name-is name = record { asks = refl; reply = λ s. refl; accepted = λ s n. refl; cell = λ s n c. refl; section = λ s n c. refl }

pub insert_section-is : (index : ℕ) (name : List ℕ) → IsChange (InsertSection index name) (note.InsertSection index name)
insert_section-is index name = record { asks = refl; reply = λ s. refl; accepted = λ s n. refl; cell = λ s n c. refl; section = λ s n c. refl }

pub section_name-is : (section : ℕ) (name : List ℕ) → IsChange (SetSectionName section name) (note.SetSectionName section name)
section_name-is section name = record { asks = refl; reply = λ s. refl; accepted = λ s n. refl; cell = λ s n c. refl; section = λ s n c. refl }

pub delete_section-is : (section : ℕ) → IsChange (DeleteSection section) (note.DeleteSection section)
delete_section-is section = record { asks = refl; reply = λ s. refl; accepted = λ s n. refl; cell = λ s n c. refl; section = λ s n c. refl }

pub move_section-is : (section index : ℕ) → IsChange (MoveSection section index) (note.MoveSection section index)
move_section-is section index = record { asks = refl; reply = λ s. refl; accepted = λ s n. refl; cell = λ s n c. refl; section = λ s n c. refl }

pub parent-is : (section : ℕ) (parent : Option ℕ) → IsChange (SetParent section parent) (note.SetParent section parent)
parent-is section parent = record { asks = refl; reply = λ s. refl; accepted = λ s n. refl; cell = λ s n c. refl; section = λ s n c. refl }

pub insert_cell-is : (section index : ℕ) (kind : CellKind) → IsChange (InsertCell section index kind) (note.InsertCell section index kind)
insert_cell-is section index kind = record { asks = refl; reply = λ s. refl; accepted = λ s n. refl; cell = λ s n c. refl; section = λ s n c. refl }

pub delete_cell-is : (cell : ℕ) → IsChange (DeleteCell cell) (note.DeleteCell cell)
delete_cell-is cell = record { asks = refl; reply = λ s. refl; accepted = λ s n. refl; cell = λ s n c. refl; section = λ s n c. refl }

pub restore_cell-is : (cell section index : ℕ) → IsChange (RestoreCell cell section index) (note.RestoreCell cell section index)
restore_cell-is cell section index = record { asks = refl; reply = λ s. refl; accepted = λ s n. refl; cell = λ s n c. refl; section = λ s n c. refl }

pub move_cell-is : (cell section index : ℕ) → IsChange (MoveCell cell section index) (note.MoveCell cell section index)
move_cell-is cell section index = record { asks = refl; reply = λ s. refl; accepted = λ s n. refl; cell = λ s n c. refl; section = λ s n c. refl }

change-keeps : (P : State → Type 0) → KeepsOps P → (s : State) (n : ℕ) (op : Op) (asked : Change) → IsChange op asked → P s → P (after_op s n op (change_reply s (Some asked)))
change-keeps P k s n op asked is h = attempt-keeps P k s n op asked (change s.book asked) is h refl

joined-keeps : (P : State → Type 0) → KeepsOps P → (s : State) (n : ℕ) (op : Op) → P s → P (after_op s n op (joined_reply s op))
joined-keeps P k s n Join h = h
joined-keeps P k s n Leave h = k.leave s n h
joined-keeps P k s n (SetName name) h = change-keeps P k s n (SetName name) (note.SetName name) (name-is name) h
joined-keeps P k s n (InsertSection index name) h = change-keeps P k s n (InsertSection index name) (note.InsertSection index name) (insert_section-is index name) h
joined-keeps P k s n (SetSectionName section name) h = change-keeps P k s n (SetSectionName section name) (note.SetSectionName section name) (section_name-is section name) h
joined-keeps P k s n (DeleteSection section) h = change-keeps P k s n (DeleteSection section) (note.DeleteSection section) (delete_section-is section) h
joined-keeps P k s n (MoveSection section index) h = change-keeps P k s n (MoveSection section index) (note.MoveSection section index) (move_section-is section index) h
joined-keeps P k s n (SetParent section parent) h = change-keeps P k s n (SetParent section parent) (note.SetParent section parent) (parent-is section parent) h
joined-keeps P k s n (InsertCell section index kind) h = change-keeps P k s n (InsertCell section index kind) (note.InsertCell section index kind) (insert_cell-is section index kind) h
joined-keeps P k s n (DeleteCell cell) h = change-keeps P k s n (DeleteCell cell) (note.DeleteCell cell) (delete_cell-is cell) h
joined-keeps P k s n (RestoreCell cell section index) h = change-keeps P k s n (RestoreCell cell section index) (note.RestoreCell cell section index) (restore_cell-is cell section index) h
joined-keeps P k s n (MoveCell cell section index) h = change-keeps P k s n (MoveCell cell section index) (note.MoveCell cell section index) (move_cell-is cell section index) h
joined-keeps P k s n (Delta cell base d) h = delta-keeps P k s n cell base d (found cell (cells s.book)) h refl
joined-keeps P k s n (Report cell rev) h = report-keeps P k s n cell rev (found cell (cells s.book)) h refl
joined-keeps P k s n (Queue cell) h = queue-keeps P k s n cell (found cell (cells s.book)) h refl
joined-keeps P k s n (Cancel cell) h = cancel-keeps P k s n cell (found cell (cells s.book)) h refl

stranger-keeps : (P : State → Type 0) → KeepsOps P → (s : State) (n : ℕ) (op : Op) → is_in n s.joined ≡ false → P s → P (after_op s n op (stranger_reply op))
stranger-keeps P k s n Join none h = k.join s n h none
stranger-keeps P k s n Leave none h = h
stranger-keeps P k s n (SetName name) none h = h
stranger-keeps P k s n (InsertSection index name) none h = h
stranger-keeps P k s n (SetSectionName section name) none h = h
stranger-keeps P k s n (DeleteSection section) none h = h
stranger-keeps P k s n (MoveSection section index) none h = h
stranger-keeps P k s n (SetParent section parent) none h = h
stranger-keeps P k s n (InsertCell section index kind) none h = h
stranger-keeps P k s n (DeleteCell cell) none h = h
stranger-keeps P k s n (RestoreCell cell section index) none h = h
stranger-keeps P k s n (MoveCell cell section index) none h = h
stranger-keeps P k s n (Delta cell base d) none h = h
stranger-keeps P k s n (Report cell rev) none h = h
stranger-keeps P k s n (Queue cell) none h = h
stranger-keeps P k s n (Cancel cell) none h = h

pub op-keeps : (P : State → Type 0) → KeepsOps P → (s : State) (n : ℕ) (op : Op) → P s → P (after_op s n op (reply s (Client n op)))
op-keeps P k s n op h =
    elim (is_in n s.joined)
    as (λ b. is_in n s.joined ≡ b → P (after_op s n op (if b then joined_reply s op else stranger_reply op)))
    [ true ↦ λ t. joined-keeps P k s n op h | false ↦ λ t. stranger-keeps P k s n op t h ]
    refl

-- what every call keeps, and the sweep after it
pub record KeepsState (P : State → Type 0) : Type 0 where
  pub ops : KeepsOps P
  pub started : (s : State) (lane : Lane) (cell : ℕ) → P s → may_start s.book s.work lane ≡ Some cell → P (once_begun s lane cell)
  pub stored : (s : State) (eval : ℕ) (shown : Shown) (r : Running) → P s → running_eval s.work eval ≡ Some r → P (once_stored s shown r)
  pub swept : (s : State) → P s → P (once_swept s)

start-keeps : (P : State → Type 0) → KeepsState P → (s : State) (lane : Lane) (o : Option ℕ) → P s → may_start s.book s.work lane ≡ o → P (after_call s (Start lane) (start_reply s o))
start-keeps P k s lane None h e = h
start-keeps P k s lane (Some cell) h e = k.started s lane cell h e

respond-keeps : (P : State → Type 0) → KeepsState P → (s : State) (eval : ℕ) (shown : Shown) (o : Option Running) → P s → running_eval s.work eval ≡ o → P (after_call s (Respond eval shown) (respond_reply eval o))
respond-keeps P k s eval shown None h e = h
respond-keeps P k s eval shown (Some r) h e = subst (λ o. P (record s { work = stored shown s.work o })) (sym e) (k.stored s eval shown r h e)

pub call-keeps : (P : State → Type 0) → KeepsState P → (s : State) (call : Call) → P s → P (after_call s call (reply s call))
call-keeps P k s (Client n op) h = op-keeps P k.ops s n op h
call-keeps P k s (Start lane) h = start-keeps P k s lane (may_start s.book s.work lane) h refl
call-keeps P k s (Respond eval shown) h = respond-keeps P k s eval shown (running_eval s.work eval) h refl

pub entry-keeps : (P : State → Type 0) → KeepsState P → (s : State) (e : Entry) → e.reply ≡ reply s e.call → P s → P (after s e)
entry-keeps P k s e right h =
    let t : State = after_call s e.call e.reply in
    k.swept t (subst (λ a. P (after_call s e.call a)) (sym right) (call-keeps P k s e.call h))

from-keeps : (P : State → Type 0) → KeepsState P → (s : State) (js : List Job) (h : List Entry) → HasReplies s js h → P s → P (state_from s h)
from-keeps P k s js [] l p = p
from-keeps P k s js (e ∷ es) l p = from-keeps P k (after s e) (jobs_after s js e.by e.call e.reply) es l.1.1 (entry-keeps P k s e l.1.0 p)

-- every state of a legal history has what each call keeps, if the opening state has it
pub state-keeps : (P : State → Type 0) → KeepsState P → (n0 : Parts) (h : List Entry) → Legal n0 h → P (opening n0) → P (state n0 h)
state-keeps P k n0 h l p = from-keeps P k (opening n0) [] h l.replies p
