-- Those who have joined are not answered as strangers.
use Rattle.std.proofs.Common.{◌≡◌, ◌≢◌, ℕ, Bool, true, false, if◌then◌else◌, List, drop, Option, Some, None, refl, sym, ap, ◌∙◌}
use Rattle.std.specs.Prelude.{◌||◌, nat_lt}
use Rattle.delta.specs.declared.Step.{Step}
use Rattle.delta.specs.Moves.{over}
use Rattle.notebook.specs.declared.change.Change.{Change}
use Rattle.notebook.specs.declared.change.Changed.{Changed}
use Rattle.notebook.specs.declared.change.Changed.TheVariants.{Plain, NewCell as MakesCell, NewSection as MakesSection}
use Rattle.notebook.specs.declared.change.NoteError.{NoteError}
use Rattle.notebook.specs.declared.change.NoteError.TheVariants as note
use Rattle.notebook.specs.declared.parts.Cell.{Cell}
use Rattle.notebook.specs.declared.parts.Kind.{Kind}
use Rattle.notebook.specs.declared.parts.Kind.TheVariants.{Setup, Code, Markdown}
use Rattle.notebook.specs.Book.{cells, found}
use Rattle.notebook.specs.Change.{Attempt, Makes, Fails, change}
use Rattle.lanes.specs.Work.{failed_ancestor, is_queued, is_running}
use Rattle.session_ops.specs.declared.entry.Op.{Op}
use Rattle.session_ops.specs.declared.entry.Op.TheVariants.{Join, Delta, Report, Queue, Cancel}
use Rattle.session_ops.specs.declared.entry.Call.TheVariants.{Client as ByClient}
use Rattle.session_ops.specs.declared.entry.Refusal.{Refusal}
use Rattle.session_ops.specs.declared.entry.Refusal.TheVariants.{NotJoined, TooNew, TooOld}
use Rattle.session_ops.specs.declared.entry.Reply.{Reply}
use Rattle.session_ops.specs.declared.entry.Reply.TheVariants.{Accepted, Refused}
use Rattle.session_ops.specs.State.{State, Misfit, Past, Splits, state, reply, joined_reply, stranger_reply, delta_reply, report_reply, judged_by, queue_reply, queue_reply_by, cancel_reply, cancel_reply_by, code_reply, change_reply, attempt_reply, made_reply, refusal_of_note, revision, least, taken_by, misfit}
use Rattle.session_ops.specs.Structure.{change_of}
use Rattle.session_ops.specs.Numbers.{is_in}
use Rattle.world.specs.World.{World}
use Rattle.world.specs.Claims.{HasJoined, IsWhole, AreHeard}
use Rattle.world.proofs.Clients.{client-is}

abbrev is_stranger_why : Refusal → Bool
is_stranger_why NotJoined = true
is_stranger_why why = false

-- whether an answer is a stranger's
abbrev is_stranger : Reply → Bool
is_stranger (Refused why) = is_stranger_why why
is_stranger answer = false

judged-heard : (rev : ℕ) (x : List Step) (why : Option Misfit) → is_stranger (judged_by rev x why) ≡ false
judged-heard rev x None = refl
judged-heard rev x (Some (Past len)) = refl
judged-heard rev x (Some (Splits at)) = refl

old-heard : (s : State) (cell base : ℕ) (d : List Step) (c : Cell) → is_stranger (if nat_lt base (least s cell) then Refused (TooOld (least s cell)) else (let x : List Step = over d (drop base (taken_by cell s.taken)) in judged_by (revision s cell) x (misfit x c.source))) ≡ false
old-heard s cell base d c =
    let x : List Step = over d (drop base (taken_by cell s.taken)) in
    elim (nat_lt base (least s cell))
    as (λ b. is_stranger (if b then Refused (TooOld (least s cell)) else judged_by (revision s cell) x (misfit x c.source)) ≡ false)
    [ true ↦ refl | false ↦ judged-heard (revision s cell) x (misfit x c.source) ]

delta-heard : (s : State) (cell base : ℕ) (d : List Step) (o : Option Cell) → is_stranger (delta_reply s cell base d o) ≡ false
delta-heard s cell base d None = refl
delta-heard s cell base d (Some c) =
    elim (nat_lt (revision s cell) base)
    as (λ b. is_stranger (if b then Refused (TooNew (revision s cell)) else (if nat_lt base (least s cell) then Refused (TooOld (least s cell)) else (let x : List Step = over d (drop base (taken_by cell s.taken)) in judged_by (revision s cell) x (misfit x c.source)))) ≡ false)
    [ true ↦ refl | false ↦ old-heard s cell base d c ]

report-heard : (s : State) (cell rev : ℕ) (o : Option Cell) → is_stranger (report_reply s cell rev o) ≡ false
report-heard s cell rev None = refl
report-heard s cell rev (Some c) = elim (nat_lt (revision s cell) rev) as (λ b. is_stranger (if b then Refused (TooNew (revision s cell)) else Accepted) ≡ false) [ true ↦ refl | false ↦ refl ]

asked-heard : (o : Option ℕ) → is_stranger (queue_reply_by o) ≡ false
asked-heard None = refl
asked-heard (Some failed) = refl

code-heard : (kind : Kind) (answer : Reply) → is_stranger answer ≡ false → is_stranger (code_reply kind answer) ≡ false
code-heard Setup answer e = e
code-heard Code answer e = e
code-heard Markdown answer e = refl

queue-heard : (s : State) (cell : ℕ) (o : Option Cell) → is_stranger (queue_reply s cell o) ≡ false
queue-heard s cell None = refl
queue-heard s cell (Some c) = code-heard c.kind (queue_reply_by (failed_ancestor s.book s.work cell)) (asked-heard (failed_ancestor s.book s.work cell))

wanted-heard : (wanted : Bool) → is_stranger (cancel_reply_by wanted) ≡ false
wanted-heard true = refl
wanted-heard false = refl

cancel-heard : (s : State) (cell : ℕ) (o : Option Cell) → is_stranger (cancel_reply s cell o) ≡ false
cancel-heard s cell None = refl
cancel-heard s cell (Some c) = let wanted : Bool = is_queued s.work cell || is_running s.work cell in code-heard c.kind (cancel_reply_by wanted) (wanted-heard wanted)

made-heard : (made : Changed) → is_stranger (made_reply made) ≡ false
made-heard Plain = refl
made-heard (MakesCell cell) = refl
made-heard (MakesSection section) = refl

note-heard : (why : NoteError) → is_stranger_why (refusal_of_note why) ≡ false
note-heard note.NoCell = refl
note-heard note.NoSection = refl
note-heard (note.BadIndex len) = refl
note-heard note.BadParent = refl
note-heard note.HasBranches = refl
note-heard note.TooManyCells = refl
note-heard note.TooManySections = refl
note-heard note.OutOfMemory = refl

attempt-heard : (a : Attempt) → is_stranger (attempt_reply a) ≡ false
attempt-heard (Makes n made) = made-heard made
attempt-heard (Fails why) = note-heard why

change-heard : (s : State) (o : Option Change) → is_stranger (change_reply s o) ≡ false
change-heard s None = refl
change-heard s (Some c) = attempt-heard (change s.book c)

joined-heard : (s : State) (op : Op) → is_stranger (joined_reply s op) ≡ false
joined-heard s Join = refl
joined-heard s (Delta cell base d) = delta-heard s cell base d (found cell (cells s.book))
joined-heard s (Report cell rev) = report-heard s cell rev (found cell (cells s.book))
joined-heard s (Queue cell) = queue-heard s cell (found cell (cells s.book))
joined-heard s (Cancel cell) = cancel-heard s cell (found cell (cells s.book))
joined-heard s op = change-heard s (change_of op)

-- one who has joined is heard
pub member-heard : (s : State) (n : ℕ) (op : Op) → is_in n s.joined ≡ true → reply s (ByClient n op) ≢ Refused NotJoined
member-heard s n op e same =
    let heard : is_stranger (reply s (ByClient n op)) ≡ false = ap (λ b. is_stranger (if b then joined_reply s op else stranger_reply op)) e ∙ joined-heard s op in
    let wrong : true ≡ false = sym (ap is_stranger same) ∙ heard in
    cc wrong

pub whole-heard : (w : World) → IsWhole w → AreHeard w
whole-heard w whole n c op e = member-heard (state w.opening w.history) c.number op (client-is (HasJoined w.opening w.history) n w.clients c whole.joined e).0
