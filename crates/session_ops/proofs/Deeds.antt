-- What an entry did to the notebook: it can be done there, and gives the notebook after the entry.
use Rattle.std.proofs.Common.{◌≡◌, ℕ, ◌+◌, true, false, if◌then◌else◌, List, drop, Option, Some, None, refl, sym, ap, subst, ◌∙◌}
use Rattle.std.specs.Prelude.{nat_lt}
use Rattle.delta.specs.declared.Step.{Step}
use Rattle.delta.specs.Moves.{FitsText, text_after, over}
use Rattle.delta_laws.specs.Misfits.{Misfit, Past, Splits, misfit}
use Rattle.delta_laws.proofs.Laws.{delta_laws}
use Rattle.notebook.specs.declared.parts.Cell.{Cell}
use Rattle.notebook.specs.declared.change.Change.{Change}
use Rattle.notebook.specs.declared.parts.Parts.{Parts}
use Rattle.notebook.specs.Book.{cells, found, resourced, with_source}
use Rattle.notebook.specs.Rules.{IsNotebook}
use Rattle.notebook.specs.Change.{Attempt, Makes, Fails, change}
use Rattle.session_ops.specs.declared.entry.Op.{Op}
use Rattle.session_ops.specs.declared.entry.Op.TheVariants.{Join, Leave, Delta, Report, Queue, Cancel}
use Rattle.session_ops.specs.declared.entry.Call.{Call}
use Rattle.session_ops.specs.declared.entry.Call.TheVariants.{Client, Start, Respond}
use Rattle.session_ops.specs.declared.entry.Refusal.{Refusal}
use Rattle.session_ops.specs.declared.entry.Refusal.TheVariants.{NotJoined, TooNew, TooOld}
use Rattle.session_ops.specs.declared.entry.Reply.{Reply}
use Rattle.session_ops.specs.declared.entry.Reply.TheVariants.{Applied, Refused, Started, Stored}
use Rattle.session_ops.specs.declared.entry.Entry.{Entry}
use Rattle.session_ops.specs.Numbers.{is_in}
use Rattle.session_ops.specs.Structure.{change_of}
use Rattle.session_ops.specs.Deeds.{CellEdit, Deed, Nothing, Edits, Changes, CanBeDone, FitsCell, IsMade, book_if, changes_if, deed, moved_source, noted}
use Rattle.session_ops.specs.State.{State, taken_by, revision, least, reply, joined_reply, stranger_reply, delta_reply, judged_by, change_reply, attempt_reply, refusal_of_note, once_made, once_done, after_op, after_call, after}
use Rattle.session_ops.proofs.Live.{live-apart}
use Rattle.session_ops.proofs.Sources.{ChangesOne, with-one}

-- a delta that was applied fitted the cell's source, and its revision is the next one
pub record IsTaken (s : State) (j rev : ℕ) (x : List Step) : Type 0 where
  pub own : Cell
  pub there : found j (cells s.book) ≡ Some own
  pub fits : FitsText x own.source
  pub next : rev ≡ revision s j + 1

judged-taken : (s : State) (j rev : ℕ) (x y : List Step) (c : Cell) (why : Option Misfit) → found j (cells s.book) ≡ Some c → misfit y c.source ≡ why → judged_by (revision s j) y why ≡ Applied rev x → IsTaken s j rev x
judged-taken s j rev x y c None there fits e =
    let same : y ≡ x = cc e in
    let next : revision s j + 1 ≡ rev = cc e in
    record { own = c; there = there; fits = delta_laws.fits x c.source (subst (λ d. misfit d c.source ≡ None) same fits); next = sym next }
judged-taken s j rev x y c (Some (Past len)) there fits e = absurd (cc e)
judged-taken s j rev x y c (Some (Splits at)) there fits e = absurd (cc e)

old-taken : (s : State) (j base rev : ℕ) (d x : List Step) (c : Cell) → found j (cells s.book) ≡ Some c → (if nat_lt base (least s j) then Refused (TooOld (least s j)) else (let y : List Step = over d (drop base (taken_by j s.taken)) in judged_by (revision s j) y (misfit y c.source))) ≡ Applied rev x → IsTaken s j rev x
old-taken s j base rev d x c there e =
    let y : List Step = over d (drop base (taken_by j s.taken)) in
    elim (nat_lt base (least s j))
    as (λ b. (if b then Refused (TooOld (least s j)) else judged_by (revision s j) y (misfit y c.source)) ≡ Applied rev x → IsTaken s j rev x)
    [ true ↦ λ k. absurd (cc k) | false ↦ λ k. judged-taken s j rev x y c (misfit y c.source) there refl k ]
    e

cell-taken : (s : State) (j base rev : ℕ) (d x : List Step) (o : Option Cell) → found j (cells s.book) ≡ o → delta_reply s j base d o ≡ Applied rev x → IsTaken s j rev x
cell-taken s j base rev d x None there e = absurd (cc e)
cell-taken s j base rev d x (Some c) there e =
    elim (nat_lt (revision s j) base)
    as (λ b. (if b then Refused (TooNew (revision s j)) else (if nat_lt base (least s j) then Refused (TooOld (least s j)) else (let y : List Step = over d (drop base (taken_by j s.taken)) in judged_by (revision s j) y (misfit y c.source)))) ≡ Applied rev x → IsTaken s j rev x)
    [ true ↦ λ k. absurd (cc k) | false ↦ λ k. old-taken s j base rev d x c there k ]
    e

pub applied-taken : (s : State) (n j base rev : ℕ) (d x : List Step) → reply s (Client n (Delta j base d)) ≡ Applied rev x → IsTaken s j rev x
applied-taken s n j base rev d x e =
    elim (is_in n s.joined)
    as (λ b. (if b then delta_reply s j base d (found j (cells s.book)) else Refused NotJoined) ≡ Applied rev x → IsTaken s j rev x)
    [ true ↦ λ k. cell-taken s j base rev d x (found j (cells s.book)) refl k | false ↦ λ k. absurd (cc k) ]
    e

-- an edit that an entry made was taken
quiet-takes : (s : State) (rev : ℕ) (e : CellEdit) (o : Option Change) → changes_if o ≡ Edits e → IsTaken s e.cell e.rev e.delta
quiet-takes s rev e None h = absurd (cc h)
quiet-takes s rev e (Some asked) h = absurd (cc h)

taken-as : (s : State) (n j base rev : ℕ) (d x : List Step) (e : CellEdit) → record { client = n; cell = j; rev = rev; delta = x } ≡ e → IsTaken s j rev x → IsTaken s e.cell e.rev e.delta
taken-as s n j base rev d x e same h = subst (λ (f : CellEdit). IsTaken s f.cell f.rev f.delta) same h

pub edit-taken : (s : State) (call : Call) (answer : Reply) (e : CellEdit) → deed call answer ≡ Edits e → answer ≡ reply s call → IsTaken s e.cell e.rev e.delta
edit-taken s (Client n op) (Refused why) e h right = absurd (cc h)
edit-taken s (Client n (Delta cell base d)) (Applied rev x) e h right =
    let same : record { client = n; cell = cell; rev = rev; delta = x } ≡ e = cc h in
    taken-as s n cell base rev d x e same (applied-taken s n cell base rev d x (sym right))
edit-taken s (Client n op) answer e h right = quiet-takes s 0 e (change_of op) h
edit-taken s (Start lane) answer e h right = absurd (cc h)
edit-taken s (Respond eval shown) answer e h right = absurd (cc h)

-- a change that an entry made is made of the notebook before it
joined-change : (s : State) (op : Op) (asked : Change) → change_of op ≡ Some asked → joined_reply s op ≡ attempt_reply (change s.book asked)
joined-change s Join asked e = absurd (cc e)
joined-change s (Delta cell base d) asked e = absurd (cc e)
joined-change s (Report cell rev) asked e = absurd (cc e)
joined-change s (Queue cell) asked e = absurd (cc e)
joined-change s (Cancel cell) asked e = absurd (cc e)
joined-change s op asked e = ap (change_reply s) e

stranger-change : (op : Op) (asked : Change) → change_of op ≡ Some asked → stranger_reply op ≡ Refused NotJoined
stranger-change Join asked e = absurd (cc e)
stranger-change op asked e = refl

asked-if : (o : Option Change) (asked : Change) → changes_if o ≡ Changes asked → o ≡ Some asked
asked-if None asked e = absurd (cc e)
asked-if (Some other) asked e = let same : other ≡ asked = cc e in ap (λ c. Some c) same

asked-of : (n : ℕ) (op : Op) (answer : Reply) (asked : Change) → deed (Client n op) answer ≡ Changes asked → change_of op ≡ Some asked
asked-of n op (Refused why) asked e = absurd (cc e)
asked-of n (Delta cell base d) (Applied rev x) asked e = absurd (cc e)
asked-of n op answer asked e = asked-if (change_of op) asked e

refused-none : (n : ℕ) (op : Op) (answer : Reply) (why : Refusal) (asked : Change) → answer ≡ Refused why → deed (Client n op) answer ≡ Changes asked → ⊥
refused-none n op answer why asked same e = let both : Nothing ≡ Changes asked = sym (ap (deed (Client n op)) same) ∙ e in absurd (cc both)

made-attempt : (s : State) (n : ℕ) (op : Op) (answer : Reply) (asked : Change) (a : Attempt) → change s.book asked ≡ a → answer ≡ attempt_reply a → deed (Client n op) answer ≡ Changes asked → IsMade s.book asked
made-attempt s n op answer asked (Makes book made) makes right e = record { book = book; made = made; makes = makes }
made-attempt s n op answer asked (Fails why) makes right e = absurd (refused-none n op answer (refusal_of_note why) asked right e)

made-op : (s : State) (n : ℕ) (op : Op) (answer : Reply) (asked : Change) → deed (Client n op) answer ≡ Changes asked → answer ≡ reply s (Client n op) → IsMade s.book asked
made-op s n op answer asked e right =
    let wants : change_of op ≡ Some asked = asked-of n op answer asked e in
    elim (is_in n s.joined)
    as (λ b. answer ≡ (if b then joined_reply s op else stranger_reply op) → IsMade s.book asked) [
      | true ↦ λ r. made-attempt s n op answer asked (change s.book asked) refl (r ∙ joined-change s op asked wants) e
      | false ↦ λ r. absurd (refused-none n op answer NotJoined asked (r ∙ stranger-change op asked wants) e)
    ]
    right

pub change-made : (s : State) (call : Call) (answer : Reply) (asked : Change) → deed call answer ≡ Changes asked → answer ≡ reply s call → IsMade s.book asked
change-made s (Client n op) answer asked e right = made-op s n op answer asked e right
change-made s (Start lane) answer asked e right = absurd (cc e)
change-made s (Respond eval shown) answer asked e right = absurd (cc e)

-- what the next entry did can be done to the notebook before it
can-be : (s : State) (call : Call) (answer : Reply) (did : Deed) → deed call answer ≡ did → answer ≡ reply s call → CanBeDone did s.book
can-be s call answer Nothing e right = tt
can-be s call answer (Edits edit) e right = let t : IsTaken s edit.cell edit.rev edit.delta = edit-taken s call answer edit e right in record { own = t.own; there = t.there; fits = t.fits }
can-be s call answer (Changes asked) e right = change-made s call answer asked e right

pub can-be-done : (s : State) (call : Call) (answer : Reply) → answer ≡ reply s call → CanBeDone (deed call answer) s.book
can-be-done s call answer right = can-be s call answer (deed call answer) refl right

-- the state after an entry is what it did makes of the state, but for what clients and evaluators hold
pub record IsDoneBy (did : Deed) (s t : State) : Type 0 where
  pub book : t.book ≡ (once_done s did).book
  pub taken : t.taken ≡ (once_done s did).taken

pub done-by : (s : State) (call : Call) (answer : Reply) → IsDoneBy (deed call answer) s (after_call s call answer)
done-by s (Client n op) (Refused why) = record { book = refl; taken = refl }
done-by s (Client n Join) answer = record { book = refl; taken = refl }
done-by s (Client n Leave) answer = record { book = refl; taken = refl }
done-by s (Client n (Report cell rev)) answer = record { book = refl; taken = refl }
done-by s (Client n (Queue cell)) answer = record { book = refl; taken = refl }
done-by s (Client n (Cancel cell)) answer = record { book = refl; taken = refl }
done-by s (Client n op) answer = record { book = refl; taken = refl }
done-by s (Start lane) (Started eval cell) = record { book = refl; taken = refl }
done-by s (Respond eval shown) (Stored e) = record { book = refl; taken = refl }
done-by s call answer = record { book = refl; taken = refl }

-- the notebook after what an entry did
made-noted : (s : State) (a : Attempt) → (once_made s a).book ≡ book_if s.book a
made-noted s (Makes n made) = refl
made-noted s (Fails why) = refl

done-noted : (s : State) (did : Deed) → (once_done s did).book ≡ noted did s.book
done-noted s Nothing = refl
done-noted s (Edits e) = refl
done-noted s (Changes asked) = made-noted s (change s.book asked)

pub call-noted : (s : State) (call : Call) (answer : Reply) → (after_call s call answer).book ≡ noted (deed call answer) s.book
call-noted s call answer = (done-by s call answer).book ∙ done-noted s (deed call answer)

pub entry-noted : (s : State) (e : Entry) → (after s e).book ≡ noted (deed e.call e.reply) s.book
entry-noted s e = call-noted s e.call e.reply

-- a delta done to a cell's source is the cell with the new text
moved-changes : (cell : ℕ) (x : List Step) → ChangesOne (moved_source cell x) cell (text_after x)
moved-changes cell x = record { one = λ c e. ap (λ b. if b then text_after x c.source else c.source) e; others = λ c e. ap (λ b. if b then text_after x c.source else c.source) e }

pub moved-one : (n : Parts) (cell : ℕ) (x : List Step) (own : Cell) → IsNotebook n → found cell (cells n) ≡ Some own → resourced (moved_source cell x) n ≡ with_source cell (text_after x own.source) n
moved-one n cell x own rules there = with-one (moved_source cell x) cell (text_after x) n own (moved-changes cell x) (live-apart n rules) there
