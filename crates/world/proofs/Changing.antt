-- What calls make of a session's notebook, and of a client's pending edits.
use Rattle.std.proofs.Common.{◌≡◌, ℕ, ◌<◌, ◌≤◌, ◌==◌, Bool, true, false, if◌then◌else◌, List, [], ◌∷◌, ◌++◌, map, Option, Some, None, refl, sym, ap, subst, ◌∙◌, arith}
use Rattle.std.specs.Prelude.{is_some}
use Rattle.std.specs.List.{AllByRecursion}
use Rattle.std.proofs.lemmas.Bool.{eqb-true}
use Rattle.notebook.specs.declared.parts.Cell.{Cell}
use Rattle.notebook.specs.declared.parts.Parts.{Parts}
use Rattle.notebook.specs.declared.change.Change.{Change}
use Rattle.notebook.specs.declared.change.Change.TheVariants as note
use Rattle.notebook.specs.declared.change.Changed.{Changed}
use Rattle.notebook.specs.Book.{cells, section_cells, found}
use Rattle.notebook.specs.Rules.{IsNotebook, IsBelow, cell_number}
use Rattle.notebook.specs.Change.{Attempt, Makes, Fails, change, kind_of, new_cell, renumbered}
use Rattle.notebook.specs.Living.{first_or, gone_cells, made_cells, lives_on, restored}
use Rattle.notebook.proofs.Sources.{IsNotebook-resourced}
use Rattle.session_ops.specs.declared.entry.Op.{Op}
use Rattle.session_ops.specs.declared.entry.Op.TheVariants.{Join, Leave, Delta, Report, Queue, Cancel}
use Rattle.session_ops.specs.declared.entry.Call.{Call}
use Rattle.session_ops.specs.declared.entry.Call.TheVariants.{Client as ByClient, Start, Respond}
use Rattle.session_ops.specs.declared.entry.Refusal.TheVariants.{NotJoined}
use Rattle.session_ops.specs.declared.entry.Reply.{Reply}
use Rattle.session_ops.specs.declared.entry.Reply.TheVariants.{Applied, Started, Stored, Refused}
use Rattle.session_ops.specs.Deeds.{changes_if, deed, moved_source}
use Rattle.session_ops.specs.State.{State, reply, change_reply, attempt_reply, after_call, after_op, once_made, once_done}
use Rattle.session_ops.specs.Numbers.{is_in}
use Rattle.session_ops.specs.Structure.{change_of}
use Rattle.client_sync.specs.Client.{Client, Pending, pending_of, without, without_cells, with_deed}
use Rattle.notebook.proofs.Keeping.{change-keeps, change-counts}
use Rattle.notebook.proofs.Living.{change-found}
use Rattle.world.proofs.Pendings.{without-same, without-other}

-- a live cell's number is below the next one
below-in : (next k : ℕ) (cs : List Cell) (c : Cell) → AllByRecursion (IsBelow next) (map cell_number cs) → found k cs ≡ Some c → k < next
below-in next k [] c all e = absurd (cc e)
below-in next k (d ∷ cs) c all e =
    elim (d.id == k)
    as (λ b. (d.id == k) ≡ b → (if b then Some d else found k cs) ≡ Some c → k < next)
    [ true ↦ λ t h. subst (λ i. i < next) (eqb-true d.id k t) all.0 | false ↦ λ t h. below-in next k cs c all.1 h ]
    refl
    e

pub below-front : (next : ℕ) (xs ys : List Cell) → AllByRecursion (IsBelow next) (map cell_number (xs ++ ys)) → AllByRecursion (IsBelow next) (map cell_number xs)
below-front next [] ys all = tt
below-front next (x ∷ xs) ys all = (all.0, below-front next xs ys all.1)

pub live-below : (n : Parts) (k : ℕ) (c : Cell) → IsNotebook n → found k (cells n) ≡ Some c → k < n.next_cell
live-below n k c h e =
    let first : n.setup.id < n.next_cell = subst (λ i. i < n.next_cell) (sym h.setup_number) h.next_cell.0 in
    below-in n.next_cell k (cells n) c (first, below-front n.next_cell (section_cells n) n.bin h.next_cell.1) e

-- no live cell has the next number, or one above it
pub unborn : (n : Parts) (k : ℕ) (o : Option Cell) → IsNotebook n → n.next_cell ≤ k → found k (cells n) ≡ o → o ≡ None
unborn n k None h le e = refl
unborn n k (Some c) h le e = let lt : k < n.next_cell = live-below n k c h e in absurd (omega (arith, lt, le))

-- a cell that a change makes has the next number
one-number : (c d : Cell) (k : ℕ) → found k (c ∷ []) ≡ Some d → c.id ≡ k
one-number c d k e =
    elim (c.id == k)
    as (λ b. (c.id == k) ≡ b → (if b then Some c else None) ≡ Some d → c.id ≡ k)
    [ true ↦ λ t h. eqb-true c.id k t | false ↦ λ t h. absurd (cc h) ]
    refl
    e

restored-number : (id k : ℕ) (o : Option Cell) (c : Cell) → found k (restored id o) ≡ Some c → id ≡ k
restored-number id k None c e = absurd (cc e)
restored-number id k (Some d) c e = one-number (renumbered id d) c k e

made-number : (n : Parts) (asked : Change) (k : ℕ) (c : Cell) → found k (made_cells n asked) ≡ Some c → n.next_cell ≡ k
made-number n (note.InsertCell section index kind) k c e = one-number (new_cell n.next_cell (kind_of kind)) c k e
made-number n (note.RestoreCell cell section index) k c e = restored-number n.next_cell k (found cell n.bin) c e
made-number n asked k c e = absurd (cc e)

-- what a change of the structure leaves as it is
pub once-taken : (s : State) (o : Option Change) → (once_done s (changes_if o)).taken ≡ s.taken
once-taken s None = refl
once-taken s (Some c) = elim (change s.book c) as (λ a. (once_made s a).taken ≡ s.taken) [ Makes n made ↦ refl | Fails why ↦ refl ]

pub once-known : (s : State) (o : Option Change) → (once_done s (changes_if o)).known ≡ s.known
once-known s None = refl
once-known s (Some c) = elim (change s.book c) as (λ a. (once_made s a).known ≡ s.known) [ Makes n made ↦ refl | Fails why ↦ refl ]

pub once-joined : (s : State) (o : Option Change) → (once_done s (changes_if o)).joined ≡ s.joined
once-joined s None = refl
once-joined s (Some c) = elim (change s.book c) as (λ a. (once_made s a).joined ≡ s.joined) [ Makes n made ↦ refl | Fails why ↦ refl ]

-- the rules go on being kept, and numbers are never given back
abbrev pub IsGrown : Parts → Parts → Type 0
IsGrown n n' = IsNotebook n' × (n.next_cell ≤ n'.next_cell)

made-grown : (s : State) (c : Change) (a : Attempt) → IsNotebook s.book → change s.book c ≡ a → IsGrown s.book (once_made s a).book
made-grown s c (Makes n made) h e = (change-keeps s.book n c made h e, (change-counts s.book n c made h e).0)
made-grown s c (Fails why) h e = (h, omega arith)

once-grown : (s : State) (o : Option Change) → IsNotebook s.book → IsGrown s.book (once_done s (changes_if o)).book
once-grown s None h = (h, omega arith)
once-grown s (Some c) h = made-grown s c (change s.book c) h refl

op-grown : (s : State) (n : ℕ) (op : Op) (answer : Reply) → IsNotebook s.book → IsGrown s.book (after_op s n op answer).book
op-grown s n op (Refused why) h = (h, omega arith)
op-grown s n Join answer h = (h, omega arith)
op-grown s n Leave answer h = (h, omega arith)
op-grown s n (Delta j base d) (Applied rev x) h = (IsNotebook-resourced (moved_source j x) s.book h, omega arith)
op-grown s n (Report j rev) answer h = (h, omega arith)
op-grown s n (Queue j) answer h = (h, omega arith)
op-grown s n (Cancel j) answer h = (h, omega arith)
op-grown s n op answer h = once-grown s (change_of op) h

pub call-grown : (s : State) (call : Call) (answer : Reply) → IsNotebook s.book → IsGrown s.book (after_call s call answer).book
call-grown s (ByClient n op) answer h = op-grown s n op answer h
call-grown s (Start lane) (Started eval cell) h = (h, omega arith)
call-grown s (Respond eval shown) (Stored e) h = (h, omega arith)
call-grown s call answer h = (h, omega arith)

-- a change that was accepted made a notebook
pub record HasMade (n : Parts) (asked : Change) : Type 0 where
  pub new : Parts
  pub made : Changed
  pub makes : change n asked ≡ Makes new made

abbrev pub HasMadeIf : Parts → Option Change → Type 0
HasMadeIf n None = Unit {0}
HasMadeIf n (Some asked) = HasMade n asked

abbrev pub is_refused : Reply → Bool
is_refused (Refused why) = true
is_refused answer = false

structural-reply : (s : State) (n : ℕ) (op : Op) (asked : Change) → change_of op ≡ Some asked → reply s (ByClient n op) ≡ (if is_in n s.joined then attempt_reply (change s.book asked) else Refused NotJoined)
structural-reply s n Join asked e = absurd (cc e)
structural-reply s n Leave asked e = absurd (cc e)
structural-reply s n (Delta cell base d) asked e = absurd (cc e)
structural-reply s n (Report cell rev) asked e = absurd (cc e)
structural-reply s n (Queue cell) asked e = absurd (cc e)
structural-reply s n (Cancel cell) asked e = absurd (cc e)
structural-reply s n op asked e = ap (λ o. if is_in n s.joined then change_reply s o else Refused NotJoined) e

attempt-made : (n : Parts) (asked : Change) (a : Attempt) → change n asked ≡ a → is_refused (attempt_reply a) ≡ false → HasMade n asked
attempt-made n asked (Makes new made) e h = record { new = new; made = made; makes = e }
attempt-made n asked (Fails why) e h = absurd (cc h)

made-from : (s : State) (n : ℕ) (op : Op) (answer : Reply) (o : Option Change) → change_of op ≡ o → answer ≡ reply s (ByClient n op) → is_refused answer ≡ false → HasMadeIf s.book o
made-from s n op answer None is e h = tt
made-from s n op answer (Some asked) is e h =
    let all : answer ≡ (if is_in n s.joined then attempt_reply (change s.book asked) else Refused NotJoined) = e ∙ structural-reply s n op asked is in
    elim (is_in n s.joined)
    as (λ b. is_refused (if b then attempt_reply (change s.book asked) else Refused NotJoined) ≡ false → HasMade s.book asked)
    [ true ↦ λ k. attempt-made s.book asked (change s.book asked) refl k | false ↦ λ k. absurd (cc k) ]
    (sym (ap is_refused all) ∙ h)

-- what a call that applies no delta does to a cell, and to what a client has pending for it
pub data IsPassing (n n' : Parts) (ps ps' : List Pending) (k : ℕ) : Type 0 where
  Stays : found k (cells n') ≡ found k (cells n) → pending_of k ps' ≡ pending_of k ps → IsPassing n n' ps ps' k
  Goes : found k (cells n') ≡ None → pending_of k ps' ≡ None → IsPassing n n' ps ps' k
  Begins : found k (cells n) ≡ None → n.next_cell ≡ k → pending_of k ps' ≡ pending_of k ps → IsPassing n n' ps ps' k

-- without what is pending for cells that are gone
still-none : (k j : ℕ) (ps : List Pending) → pending_of k ps ≡ None → pending_of k (without j ps) ≡ None
still-none k j ps e =
    elim (j == k)
    as (λ b. (j == k) ≡ b → pending_of k (without j ps) ≡ None)
    [ true ↦ λ t. subst (λ i. pending_of i (without j ps) ≡ None) (eqb-true j k t) (without-same j ps) | false ↦ λ t. without-other j k ps t ∙ e ]
    refl

none-without : (k : ℕ) (cs : List Cell) (ps : List Pending) → pending_of k ps ≡ None → pending_of k (without_cells cs ps) ≡ None
none-without k [] ps e = e
none-without k (c ∷ cs) ps e = none-without k cs (without c.id ps) (still-none k c.id ps e)

gone-without : (k : ℕ) (cs : List Cell) (ps : List Pending) → is_some (found k cs) ≡ true → pending_of k (without_cells cs ps) ≡ None
gone-without k [] ps e = absurd (cc e)
gone-without k (c ∷ cs) ps e =
    elim (c.id == k)
    as (λ b. (c.id == k) ≡ b → is_some (if b then Some c else found k cs) ≡ true → pending_of k (without_cells cs (without c.id ps)) ≡ None) [
      | true ↦ λ t h. none-without k cs (without c.id ps) (subst (λ i. pending_of i (without c.id ps) ≡ None) (eqb-true c.id k t) (without-same c.id ps))
      | false ↦ λ t h. gone-without k cs (without c.id ps) h
    ]
    refl
    e

kept-without : (k : ℕ) (cs : List Cell) (ps : List Pending) → is_some (found k cs) ≡ false → pending_of k (without_cells cs ps) ≡ pending_of k ps
kept-without k [] ps e = refl
kept-without k (c ∷ cs) ps e =
    elim (c.id == k)
    as (λ b. (c.id == k) ≡ b → is_some (if b then Some c else found k cs) ≡ false → pending_of k (without_cells cs (without c.id ps)) ≡ pending_of k ps)
    [ true ↦ λ t h. absurd (cc h) | false ↦ λ t h. kept-without k cs (without c.id ps) h ∙ without-other c.id k ps t ]
    refl
    e

remaining : (n n' : Parts) (ps : List Pending) (k : ℕ) (gone : List Cell) (o : Option Cell) → IsNotebook n → (o ≡ None → found k (cells n') ≡ found k (cells n)) → ((c : Cell) → o ≡ Some c → n.next_cell ≡ k) → is_some (found k gone) ≡ false → IsPassing n n' ps (without_cells gone ps) k
remaining n n' ps k gone None h none some e = Stays (none refl) (kept-without k gone ps e)
remaining n n' ps k gone (Some c) h none some e =
    let is : n.next_cell ≡ k = some c refl in
    Begins (unborn n k (found k (cells n)) h (omega (arith, is)) refl) is (kept-without k gone ps e)

change-passing : (n : Parts) (asked : Change) (m : HasMade n asked) (ps : List Pending) (k : ℕ) → IsNotebook n → IsPassing n m.new ps (without_cells (gone_cells n asked) ps) k
change-passing n asked m ps k h =
    let all : found k (cells m.new) ≡ lives_on n asked k = change-found n m.new asked m.made k h m.makes in
    elim (is_some (found k (gone_cells n asked)))
    as (λ b. is_some (found k (gone_cells n asked)) ≡ b → found k (cells m.new) ≡ (if b then None else first_or (found k (made_cells n asked)) (found k (cells n))) → IsPassing n m.new ps (without_cells (gone_cells n asked) ps) k) [
      | true ↦ λ t e. Goes e (gone-without k (gone_cells n asked) ps t)
      | false ↦ λ t e. remaining n m.new ps k (gone_cells n asked) (found k (made_cells n asked)) h (λ none. e ∙ ap (λ o. first_or o (found k (cells n))) none) (λ c some. made-number n asked k c some) t
    ]
    refl
    all

once-passing : (s : State) (o : Option Change) (c : Client) (k : ℕ) → IsNotebook s.book → HasMadeIf s.book o → IsPassing s.book (once_done s (changes_if o)).book c.pending (with_deed s.book c (changes_if o)).pending k
once-passing s None c k h m = Stays refl refl
once-passing s (Some asked) c k h m =
    subst (λ a. IsPassing s.book (once_made s a).book c.pending (without_cells (gone_cells s.book asked) c.pending) k) (sym m.makes) (change-passing s.book asked m c.pending k h)

abbrev pub is_applied_op : Op → Reply → Bool
is_applied_op (Delta cell base d) (Applied rev x) = true
is_applied_op op answer = false

op-passing : (s : State) (n : ℕ) (op : Op) (answer : Reply) (c : Client) (k : ℕ) → IsNotebook s.book → answer ≡ reply s (ByClient n op) → is_applied_op op answer ≡ false → IsPassing s.book (after_op s n op answer).book c.pending (with_deed s.book c (deed (ByClient n op) answer)).pending k
op-passing s n op (Refused why) c k h e other = Stays refl refl
op-passing s n Join answer c k h e other = Stays refl refl
op-passing s n Leave answer c k h e other = Stays refl refl
op-passing s n (Delta j base d) (Applied rev x) c k h e other = absurd (cc other)
op-passing s n (Report j rev) answer c k h e other = Stays refl refl
op-passing s n (Queue j) answer c k h e other = Stays refl refl
op-passing s n (Cancel j) answer c k h e other = Stays refl refl
op-passing s n op answer c k h e other = once-passing s (change_of op) c k h (made-from s n op answer (change_of op) refl e refl)

abbrev pub is_applied : Call → Reply → Bool
is_applied (ByClient n op) answer = is_applied_op op answer
is_applied call answer = false

pub call-passing : (s : State) (call : Call) (answer : Reply) (c : Client) (k : ℕ) → IsNotebook s.book → answer ≡ reply s call → is_applied call answer ≡ false → IsPassing s.book (after_call s call answer).book c.pending (with_deed s.book c (deed call answer)).pending k
call-passing s (ByClient n op) answer c k h e other = op-passing s n op answer c k h e other
call-passing s (Start lane) (Started eval cell) c k h e other = Stays refl refl
call-passing s (Respond eval shown) (Stored i) c k h e other = Stays refl refl
call-passing s call answer c k h e other = Stays refl refl
