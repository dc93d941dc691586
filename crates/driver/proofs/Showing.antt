-- What is shown of a notebook with its revisions, and the number of a client that edits.
use Rattle.std.proofs.Common.{◌≡◌, ℕ, ◌==◌, nat_lt, true, false, if◌then◌else◌, List, [], ◌∷◌, Option, Some, None, refl, sym, ap, subst, ◌∙◌}
use Rattle.std.specs.Prelude.{is_some}
use Rattle.std.specs.Option.{option_map}
use Rattle.std.proofs.lemmas.Bool.{eq-eqb}
use Rattle.delta.specs.declared.Step.{Step}
use Rattle.delta.specs.Steps.{inserted_by}
use Rattle.notebook.specs.declared.parts.Parts.{Parts}
use Rattle.notebook.specs.declared.parts.Cell.{Cell}
use Rattle.notebook.specs.Book.{cells, found, resourced_cell}
use Rattle.notebook.proofs.Sources.{found-resourced}
use Rattle.session_ops.specs.declared.entry.Op.TheVariants.{Report}
use Rattle.session_ops.specs.State.{State, Misfit, revision, misfit}
use Rattle.session_ops.specs.Snapshot.{HasRevisions, listed_revision, revision_if}
use Rattle.session_ops.proofs.Live.{found-number}
use Rattle.client_sync.specs.Client.{Client, Pending, Edited, Done, NoCell, EditTooLong, Unfit, edited, edited_cell, with_fitting, with_edit, with_message, with_report, reported, held, delivered, own_source, pending_of}
use Rattle.transcript.specs.Texts.{book_lines, rev_in}
use Rattle.transcript.proofs.Agreeing.{Agree, book_lines-agree}

rev-listed : (k : ℕ) (revs : List (ℕ × ℕ)) (rev : ℕ) → listed_revision k revs ≡ Some rev → rev_in revs k ≡ rev
rev-listed k [] rev e = absurd (cc e)
rev-listed k (r ∷ rs) rev e =
    elim (r.0 == k)
    as (λ b. (if b then Some r.1 else listed_revision k rs) ≡ Some rev → (if b then r.1 else rev_in rs k) ≡ rev)
    [ true ↦ λ h. cc h | false ↦ λ h. rev-listed k rs rev h ]
    e

rev-of : (s : State) (k : ℕ) (revs : List (ℕ × ℕ)) (o : Option Cell) → found k (cells s.book) ≡ o → is_some o ≡ true → listed_revision k revs ≡ revision_if s o → rev_in revs k ≡ revision s k
rev-of s k revs None f e l = absurd (cc e)
rev-of s k revs (Some c) f e l = rev-listed k revs (revision s c.id) l ∙ ap (revision s) (found-number k (cells s.book) c f)

-- each of these cells lives in the state
abbrev AllLive : State → List Cell → Type 0
AllLive s [] = Unit {0}
AllLive s (d ∷ ds) = (is_some (found d.id (cells s.book)) ≡ true) × AllLive s ds

agree-listed : (s : State) (revs : List (ℕ × ℕ)) (ds : List Cell) → HasRevisions s revs → AllLive s ds → Agree (rev_in revs) (revision s) ds
agree-listed s revs [] h f = tt
agree-listed s revs (d ∷ ds) h f = (rev-of s d.id revs (found d.id (cells s.book)) refl f.0 (h.each d.id), agree-listed s revs ds h f.1)

found-here : (d : Cell) (ds : List Cell) → is_some (found d.id (d ∷ ds)) ≡ true
found-here d ds = ap (λ b. is_some (if b then Some d else found d.id ds)) (eq-eqb d.id d.id refl)

found-wider : (id : ℕ) (d : Cell) (ds : List Cell) → is_some (found id ds) ≡ true → is_some (found id (d ∷ ds)) ≡ true
found-wider id d ds e =
    elim (d.id == id)
    as (λ b. is_some (if b then Some d else found id ds) ≡ true)
    [ true ↦ refl | false ↦ e ]

live-wider : (s : State) (cs ds : List Cell) → ((id : ℕ) → is_some (found id ds) ≡ true → is_some (found id (cells s.book)) ≡ true) → AllLive s ds
live-wider s cs [] f = tt
live-wider s cs (d ∷ ds) f = (f d.id (found-here d ds), live-wider s cs ds (λ id e. f id (found-wider id d ds e)))

-- the lines of a notebook whose cells live in a state, by the list of the state's revisions
pub listed-lines : (s : State) (n : Parts) (revs : List (ℕ × ℕ)) → HasRevisions s revs → ((id : ℕ) → is_some (found id (cells n)) ≡ true → is_some (found id (cells s.book)) ≡ true) → book_lines (rev_in revs) n ≡ book_lines (revision s) n
listed-lines s n revs h same = book_lines-agree (rev_in revs) (revision s) n (agree-listed s revs (cells n) h (live-wider s [] (cells n) same))

some-before : (f : Cell → List ℕ) (o : Option Cell) → is_some (option_map (resourced_cell f) o) ≡ true → is_some o ≡ true
some-before f None e = absurd (cc e)
some-before f (Some c) e = refl

pub own-lines : (n0 : Parts) (m : Client) (book : Parts) (revs : List (ℕ × ℕ)) → book ≡ held n0 m → HasRevisions (delivered n0 m) revs → book_lines (rev_in revs) book ≡ book_lines (revision (delivered n0 m)) (held n0 m)
own-lines n0 m book revs eb er =
    let f : Cell → List ℕ = own_source m.pending in
    let s : State = delivered n0 m in
    ap (book_lines (rev_in revs)) eb ∙ listed-lines s (held n0 m) revs er (λ id e. some-before f (found id (cells s.book)) (sym (ap is_some (found-resourced f id s.book)) ∙ e))

-- a client that edits keeps its number
abbrev KeepsNumber : Client → Edited → Type 0
KeepsNumber c (Done d) = d.number ≡ c.number
KeepsNumber c NoCell = Unit {0}
KeepsNumber c EditTooLong = Unit {0}
KeepsNumber c (Unfit why) = Unit {0}

edit-number : (c : Client) (cell rev : ℕ) (d : List Step) (o : Option Pending) → (with_edit c cell rev d o).number ≡ c.number
edit-number c cell rev d None = refl
edit-number c cell rev d (Some p) = refl

fitting-number : (c : Client) (cell rev : ℕ) (d : List Step) (why : Option Misfit) → KeepsNumber c (with_fitting c cell rev d why)
fitting-number c cell rev [] None = refl
fitting-number c cell rev (s ∷ d) None = edit-number c cell rev (s ∷ d) (pending_of cell c.pending)
fitting-number c cell rev d (Some why) = tt

cell-number : (c : Client) (cell rev : ℕ) (d : List Step) (own : Option Cell) → KeepsNumber c (edited_cell c cell rev d own)
cell-number c cell rev d None = tt
cell-number c cell rev d (Some own) =
    elim (nat_lt 65536 (inserted_by d))
    as (λ b. KeepsNumber c (if b then EditTooLong else with_fitting c cell rev d (misfit d own.source)))
    [ true ↦ tt | false ↦ fitting-number c cell rev d (misfit d own.source) ]

pub edited-number : (n0 : Parts) (c d : Client) (cell : ℕ) (x : List Step) → edited n0 c cell x ≡ Done d → d.number ≡ c.number
edited-number n0 c d cell x e = subst (KeepsNumber c) e (cell-number c cell (revision (delivered n0 c) cell) x (found cell (cells (held n0 c))))

-- and so does one that reports
report-number : (c m : Client) (cell rev : ℕ) (own : Option Cell) → with_report c cell rev own ≡ Some m → m.number ≡ c.number
report-number c m cell rev None e = absurd (cc e)
report-number c m cell rev (Some own) e = let is : with_message c (Report cell rev) ≡ m = cc e in ap (λ (x : Client). x.number) (sym is)

pub reported-number : (n0 : Parts) (c m : Client) (cell : ℕ) → reported n0 c cell ≡ Some m → m.number ≡ c.number
reported-number n0 c m cell e = report-number c m cell (revision (delivered n0 c) cell) (found cell (cells (held n0 c))) e
