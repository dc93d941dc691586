-- A client that edits goes on standing for what the definitions say.
use Rattle.std.proofs.Common.{◌≡◌, ◌≢◌, ℕ, ◌<◌, ◌≤◌, ◌==◌, true, false, List, [], ◌∷◌, length, map, Option, Some, None, refl, sym, ap, subst, ◌∙◌, arith}
use Rattle.std.specs.Prelude.{nat_lt}
use Rattle.std.specs.Option.{option_map}
use Rattle.std.proofs.lemmas.Bool.{eqb-true}
use Rattle.std.proofs.lemmas.Bool.Decides.{nat_tests}
use Rattle.delta.specs.declared.Step.{Step}
use Rattle.delta.specs.Steps.{inserted_by}
use Rattle.delta.specs.Moves.{FitsText, text_after}
use Rattle.delta_laws.specs.Misfits.{Misfit, Past, Splits, misfit}
use Rattle.delta_laws.proofs.Laws.{delta_laws}
use Rattle.limits.specs.Limits.{most_inserted}
use Rattle.notebook.specs.declared.parts.Cell.{Cell}
use Rattle.notebook.specs.declared.parts.Parts.{Parts}
use Rattle.notebook.specs.Book.{cells, found, resourced_cell, resourced, with_source}
use Rattle.session_ops.specs.State.{State, state, revision}
use Rattle.session_ops.specs.Snapshot.{HasRevisions, listed_revision}
use Rattle.notebook.specs.Rules.{IsNotebook}
use Rattle.client_sync.specs.Client.{Client as Holder, Edited, Pending, Done, NoCell, EditTooLong, Unfit, pending_of, with_pending, own_source, delivered, edited, edited_cell, with_fitting, with_edit}
use Rattle.client_sync.specs.Causes.{IsEditCause}
use Rattle.client_sync.specs.Fits.{HasSource, FitsHere}
use Rattle.client_sync.specs.Own.{IsOwnText, IsOwnFault}
use Rattle.client_sync.specs.Stands.{Mirrors, HasEdits, HaveServerTexts, pending_in}
use Rattle.session_ops.specs.Born.{TouchesMadeCells}
use Rattle.client_sync.specs.declared.client.Client.{Client}
use Rattle.client_sync.specs.declared.edit_error.EditError.{EditError}
use Rattle.client_sync.specs.declared.edit_error.EditError.TheVariants.{NoCell as NoCellError, EditTooLong as TooLongError, PastEnd, SplitsPair, OutOfMemory}
use Rattle.client_sync.proofs.Books.{live-apart, with-one-source}
use Rattle.client_sync.proofs.Edits.{with_buffer, buffer_option, buffered-same, buffered-other, pending-added, pending-beside}
use Rattle.session_ops.proofs.Live.{found-number}
use Rattle.client_sync.proofs.Fitting.{one-source, fits-buffered, buffer-shows}
use Rattle.client_sync.proofs.Viewing.{found-held, known-revision}

-- what an edit is judged by
short-test : (k : ℕ) → k ≤ most_inserted → nat_lt most_inserted k ≡ false
short-test k h = grind (arith, nat_tests, h)

long-test : (k : ℕ) → most_inserted < k → nat_lt most_inserted k ≡ true
long-test k h = grind (arith, nat_tests, h)

fitting : (m : Holder) (cell rev : ℕ) (d : List Step) (n : Parts) (own : Cell) (why : Option Misfit) → found cell (cells n) ≡ Some own → inserted_by d ≤ most_inserted → misfit d own.source ≡ why → edited_cell m cell rev d (found cell (cells n)) ≡ with_fitting m cell rev d why
fitting m cell rev d n own why there short fits = rw (there, short-test (inserted_by d) short, fits) refl

unfitting : (m : Holder) (cell rev : ℕ) (d : List Step) (why : Misfit) → with_fitting m cell rev d (Some why) ≡ Unfit why
unfitting m cell rev [] why = refl
unfitting m cell rev (s ∷ d) why = refl

doing : (m : Holder) (cell rev : ℕ) (d : List Step) → d ≢ [] → with_fitting m cell rev d None ≡ Done (with_edit m cell rev d (pending_of cell m.pending))
doing m cell rev [] h = absurd (h refl)
doing m cell rev (s ∷ d) h = refl

too-long : (m : Holder) (cell rev : ℕ) (d : List Step) (n : Parts) (own : Cell) → found cell (cells n) ≡ Some own → most_inserted < inserted_by d → edited_cell m cell rev d (found cell (cells n)) ≡ EditTooLong
too-long m cell rev d n own there long = rw (there, long-test (inserted_by d) long) refl

fitting-or-not : (m : Holder) (cell rev : ℕ) (d : List Step) (why : Option Misfit) → (with_fitting m cell rev d why ≢ NoCell) × (with_fitting m cell rev d why ≢ EditTooLong)
fitting-or-not m cell rev [] None = (λ e. absurd (cc e), λ e. absurd (cc e))
fitting-or-not m cell rev [] (Some why) = (λ e. absurd (cc e), λ e. absurd (cc e))
fitting-or-not m cell rev (s ∷ d) None = (λ e. absurd (cc e), λ e. absurd (cc e))
fitting-or-not m cell rev (s ∷ d) (Some why) = (λ e. absurd (cc e), λ e. absurd (cc e))

judged : (m : Holder) (cell rev : ℕ) (d : List Step) (n : Parts) (own : Cell) → found cell (cells n) ≡ Some own → inserted_by d ≤ most_inserted
    → (edited_cell m cell rev d (found cell (cells n)) ≢ NoCell) × (edited_cell m cell rev d (found cell (cells n)) ≢ EditTooLong)
judged m cell rev d n own there short = subst (λ x. (x ≢ NoCell) × (x ≢ EditTooLong)) (sym (fitting m cell rev d n own (misfit d own.source) there short refl)) (fitting-or-not m cell rev d (misfit d own.source))

fault-of : (m : Holder) (cell rev : ℕ) (d : List Step) (n : Parts) (e : EditError) → IsOwnFault n cell d e → IsEditCause (edited_cell m cell rev d (found cell (cells n))) e
fault-of m cell rev d n NoCellError f = ap (edited_cell m cell rev d) f
fault-of m cell rev d n TooLongError f = too-long m cell rev d n f.0.0 f.0.1 f.1
fault-of m cell rev d n (PastEnd len) f = fitting m cell rev d n f.own (Some (Past len)) f.there f.short f.unfit ∙ unfitting m cell rev d (Past len)
fault-of m cell rev d n (SplitsPair at) f = fitting m cell rev d n f.own (Some (Splits at)) f.there f.short f.unfit ∙ unfitting m cell rev d (Splits at)
fault-of m cell rev d n OutOfMemory f = judged m cell rev d n f.own f.there f.short

judged-by-own : (n0 : Parts) (c : Client) (m : Holder) (cell : ℕ) (d : List Step) → Mirrors n0 c m → edited n0 m cell d ≡ edited_cell m cell (revision (delivered n0 m) cell) d (found cell (cells c.book))
judged-by-own n0 c m cell d is = ap (λ b. edited_cell m cell (revision (delivered n0 m) cell) d (found cell (cells b))) (sym is.book)

-- why an edit is refused is told by the client's own notebook
pub edit-refused : (n0 : Parts) (c : Client) (m : Holder) (cell : ℕ) (d : List Step) (e : EditError) → Mirrors n0 c m → IsOwnFault c.book cell d e → IsEditCause (edited n0 m cell d) e
edit-refused n0 c m cell d e is f = subst (λ x. IsEditCause x e) (sym (judged-by-own n0 c m cell d is)) (fault-of m cell (revision (delivered n0 m) cell) d c.book e f)

-- an edit without steps does nothing
pub edit-empty : (n0 : Parts) (c : Client) (m : Holder) (cell : ℕ) (d : List Step) (text : List ℕ) → Mirrors n0 c m → IsOwnText c.book cell d text → d ≡ [] → edited n0 m cell d ≡ Done m
edit-empty n0 c m cell d text is f none =
    judged-by-own n0 c m cell d is ∙ (fitting m cell (revision (delivered n0 m) cell) d c.book f.own None f.there f.short (delta_laws.no_misfit d f.own.source f.fits) ∙ ap (λ x. with_fitting m cell (revision (delivered n0 m) cell) x None) none)

-- a delta that isn't empty has steps
pub has-steps : (d : List Step) → false ≡ (length d == 0) → d ≢ []
has-steps [] h e = absurd (cc h)
has-steps (s ∷ d) h e = absurd (cc e)

pub no-steps : (d : List Step) → true ≡ (length d == 0) → d ≡ []
no-steps [] h = refl
no-steps (s ∷ d) h = absurd (grind (arith, nat_tests, h))

-- what an edit makes of what is pending for its cell, over the server's source
pub record ShowsEdit (k : ℕ) (d : List Step) (t : List ℕ) (o : Option Pending) (ps : List Pending) : Type 0 where
  pub now : Pending
  pub there : pending_of k ps ≡ Some now
  pub flight : FitsText now.flight t
  pub buffer : FitsText now.buffer (text_after now.flight t)
  pub text : with_pending (Some now) t ≡ text_after d (with_pending o t)

-- what is pending fits the server's source
abbrev pub FitsOver : List ℕ → Option Pending → Type 0
FitsOver t None = Unit {0}
FitsOver t (Some p) = FitsText p.flight t × FitsText p.buffer (text_after p.flight t)

edit-shows : (m : Holder) (k rev : ℕ) (d : List Step) (t : List ℕ) (o : Option Pending) → pending_of k m.pending ≡ o → FitsOver t o → FitsText d (with_pending o t) → ShowsEdit k d t o (with_edit m k rev d o).pending
edit-shows m k rev d t None e over f =
    let q : Pending = record { cell = k; flight = d; buffer = [] } in
    record { now = q; there = pending-added k m.pending q e refl; flight = f; buffer = delta_laws.nothing.fits (text_after d t); text = refl }
edit-shows m k rev d t (Some p) e over f =
    record { now = with_buffer d p; there = buffered-same k d m.pending ∙ ap (buffer_option d) e; flight = over.0; buffer = fits-buffered d p t over.1 f; text = buffer-shows d p t over.1 f }

edit-beside : (m : Holder) (k rev j : ℕ) (d : List Step) (o : Option Pending) → (k == j) ≡ false → pending_of j (with_edit m k rev d o).pending ≡ pending_of j m.pending
edit-beside m k rev j d None ne = pending-beside j m.pending (record { cell = k; flight = d; buffer = [] }) ne
edit-beside m k rev j d (Some p) ne = buffered-other k j d m.pending ne

edit-number : (m : Holder) (k rev : ℕ) (d : List Step) (o : Option Pending) → (with_edit m k rev d o).number ≡ m.number
edit-number m k rev d None = refl
edit-number m k rev d (Some p) = refl

edit-seen : (m : Holder) (k rev : ℕ) (d : List Step) (o : Option Pending) → (with_edit m k rev d o).seen ≡ m.seen
edit-seen m k rev d None = refl
edit-seen m k rev d (Some p) = refl

-- what is pending for the cells, one cell's and the others'
pub fits-either : (s : State) (ps : List Pending) (k : ℕ) → ((p : Pending) → pending_of k ps ≡ Some p → FitsHere s k p) → ((j : ℕ) (p : Pending) → (k == j) ≡ false → pending_of j ps ≡ Some p → FitsHere s j p) → (j : ℕ) (p : Pending) → pending_of j ps ≡ Some p → FitsHere s j p
fits-either s ps k here others j p e =
    elim (k == j)
    as (λ b. (k == j) ≡ b → FitsHere s j p)
    [ true ↦ λ t. let same : k ≡ j = eqb-true k j t in subst (λ i. FitsHere s i p) same (here p (subst (λ i. pending_of i ps ≡ Some p) (sym same) e)) | false ↦ λ t. others j p t e ]
    refl

over-from : (s : State) (k : ℕ) (own : Cell) (o : Option Pending) → found k (cells s.book) ≡ Some own → ((p : Pending) → o ≡ Some p → FitsHere s k p) → FitsOver own.source o
over-from s k own None there h = tt
over-from s k own (Some p) there h =
    let f : FitsHere s k p = h p refl in
    let same : f.source ≡ own.source = sym (one-source s.book k f.source own f.there there) in
    (subst (FitsText p.flight) same f.flight, subst (λ t. FitsText p.buffer (text_after p.flight t)) same f.buffer)

-- what is pending for a cell fits its source
pub fits-over : (n0 : Parts) (c : Client) (m : Holder) (k : ℕ) (own : Cell) → Mirrors n0 c m → found k (cells (delivered n0 m).book) ≡ Some own → FitsOver own.source (pending_of k m.pending)
fits-over n0 c m k own is there = over-from (delivered n0 m) k own (pending_of k m.pending) there (is.fits k)

-- a cell of the client's own stands for one of the server's, with what is pending done to it
pub record IsShown (n0 : Parts) (m : Holder) (k : ℕ) (own : Cell) : Type 0 where
  pub cell : Cell
  pub there : found k (cells (delivered n0 m).book) ≡ Some cell
  pub number : cell.id ≡ k
  pub source : own.source ≡ with_pending (pending_of k m.pending) cell.source

shown-of : (n0 : Parts) (m : Holder) (k : ℕ) (own : Cell) (o : Option Cell) → found k (cells (delivered n0 m).book) ≡ o → Some own ≡ option_map (resourced_cell (own_source m.pending)) o → IsShown n0 m k own
shown-of n0 m k own None e is = absurd (cc is)
shown-of n0 m k own (Some cell) e is =
    let same : own ≡ resourced_cell (own_source m.pending) cell = cc is in
    let number : cell.id ≡ k = found-number k (cells (delivered n0 m).book) cell e in
    record { cell = cell; there = e; number = number; source = ap (λ x. x.source) same ∙ ap (λ i. with_pending (pending_of i m.pending) cell.source) number }

pub is-shown : (n0 : Parts) (c : Client) (m : Holder) (k : ℕ) (own : Cell) → Mirrors n0 c m → found k (cells c.book) ≡ Some own → IsShown n0 m k own
is-shown n0 c m k own is there = shown-of n0 m k own (found k (cells (delivered n0 m).book)) refl (sym there ∙ found-held n0 c m k is)

-- where nothing is pending for a cell, its own text is the server's
quiet-source : (n0 : Parts) (m : Holder) (k : ℕ) (own : Cell) (o : Option Pending) → (is : IsShown n0 m k own) → own.source ≡ with_pending o is.cell.source → o ≡ None → HasSource (delivered n0 m).book k own.source
quiet-source n0 m k own o is e none = record { own = is.cell; there = is.there; source = sym (e ∙ ap (λ p. with_pending p is.cell.source) none) }

pub server-text : (n0 : Parts) (c : Client) (m : Holder) (k : ℕ) (own : Cell) → Mirrors n0 c m → found k (cells c.book) ≡ Some own → pending_of k (map pending_in c.pending) ≡ None → HasSource (delivered n0 m).book k own.source
server-text n0 c m k own is there none =
    let shown : IsShown n0 m k own = is-shown n0 c m k own is there in
    quiet-source n0 m k own (pending_of k m.pending) shown shown.source (ap (pending_of k) (sym is.pending) ∙ none)

-- a client in memory that changed only what is pending, what is to be sent and its notebook
pub record IsSameBut (c c' : Client) : Type 0 where
  pub number : c'.number ≡ c.number
  pub cursor : c'.cursor ≡ c.cursor
  pub revs : c'.revs ≡ c.revs
  pub nothing : c'.nothing ≡ c.nothing

edit-mirrors : (n0 : Parts) (c c' : Client) (m m' : Holder) (k : ℕ) (d : List Step) (text : List ℕ) (cell : Cell) → Mirrors n0 c m → found k (cells (delivered n0 m).book) ≡ Some cell → cell.id ≡ k
    → (e : ShowsEdit k d cell.source (pending_of k m.pending) m'.pending) → ((j : ℕ) → (k == j) ≡ false → pending_of j m'.pending ≡ pending_of j m.pending) → m'.number ≡ m.number → m'.seen ≡ m.seen
    → text ≡ text_after d (with_pending (pending_of k m.pending) cell.source) → HasEdits c'.pending c'.outbox m' → HaveServerTexts (delivered n0 m).book c'.pending → IsSameBut c c' → c'.book ≡ with_source k text c.book → Mirrors n0 c' m'
edit-mirrors n0 c c' m m' k d text cell is there number e others en es et edits texts same eb =
    let s : State = delivered n0 m in
    let now : (i : ℕ) → i ≡ k → with_pending (pending_of i m'.pending) cell.source ≡ text = λ i at. ap (λ j. with_pending (pending_of j m'.pending) cell.source) at ∙ (ap (λ o. with_pending o cell.source) e.there ∙ (e.text ∙ sym et)) in
    let book : with_source k text (resourced (own_source m.pending) s.book) ≡ resourced (own_source m'.pending) s.book =
    with-one-source (own_source m.pending) (own_source m'.pending) s.book k text cell (live-apart s.book is.notebook) there (now cell.id number)
    (λ x ne. ap (λ o. with_pending o x.source) (others x.id (grind (arith, nat_tests, ne)))) in
    record {
      number = same.number ∙ (is.number ∙ sym en);
      cursor = same.cursor ∙ (is.cursor ∙ ap length (sym es));
      book = eb ∙ (ap (with_source k text) is.book ∙ (book ∙ ap (λ h. resourced (own_source m'.pending) (state n0 h).book) (sym es)));
      revs = subst (λ h. HasRevisions (state n0 h) c'.revs) (sym es) (subst (HasRevisions s) (sym same.revs) is.revs);
      pending = edits.pending;
      outbox = edits.outbox;
      nothing = same.nothing ∙ is.nothing;
      apart = edits.apart;
      fits = subst (λ h. (j : ℕ) (p : Pending) → pending_of j m'.pending ≡ Some p → FitsHere (state n0 h) j p) (sym es)
          (fits-either s m'.pending k
          (λ p at. let one : e.now ≡ p = cc (e.there, at) in subst (FitsHere s k) one (record { source = cell.source; there = record { own = cell; there = there; source = refl }; flight = e.flight; buffer = e.buffer }))
          (λ j p ne at. is.fits j p (sym (others j ne) ∙ at)));
      texts = subst (λ h. HaveServerTexts (state n0 h).book c'.pending) (sym es) texts;
      notebook = subst (λ h. IsNotebook (state n0 h).book) (sym es) is.notebook;
      made = subst (λ h. TouchesMadeCells (state n0 h)) (sym es) is.made;
    }

-- an edit is done
pub edit-done : (n0 : Parts) (c c' : Client) (m : Holder) (k base : ℕ) (d : List Step) (text : List ℕ) → Mirrors n0 c m → IsOwnText c.book k d text → d ≢ [] → Some base ≡ listed_revision k c.revs
    → ((h : Holder) → HasEdits c.pending c.outbox h → HasEdits c'.pending c'.outbox (with_edit h k base d (pending_of k h.pending))) → HaveServerTexts (delivered n0 m).book c'.pending → IsSameBut c c' → c'.book ≡ with_source k text c.book
    → (m' : Holder) × ((edited n0 m k d ≡ Done m') × Mirrors n0 c' m')
edit-done n0 c c' m k base d text is f some b edits texts same eb =
    let shown : IsShown n0 m k f.own = is-shown n0 c m k f.own is f.there in
    let cell : Cell = shown.cell in
    let o : Option Pending = pending_of k m.pending in
    let rev : ℕ = revision (delivered n0 m) k in
    let known : base ≡ rev = known-revision n0 c m k base cell is shown.there shown.number b in
    let m' : Holder = with_edit m k rev d o in
    let has : HasEdits c'.pending c'.outbox m' = subst (λ r. HasEdits c'.pending c'.outbox (with_edit m k r d o)) known (edits m (record { pending = is.pending; outbox = is.outbox; apart = is.apart })) in
    let fits : FitsText d (with_pending o cell.source) = subst (FitsText d) shown.source f.fits in (
      m',
      (
        judged-by-own n0 c m k d is
            ∙ (fitting m k rev d c.book f.own None f.there f.short (delta_laws.no_misfit d f.own.source f.fits)
            ∙ doing m k rev d some),
        edit-mirrors n0 c c' m m' k d text cell is shown.there shown.number
            (edit-shows m k rev d cell.source o refl (fits-over n0 c m k cell is shown.there) fits)
            (λ j ne. edit-beside m k rev j d o ne)
            (edit-number m k rev d o) (edit-seen m k rev d o)
            (f.text ∙ ap (text_after d) shown.source) has texts same eb,
      ),
    )
