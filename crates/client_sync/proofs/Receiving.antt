-- A client that receives an entry goes on standing for what the definitions say.
use Rattle.std.proofs.Common.{◌≡◌, ◌≢◌, ℕ, ◌+◌, ◌<◌, ◌≤◌, ◌==◌, Bool, true, false, if◌then◌else◌, List, [], ◌∷◌, ◌++◌, length, map, Option, Some, None, refl, sym, ap, subst, ◌∙◌, arith, ne_eqb}
use Rattle.std.specs.Option.{option_map}
use Rattle.std.proofs.lemmas.Bool.{eqb-true, eq-eqb}
use Rattle.std.proofs.lemmas.Bool.Decides.{nat_tests}
use Rattle.std.proofs.lemmas.List.{append-nil, length-append}
use Rattle.delta.specs.declared.Step.{Step}
use Rattle.delta.specs.Moves.{FitsText, text_after}
use Rattle.delta_laws.proofs.Laws.{delta_laws}
use Rattle.notebook.specs.declared.parts.Cell.{Cell}
use Rattle.notebook.specs.declared.parts.Parts.{Parts}
use Rattle.notebook.specs.Book.{cells, found, resourced_cell, resourced, with_source}
use Rattle.notebook.specs.Rules.{AreDistinct, IsNotebook, cell_number}
use Rattle.notebook.proofs.Sources.{found-resourced, IsNotebook-resourced}
use Rattle.session_ops.specs.declared.entry.Entry.{Entry}
use Rattle.session_ops.specs.Deeds.{CellEdit, Deed, Edits, FitsCell, book_after, deed, moved_source}
use Rattle.session_ops.specs.State.{State, Taken, state, after, after_call, once_done, taken_by, revision, reply}
use Rattle.session_ops.proofs.Deeds.{IsTaken, IsDoneBy, done-by, edit-taken, moved-one}
use Rattle.session_ops.proofs.Live.{found-number}
use Rattle.session_ops.specs.Snapshot.{HasRevisions}
use Rattle.client_sync.specs.Client.{Client as Holder, Pending, pending_of, after_buffer, with_pending, own_source, delivered, with_own, with_deed, reposted, all_moved, without, received_entry}
use Rattle.client_sync.specs.Fits.{HasSource, FitsHere}
use Rattle.client_sync.specs.Moving.{over_option, IsMovedOver}
use Rattle.client_sync.specs.Revisions.{raised}
use Rattle.client_sync.specs.Stands.{Mirrors, HasEdits, HaveServerTexts, IsNextEntry, IsOwnFlight}
use Rattle.session_ops.specs.Born.{TouchesMadeCells}
use Rattle.client_sync.specs.declared.client.Client.{Client}
use Rattle.client_sync.proofs.Books.{fused, same-each, live-apart, found-below, with-one-source}
use Rattle.client_sync.proofs.Editing.{FitsOver, fits-over, fits-either}
use Rattle.client_sync.proofs.Edits.{shifted_option, shifted-same, shifted-other, without-same, without-other, pending-added, pending-beside}
use Rattle.client_sync.proofs.Fitting.{IsShifted, shift-fits}
use Rattle.client_sync.proofs.Growing.{state-append}
use Rattle.client_sync.proofs.Revisions.{SameNumber, revisions-raised}
use Rattle.client_sync.proofs.Texts.{source-moved, source-beside, source-here}
use Rattle.client_sync.proofs.Viewing.{found-held}

-- the deltas that a cell took, with one more
more-of : (b : Bool) (d : List Step) (xs ys : List (List Step)) → (if b then d ∷ (xs ++ ys) else xs ++ ys) ≡ (if b then d ∷ xs else xs) ++ ys
more-of true d xs ys = refl
more-of false d xs ys = refl

taken-append : (k : ℕ) (ts : List Taken) (t : Taken) → taken_by k (ts ++ t ∷ []) ≡ taken_by k ts ++ (if t.cell == k then t.delta ∷ [] else [])
taken-append k [] t = refl
taken-append k (u ∷ ts) t = rw (taken-append k ts t) (more-of (u.cell == k) u.delta (taken_by k ts) (if t.cell == k then t.delta ∷ [] else []))

grown : (xs : List (List Step)) (x : List Step) (b : Bool) → length (xs ++ (if b then x ∷ [] else [])) ≡ (if b then length xs + 1 else length xs)
grown xs x true = length-append xs (x ∷ [])
grown xs x false = ap length (append-nil xs)

-- what an entry with a delta that was applied makes of the state
pub record IsArrived (s t : State) (k rev : ℕ) (x : List Step) : Type 0 where
  pub book : t.book ≡ resourced (moved_source k x) s.book
  pub revisions : (j : ℕ) → revision t j ≡ (if j == k then rev else revision s j)
  pub taken : IsTaken s k rev x

raised-rev : (b : Bool) (n rev r : ℕ) → (b ≡ true → rev ≡ n + 1) → (b ≡ true → r ≡ n) → (if b then r + 1 else r) ≡ (if b then rev else r)
raised-rev true n rev r e h = ap (λ i. i + 1) (h refl) ∙ sym (e refl)
raised-rev false n rev r e h = refl

arrived-revision : (s t : State) (k rev : ℕ) (x : List Step) → IsTaken s k rev x → t.taken ≡ s.taken ++ record { cell = k; delta = x } ∷ [] → (j : ℕ) → revision t j ≡ (if j == k then rev else revision s j)
arrived-revision s t k rev x is e j =
    let flip : (k == j) ≡ (j == k) = grind (arith, nat_tests) in
    ap (λ ts. length (taken_by j ts)) e
    ∙ (ap length (taken-append j s.taken (record { cell = k; delta = x }))
    ∙ (grown (taken_by j s.taken) x (k == j)
    ∙ (ap (λ b. if b then revision s j + 1 else revision s j) flip
    ∙ raised-rev (j == k) (revision s k) rev (revision s j) (λ t. is.next) (λ t. ap (revision s) (eqb-true j k t)))))

arrived-of : (s : State) (e : Entry) (a : CellEdit) → deed e.call e.reply ≡ Edits a → e.reply ≡ reply s e.call → IsArrived s (after s e) a.cell a.rev a.delta
arrived-of s e a came right =
    let by : IsDoneBy (deed e.call e.reply) s (after_call s e.call e.reply) = done-by s e.call e.reply in
    let taken : IsTaken s a.cell a.rev a.delta = edit-taken s e.call e.reply a came right in
    record {
      book = by.book ∙ ap (λ d. (once_done s d).book) came;
      revisions = arrived-revision s (after s e) a.cell a.rev a.delta taken (by.taken ∙ ap (λ d. (once_done s d).taken) came);
      taken = taken;
    }

-- the state at the client's next delivery
abbrev pub next_state : Parts → Holder → Entry → State
next_state n0 m e = state n0 (m.seen ++ e ∷ [])

pub arrived : (n0 : Parts) (m : Holder) (e : Entry) (a : CellEdit) → deed e.call e.reply ≡ Edits a → IsNextEntry n0 m e → IsArrived (delivered n0 m) (next_state n0 m e) a.cell a.rev a.delta
arrived n0 m e a by next =
    subst (λ t. IsArrived (delivered n0 m) t a.cell a.rev a.delta) (sym (state-append n0 m.seen e)) (arrived-of (delivered n0 m) e a by next.right)

-- the client with the entry received, before what it tells is taken in
abbrev pub seen_more : Holder → Entry → Holder
seen_more m e = record m { seen = m.seen ++ e ∷ [] }

-- another cell's pending edits fit as they did
beside-fits : (s t : State) (k rev j : ℕ) (x : List Step) (p : Pending) → IsArrived s t k rev x → (k == j) ≡ false → FitsHere s j p → FitsHere t j p
beside-fits s t k rev j x p is ne f = record { source = f.source; there = subst (λ n. HasSource n j f.source) (sym is.book) (source-beside s.book k x j f.source ne f.there); flight = f.flight; buffer = f.buffer }

-- the cell itself has the delta applied to its source
cell-source : (s t : State) (k rev : ℕ) (x : List Step) (is : IsArrived s t k rev x) → HasSource t.book k (text_after x is.taken.own.source)
cell-source s t k rev x is = subst (λ n. HasSource n k (text_after x is.taken.own.source)) (sym is.book) (source-here s.book k x is.taken.own is.taken.there)

-- the cells are the same, by their numbers
same-of : (f : Cell → List ℕ) (o : Option Cell) → SameNumber o (option_map (resourced_cell f) o)
same-of f None = tt
same-of f (Some c) = refl

-- what the client knows of the revisions
revs-arrived : (s t : State) (k rev : ℕ) (x : List Step) (rs : List (ℕ × ℕ)) → IsArrived s t k rev x → HasRevisions s rs → HasRevisions t (raised k rev rs)
revs-arrived s t k rev x rs is h =
    revisions-raised s t k rev rs h is.revisions (λ j c e. found-number j (cells s.book) c e)
    (λ j. subst (SameNumber (found j (cells s.book))) (sym (ap (λ n. found j (cells n)) is.book ∙ found-resourced (moved_source k x) j s.book)) (same-of (moved_source k x) (found j (cells s.book))))

-- no delta was applied to a cell that isn't made yet
made-arrived : (s t : State) (k rev : ℕ) (x : List Step) → IsArrived s t k rev x → IsNotebook s.book → TouchesMadeCells s → TouchesMadeCells t
made-arrived s t k rev x is rules made = λ cell late.
    let old : s.book.next_cell ≤ cell = subst (λ (n : Parts). n.next_cell ≤ cell) is.book late in
    let live : k < s.book.next_cell = found-below s.book k is.taken.own rules is.taken.there in
    let other : (cell == k) ≡ false = grind (arith, nat_tests, old, live) in
    is.revisions cell ∙ (ap (λ b. if b then rev else revision s cell) other ∙ made cell old)

-- a client in memory after a delta arrived
pub record HasArrived (c c' : Client) (k rev : ℕ) : Type 0 where
  pub number : c'.number ≡ c.number
  pub revs : c'.revs ≡ raised k rev c.revs
  pub nothing : c'.nothing ≡ c.nothing

arrived-mirrors : (n0 : Parts) (c c' : Client) (m m' : Holder) (e : Entry) (k rev : ℕ) (x : List Step) → Mirrors n0 c m → IsArrived (delivered n0 m) (next_state n0 m e) k rev x → m'.number ≡ m.number → m'.seen ≡ m.seen ++ e ∷ [] → HasArrived c c' k rev → HasEdits c'.pending c'.outbox m' → HaveServerTexts (book_after k x (delivered n0 m).book) c'.pending
    → c'.book ≡ resourced (own_source m'.pending) (next_state n0 m e).book → ((j : ℕ) (p : Pending) → pending_of j m'.pending ≡ Some p → FitsHere (next_state n0 m e) j p) → Mirrors n0 (record c' { cursor = length m.seen + 1 }) m'
arrived-mirrors n0 c c' m m' e k rev x is new en es has edits texts eb fits =
    record {
      number = has.number ∙ (is.number ∙ sym en);
      cursor = sym (ap length es ∙ length-append m.seen (e ∷ []));
      book = eb ∙ ap (λ h. resourced (own_source m'.pending) (state n0 h).book) (sym es);
      revs = subst (λ h. HasRevisions (state n0 h) c'.revs) (sym es) (subst (HasRevisions (next_state n0 m e)) (sym has.revs) (revs-arrived (delivered n0 m) (next_state n0 m e) k rev x c.revs new is.revs));
      pending = edits.pending;
      outbox = edits.outbox;
      nothing = has.nothing ∙ is.nothing;
      apart = edits.apart;
      fits = subst (λ h. (j : ℕ) (p : Pending) → pending_of j m'.pending ≡ Some p → FitsHere (state n0 h) j p) (sym es) fits;
      texts = subst (λ h. HaveServerTexts (state n0 h).book c'.pending) (sym es) (subst (λ n. HaveServerTexts n c'.pending) (sym new.book) texts);
      notebook = subst (λ h. IsNotebook (state n0 h).book) (sym es) (subst IsNotebook (sym new.book) (IsNotebook-resourced (moved_source k x) (delivered n0 m).book is.notebook));
      made = subst (λ h. TouchesMadeCells (state n0 h)) (sym es) (made-arrived (delivered n0 m) (next_state n0 m e) k rev x new is.notebook is.made);
    }

-- the own delta came back: what was buffered is in flight, unless it is empty
abbrev back_option : ℕ → List Step → Option Pending
back_option k [] = None
back_option k (s ∷ b) = Some (record { cell = k; flight = s ∷ b; buffer = [] })

back-there : (m : Holder) (k rev : ℕ) (b : List Step) → pending_of k (reposted m k rev b).pending ≡ back_option k b
back-there m k rev [] = without-same k m.pending
back-there m k rev (s ∷ b) = pending-added k (without k m.pending) (record { cell = k; flight = s ∷ b; buffer = [] }) (without-same k m.pending) refl

back-beside : (m : Holder) (k rev j : ℕ) (b : List Step) → (k == j) ≡ false → pending_of j (reposted m k rev b).pending ≡ pending_of j m.pending
back-beside m k rev j [] ne = without-other k j m.pending ne
back-beside m k rev j (s ∷ b) ne = pending-beside j (without k m.pending) (record { cell = k; flight = s ∷ b; buffer = [] }) ne ∙ without-other k j m.pending ne

back-number : (m : Holder) (k rev : ℕ) (b : List Step) → (reposted m k rev b).number ≡ m.number
back-number m k rev [] = refl
back-number m k rev (s ∷ b) = refl

back-seen : (m : Holder) (k rev : ℕ) (b : List Step) → (reposted m k rev b).seen ≡ m.seen
back-seen m k rev [] = refl
back-seen m k rev (s ∷ b) = refl

back-text : (k : ℕ) (b : List Step) (u : List ℕ) → with_pending (back_option k b) u ≡ after_buffer b u
back-text k [] u = refl
back-text k (s ∷ b) u = refl

back-fits : (k : ℕ) (b : List Step) (u : List ℕ) (q : Pending) → FitsText b u → back_option k b ≡ Some q → FitsText q.flight u × FitsText q.buffer (text_after q.flight u)
back-fits k [] u q f e = absurd (cc e)
back-fits k (s ∷ b) u q f e =
    let same : record { cell = k; flight = s ∷ b; buffer = [] } ≡ q = cc e in
    subst (λ (r : Pending). FitsText r.flight u × FitsText r.buffer (text_after r.flight u)) same (f, delta_laws.nothing.fits (text_after (s ∷ b) u))

-- the own text stays
own-text : (m : Holder) (k rev : ℕ) (x : List Step) (p : Pending) (y : Cell) → pending_of k m.pending ≡ Some p → x ≡ p.flight → own_source m.pending y ≡ own_source (reposted m k rev p.buffer).pending (resourced_cell (moved_source k x) y)
own-text m k rev x p y e same =
    let new : List Pending = (reposted m k rev p.buffer).pending in
    elim (y.id == k)
    as (λ b. (y.id == k) ≡ b → with_pending (pending_of y.id m.pending) y.source ≡ with_pending (pending_of y.id new) (moved_source k x y)) [
      | true ↦ λ t. let at : y.id ≡ k = eqb-true y.id k t in
          let left : with_pending (pending_of y.id m.pending) y.source ≡ after_buffer p.buffer (text_after p.flight y.source) = ap (λ i. with_pending (pending_of i m.pending) y.source) at ∙ ap (λ o. with_pending o y.source) e in
          let right : with_pending (pending_of y.id new) (moved_source k x y) ≡ after_buffer p.buffer (text_after x y.source) =
          ap (λ i. with_pending (pending_of i new) (moved_source k x y)) at ∙ (ap (λ o. with_pending o (moved_source k x y)) (back-there m k rev p.buffer) ∙ (back-text k p.buffer (moved_source k x y) ∙ ap (after_buffer p.buffer) (source-moved x k y true t))) in
          left ∙ (ap (λ d. after_buffer p.buffer (text_after d y.source)) (sym same) ∙ sym right)
      | false ↦ λ t. let ne : (k == y.id) ≡ false = grind (arith, nat_tests, t) in
          sym (ap (λ o. with_pending o (moved_source k x y)) (back-beside m k rev y.id p.buffer ne) ∙ ap (with_pending (pending_of y.id m.pending)) (source-moved x k y false t))
    ]
    refl

own-book : (s t : State) (m : Holder) (k rev : ℕ) (x : List Step) (p : Pending) → IsArrived s t k rev x → pending_of k m.pending ≡ Some p → x ≡ p.flight → resourced (own_source m.pending) s.book ≡ resourced (own_source (reposted m k rev p.buffer).pending) t.book
own-book s t m k rev x p is e same =
    let g : Cell → List ℕ = own_source (reposted m k rev p.buffer).pending in
    same-each (own_source m.pending) (λ y. g (resourced_cell (moved_source k x) y)) s.book (λ y. own-text m k rev x p y e same)
    ∙ (sym (fused (moved_source k x) g s.book) ∙ ap (resourced g) (sym is.book))

own-fits : (s t : State) (m : Holder) (k rev : ℕ) (x : List Step) (p : Pending) → (is : IsArrived s t k rev x) → pending_of k m.pending ≡ Some p → x ≡ p.flight → FitsOver is.taken.own.source (Some p) → ((j : ℕ) (q : Pending) → pending_of j m.pending ≡ Some q → FitsHere s j q)
    → (j : ℕ) (q : Pending) → pending_of j (reposted m k rev p.buffer).pending ≡ Some q → FitsHere t j q
own-fits s t m k rev x p is e same over old =
    let src : List ℕ = is.taken.own.source in
    let fb : FitsText p.buffer (text_after x src) = subst (λ d. FitsText p.buffer (text_after d src)) (sym same) over.1 in
    fits-either t (reposted m k rev p.buffer).pending k
    (λ q at. let f = back-fits k p.buffer (text_after x src) q fb (sym (back-there m k rev p.buffer) ∙ at) in
    record { source = text_after x src; there = cell-source s t k rev x is; flight = f.0; buffer = f.1 })
    (λ j q ne at. beside-fits s t k rev j x q is ne (old j q (sym (back-beside m k rev j p.buffer ne) ∙ at)))

-- what is in flight is what came back
flight-of : (m : Holder) (did : Deed) (a : CellEdit) → did ≡ Edits a → a.client ≡ m.number → IsOwnFlight m did → (p : Pending) × ((pending_of a.cell m.pending ≡ Some p) × (a.delta ≡ p.flight))
flight-of m did a came mine own = (subst (IsOwnFlight m) came own) mine

received-of : (n0 : Parts) (m : Holder) (e : Entry) (a : CellEdit) → deed e.call e.reply ≡ Edits a → received_entry n0 m e ≡ (if a.client == m.number then with_own (seen_more m e) a.cell a.rev (pending_of a.cell m.pending) else record (seen_more m e) { pending = all_moved a.cell a.delta m.pending })
received-of n0 m e a by = ap (with_deed (delivered n0 m).book (seen_more m e)) by

-- the client's own delta came back
pub own-mirrors : (n0 : Parts) (c c' : Client) (m : Holder) (e : Entry) (a : CellEdit) → Mirrors n0 c m → IsNextEntry n0 m e → deed e.call e.reply ≡ Edits a → a.client ≡ c.number
    → HasEdits c'.pending c'.outbox (with_own (seen_more m e) a.cell a.rev (pending_of a.cell m.pending))
    → ((p : Pending) → pending_of a.cell m.pending ≡ Some p → FitsCell (delivered n0 m).book a.cell p.flight → HaveServerTexts (book_after a.cell p.flight (delivered n0 m).book) c'.pending) → c' ≡ record c { revs = raised a.cell a.rev c.revs; pending = c'.pending; outbox = c'.outbox } → Mirrors n0 (record c' { cursor = length m.seen + 1 }) (received_entry n0 m e)
own-mirrors n0 c c' m e a is next by mine edits texts rest =
    let s : State = delivered n0 m in
    let t : State = next_state n0 m e in
    let new : IsArrived s t a.cell a.rev a.delta = arrived n0 m e a by next in
    let me : a.client ≡ m.number = mine ∙ is.number in
    let f : (p : Pending) × ((pending_of a.cell m.pending ≡ Some p) × (a.delta ≡ p.flight)) = flight-of m (deed e.call e.reply) a by me next.own in
    let m' : Holder = reposted (seen_more m e) a.cell a.rev f.0.buffer in
    let some : with_own (seen_more m e) a.cell a.rev (pending_of a.cell m.pending) ≡ m' = ap (with_own (seen_more m e) a.cell a.rev) f.1.0 in
    let received : received_entry n0 m e ≡ m' = received-of n0 m e a by ∙ (ap (λ b. if b then with_own (seen_more m e) a.cell a.rev (pending_of a.cell m.pending) else record (seen_more m e) { pending = all_moved a.cell a.delta m.pending }) (eq-eqb a.client m.number me) ∙ some) in
    let over : FitsOver new.taken.own.source (Some f.0) = subst (FitsOver new.taken.own.source) f.1.0 (fits-over n0 c m a.cell new.taken.own is new.taken.there) in
    subst (Mirrors n0 (record c' { cursor = length m.seen + 1 })) (sym received)
    (arrived-mirrors n0 c c' m m' e a.cell a.rev a.delta is new (back-number (seen_more m e) a.cell a.rev f.0.buffer) (back-seen (seen_more m e) a.cell a.rev f.0.buffer)
    (record { number = ap (λ (x : Client). x.number) rest; revs = ap (λ (x : Client). x.revs) rest; nothing = ap (λ (x : Client). x.nothing) rest })
    (subst (HasEdits c'.pending c'.outbox) some edits)
    (subst (λ x. HaveServerTexts (book_after a.cell x s.book) c'.pending) (sym f.1.1) (texts f.0 f.1.0 (record { own = new.taken.own; there = new.taken.there; fits = over.0 })))
    (ap (λ (x : Client). x.book) rest ∙ (is.book ∙ own-book s t (seen_more m e) a.cell a.rev a.delta f.0 new f.1.0 f.1.1))
    (own-fits s t (seen_more m e) a.cell a.rev a.delta f.0 new f.1.0 f.1.1 over is.fits))

-- another's delta, over what may be pending
record IsOver (x : List Step) (o : Option Pending) (t : List ℕ) : Type 0 where
  shown : FitsText (over_option x o) (with_pending o t)
  text : with_pending (shifted_option x o) (text_after x t) ≡ text_after (over_option x o) (with_pending o t)
  after : FitsOver (text_after x t) (shifted_option x o)

over-of : (x : List Step) (o : Option Pending) (t : List ℕ) → FitsText x t → FitsOver t o → IsOver x o t
over-of x None t fx h = record { shown = fx; text = refl; after = tt }
over-of x (Some p) t fx h =
    let i : IsShifted x p t = shift-fits x p t fx h.0 h.1 in
    record { shown = i.shown; text = i.text; after = (i.flight, i.buffer) }

-- the cell of the client's own that another's delta is for
pub record IsForeign (n0 : Parts) (c : Client) (m : Holder) (k : ℕ) (x : List Step) : Type 0 where
  pub own : Cell
  pub there : found k (cells c.book) ≡ Some own
  pub fits : FitsText (over_option x (pending_of k m.pending)) own.source
  pub source : (cell : Cell) → found k (cells (delivered n0 m).book) ≡ Some cell → own.source ≡ with_pending (pending_of k m.pending) cell.source

pub fits-cell : (n0 : Parts) (m : Holder) (e : Entry) (a : CellEdit) → IsNextEntry n0 m e → deed e.call e.reply ≡ Edits a → FitsCell (delivered n0 m).book a.cell a.delta
fits-cell n0 m e a next by =
    let taken : IsTaken (delivered n0 m) a.cell a.rev a.delta = (arrived n0 m e a by next).taken in
    record { own = taken.own; there = taken.there; fits = taken.fits }

foreign-over : (n0 : Parts) (c : Client) (m : Holder) (e : Entry) (a : CellEdit) → Mirrors n0 c m → (new : IsArrived (delivered n0 m) (next_state n0 m e) a.cell a.rev a.delta) → IsOver a.delta (pending_of a.cell m.pending) new.taken.own.source
foreign-over n0 c m e a is new = over-of a.delta (pending_of a.cell m.pending) new.taken.own.source new.taken.fits (fits-over n0 c m a.cell new.taken.own is new.taken.there)

pub is-foreign : (n0 : Parts) (c : Client) (m : Holder) (e : Entry) (a : CellEdit) → Mirrors n0 c m → IsNextEntry n0 m e → deed e.call e.reply ≡ Edits a → IsForeign n0 c m a.cell a.delta
is-foreign n0 c m e a is next by =
    let new : IsArrived (delivered n0 m) (next_state n0 m e) a.cell a.rev a.delta = arrived n0 m e a by next in
    let cell : Cell = new.taken.own in
    let o : Option Pending = pending_of a.cell m.pending in
    let number : cell.id ≡ a.cell = found-number a.cell (cells (delivered n0 m).book) cell new.taken.there in
    let source : with_pending (pending_of cell.id m.pending) cell.source ≡ with_pending o cell.source = ap (λ i. with_pending (pending_of i m.pending) cell.source) number in
    record {
      own = resourced_cell (own_source m.pending) cell;
      there = found-held n0 c m a.cell is ∙ ap (option_map (resourced_cell (own_source m.pending))) new.taken.there;
      fits = subst (FitsText (over_option a.delta o)) (sym source) (foreign-over n0 c m e a is new).shown;
      source = λ other there. let same : cell ≡ other = cc (new.taken.there, there) in source ∙ ap (λ (y : Cell). with_pending o y.source) same;
    }

foreign-book : (s t : State) (m : Holder) (k rev : ℕ) (x : List Step) (text : List ℕ) → (is : IsArrived s t k rev x) → AreDistinct (map cell_number (cells s.book)) → with_pending (shifted_option x (pending_of k m.pending)) (text_after x is.taken.own.source) ≡ text → with_source k text (resourced (own_source m.pending) s.book) ≡ resourced (own_source (all_moved k x m.pending)) t.book
foreign-book s t m k rev x text is apart e =
    let cell : Cell = is.taken.own in
    let new : List Pending = all_moved k x m.pending in
    let number : cell.id ≡ k = found-number k (cells s.book) cell is.taken.there in
    let here : own_source new (resourced_cell (moved_source k x) cell) ≡ text =
    ap (λ i. with_pending (pending_of i new) (moved_source k x cell)) number
    ∙ (ap (λ o. with_pending o (moved_source k x cell)) (shifted-same k x m.pending) ∙ (ap (with_pending (shifted_option x (pending_of k m.pending))) (source-moved x k cell true (eq-eqb cell.id k number)) ∙ e)) in
    with-one-source (own_source m.pending) (λ y. own_source new (resourced_cell (moved_source k x) y)) s.book k text cell apart is.taken.there here
    (λ y ne. ap (λ o. with_pending o (moved_source k x y)) (shifted-other k y.id x m.pending (grind (arith, nat_tests, ne))) ∙ ap (with_pending (pending_of y.id m.pending)) (source-moved x k y false ne))
    ∙ (sym (fused (moved_source k x) (own_source new) s.book) ∙ ap (resourced (own_source new)) (sym is.book))

foreign-fits : (s t : State) (m : Holder) (k rev : ℕ) (x : List Step) → (is : IsArrived s t k rev x) → FitsOver (text_after x is.taken.own.source) (shifted_option x (pending_of k m.pending)) → ((j : ℕ) (q : Pending) → pending_of j m.pending ≡ Some q → FitsHere s j q)
    → (j : ℕ) (q : Pending) → pending_of j (all_moved k x m.pending) ≡ Some q → FitsHere t j q
foreign-fits s t m k rev x is over old =
    fits-either t (all_moved k x m.pending) k
    (λ q at. let f = subst (FitsOver (text_after x is.taken.own.source)) (sym (shifted-same k x m.pending) ∙ at) over in
    record { source = text_after x is.taken.own.source; there = cell-source s t k rev x is; flight = f.0; buffer = f.1 })
    (λ j q ne at. beside-fits s t k rev j x q is ne (old j q (sym (shifted-other k j x m.pending ne) ∙ at)))

-- another's delta was applied
pub foreign-mirrors : (n0 : Parts) (c c' : Client) (m : Holder) (e : Entry) (a : CellEdit) → Mirrors n0 c m → IsNextEntry n0 m e → deed e.call e.reply ≡ Edits a → a.client ≢ c.number → (f : IsForeign n0 c m a.cell a.delta)
    → IsMovedOver (delivered n0 m).book c c' m a.cell a.rev a.delta → Mirrors n0 (record c' { cursor = length m.seen + 1 }) (received_entry n0 m e)
foreign-mirrors n0 c c' m e a is next by other f moved =
    let s : State = delivered n0 m in
    let t : State = next_state n0 m e in
    let o : Option Pending = pending_of a.cell m.pending in
    let rules : IsNotebook c.book = subst IsNotebook (sym is.book) (IsNotebook-resourced (own_source m.pending) s.book is.notebook) in
    let new : IsArrived s t a.cell a.rev a.delta = arrived n0 m e a by next in
    let over : IsOver a.delta o new.taken.own.source = foreign-over n0 c m e a is new in
    let m' : Holder = record (seen_more m e) { pending = all_moved a.cell a.delta m.pending } in
    let apart : (a.client == m.number) ≡ false = ne_eqb a.client m.number (λ w. other (w ∙ sym is.number)) in
    let received : received_entry n0 m e ≡ m' = received-of n0 m e a by ∙ ap (λ b. if b then with_own (seen_more m e) a.cell a.rev o else m') apart in
    let text : with_pending (shifted_option a.delta o) (text_after a.delta new.taken.own.source) ≡ text_after (over_option a.delta o) f.own.source = over.text ∙ ap (text_after (over_option a.delta o)) (sym (f.source new.taken.own new.taken.there)) in
    subst (Mirrors n0 (record c' { cursor = length m.seen + 1 })) (sym received)
    (arrived-mirrors n0 c c' m m' e a.cell a.rev a.delta is new refl refl
    (record { number = ap (λ (x : Client). x.number) moved.same; revs = ap (λ (x : Client). x.revs) moved.same; nothing = ap (λ (x : Client). x.nothing) moved.same })
    (record { pending = moved.edits.pending; outbox = moved.edits.outbox; apart = moved.edits.apart })
    moved.texts
    (ap (λ (x : Client). x.book) moved.same ∙ moved-one c.book a.cell (over_option a.delta o) f.own rules f.there ∙ (ap (with_source a.cell (text_after (over_option a.delta o) f.own.source)) is.book ∙ foreign-book s t m a.cell a.rev a.delta (text_after (over_option a.delta o) f.own.source) new (live-apart s.book is.notebook) text))
    (foreign-fits s t m a.cell a.rev a.delta new over.after is.fits))
