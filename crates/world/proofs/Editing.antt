-- A client that edits goes on standing as it should.
use Rattle.std.proofs.Common.{◌≡◌, ◌≢◌, ℕ, ◌≤◌, ◌==◌, true, false, if◌then◌else◌, List, [], ◌∷◌, ◌++◌, Option, Some, None, refl, sym, ap, subst, ◌∙◌, arith}
use Rattle.std.specs.Prelude.{nat_lt}
use Rattle.std.specs.Option.{option_map}
use Rattle.std.proofs.lemmas.Bool.{eqb-true}
use Rattle.std.proofs.lemmas.Bool.Decides.{nat_tests}
use Rattle.std.proofs.lemmas.List.{append-nil}
use Rattle.delta.specs.declared.Step.{Step}
use Rattle.delta.specs.Steps.{inserted_by}
use Rattle.delta.specs.Moves.{FitsText, text_after, composed}
use Rattle.delta_laws.proofs.Laws.{delta_laws}
use Rattle.notebook.specs.declared.parts.Cell.{Cell}
use Rattle.notebook.specs.declared.parts.Parts.{Parts}
use Rattle.notebook.specs.Book.{cells, found, resourced_cell, resourced}
use Rattle.notebook.proofs.Sources.{found-resourced}
use Rattle.session_ops.specs.declared.entry.Op.{Op}
use Rattle.session_ops.specs.declared.entry.Op.TheVariants.{Delta, Report}
use Rattle.session_ops.specs.declared.entry.Entry.{Entry}
use Rattle.session_ops.specs.Numbers.{is_in}
use Rattle.session_ops.specs.State.{State, Misfit, state, revision, misfit}
use Rattle.client_sync.specs.Client.{Client, Pending, Edited, Done, NoCell, EditTooLong, Unfit, pending_of, after_buffer, with_pending, own_source, delivered, held, edited, edited_cell, with_fitting, with_edit, buffered, with_report, reported, with_message}
use Rattle.session_ops.specs.Structure.{is_postable}
use Rattle.world.specs.Applied.{HasNotLeft}
use Rattle.client_sync.specs.Fits.{HasSource, FitsHere}
use Rattle.world.specs.Waiting.{messages_for, IsKeptLive, IsKept, HasLived, HasNoPassage, IsHonest}
use Rattle.session_ops.proofs.Live.{found-number}
use Rattle.world.proofs.Moving.{found-with, one-source, fits-from}
use Rattle.world.proofs.Keeping.{kept-ops, live-from, live-kept}
use Rattle.world.proofs.Outboxes.{here-lived, lived-added, edit-of, message-honest, kept-reported, report-of, postable-silent, postable-stays, passage-added}
use Rattle.world.proofs.Pendings.{pending-added, pending-beside, messages-append, edit-beside}
use Rattle.world.proofs.Receiving.{posted-kept}

abbrev pub with_buffer : List Step → Pending → Pending
with_buffer d p = record p { buffer = composed p.buffer d }

abbrev buffer_option : List Step → Option Pending → Option Pending
buffer_option d None = None
buffer_option d (Some p) = Some (with_buffer d p)

buffered-same : (j : ℕ) (d : List Step) (ps : List Pending) → pending_of j (buffered j d ps) ≡ buffer_option d (pending_of j ps)
buffered-same j d [] = refl
buffered-same j d (p ∷ ps) =
    elim (p.cell == j)
    as (λ b. (p.cell == j) ≡ b → (if (if b then with_buffer d p else p).cell == j then Some (if b then with_buffer d p else p) else pending_of j (buffered j d ps)) ≡ buffer_option d (if b then Some p else pending_of j ps)) [
      | true ↦ λ t. ap (λ c. if c then Some (with_buffer d p) else pending_of j (buffered j d ps)) t
      | false ↦ λ t. ap (λ c. if c then Some p else pending_of j (buffered j d ps)) t ∙ buffered-same j d ps
    ]
    refl

buffered-other : (j k : ℕ) (d : List Step) (ps : List Pending) → (j == k) ≡ false → pending_of k (buffered j d ps) ≡ pending_of k ps
buffered-other j k d [] ne = refl
buffered-other j k d (p ∷ ps) ne =
    elim (p.cell == j)
    as (λ b. (p.cell == j) ≡ b → (if (if b then with_buffer d p else p).cell == k then Some (if b then with_buffer d p else p) else pending_of k (buffered j d ps)) ≡ (if p.cell == k then Some p else pending_of k ps)) [
      | true ↦ λ t. let no : (p.cell == k) ≡ false = grind (arith, nat_tests, t, ne) in
          ap (λ c. if c then Some (with_buffer d p) else pending_of k (buffered j d ps)) no ∙ (buffered-other j k d ps ne ∙ sym (ap (λ c. if c then Some p else pending_of k ps) no))
      | false ↦ λ t. ap (λ r. if p.cell == k then Some p else r) (buffered-other j k d ps ne)
    ]
    refl

pub buffer-text : (b : List Step) (flight : List Step) (t : List ℕ) → text_after b (text_after flight t) ≡ after_buffer b (text_after flight t)
buffer-text [] flight t = delta_laws.nothing.text (text_after flight t) (delta_laws.makes_text flight t)
buffer-text (s ∷ b) flight t = refl

fits-buffered : (s : State) (j : ℕ) (d : List Step) (p : Pending) (t : List ℕ) → HasSource s.book j t → FitsText d (after_buffer p.buffer (text_after p.flight t)) → FitsHere s j p → (own : Cell) → found j (cells s.book) ≡ Some own → own.source ≡ t → FitsHere s j (with_buffer d p)
fits-buffered s j d p t there f fits own is source =
    let same : t ≡ fits.source = sym source ∙ one-source s.book j fits.source own fits.there is in
    let after : FitsText d (text_after p.buffer (text_after p.flight fits.source)) = subst (FitsText d) (sym (buffer-text p.buffer p.flight fits.source)) (subst (λ u. FitsText d (after_buffer p.buffer (text_after p.flight u))) same f) in
    record { source = fits.source; there = fits.there; flight = fits.flight; buffer = (delta_laws.one_after_the_other p.buffer d (text_after p.flight fits.source) fits.buffer after).fits }

kept-buffered : (s : State) (later : List Entry) (n j : ℕ) (ops : List Op) (d : List Step) (p : Pending) (t : List ℕ) → (there : HasSource s.book j t) → FitsText d (after_buffer p.buffer (text_after p.flight t)) → IsKeptLive s later n j ops (Some p) → IsKeptLive s later n j ops (Some (with_buffer d p))
kept-buffered s later n j ops d p t there f (fits, way) = (fits-buffered s j d p t there f fits there.own there.there there.source, way)

edit-same : (s : State) (later : List Entry) (c : Client) (j rev : ℕ) (d : List Step) (t : List ℕ) (o : Option Pending) → pending_of j c.pending ≡ o → rev ≡ revision s j → HasSource s.book j t → FitsText d (with_pending o t) → IsKeptLive s later c.number j c.outbox o → IsKeptLive s later c.number j (with_edit c j rev d o).outbox (pending_of j (with_edit c j rev d o).pending)
edit-same s later c j rev d t None e is there f kept =
    subst (IsKeptLive s later c.number j (c.outbox ++ Delta j rev d ∷ [])) (sym (pending-added j c.pending (record { cell = j; flight = d; buffer = [] }) e refl)) (posted-kept s later c.number j rev c.outbox d t is there f kept)
edit-same s later c j rev d t (Some p) e is there f kept =
    subst (IsKeptLive s later c.number j c.outbox) (sym (buffered-same j d c.pending ∙ ap (buffer_option d) e)) (kept-buffered s later c.number j c.outbox d p t there f kept)

edit-other : (s : State) (later : List Entry) (c : Client) (j rev k : ℕ) (d : List Step) (o : Option Pending) (own : Option Cell) → (j == k) ≡ false → IsKept s later c.number k c.outbox own (pending_of k c.pending) → IsKept s later c.number k (with_edit c j rev d o).outbox own (pending_of k (with_edit c j rev d o).pending)
edit-other s later c j rev k d None own ne kept =
    let q : Pending = record { cell = j; flight = d; buffer = [] } in
    let ops : List Op = c.outbox ++ Delta j rev d ∷ [] in
    let same : messages_for k ops ≡ messages_for k c.outbox = messages-append k c.outbox (Delta j rev d ∷ []) ∙ (ap (λ ms. messages_for k c.outbox ++ (ms ++ [])) (edit-beside j k rev d ne) ∙ append-nil (messages_for k c.outbox)) in
    subst (IsKept s later c.number k ops own) (sym (pending-beside k c.pending q ne)) (kept-ops s later c.number k c.outbox ops own (pending_of k c.pending) same kept)
edit-other s later c j rev k d (Some p) own ne kept = subst (IsKept s later c.number k c.outbox own) (sym (buffered-other j k d c.pending ne)) kept

edit-kept : (s : State) (later : List Entry) (c : Client) (j rev : ℕ) (d : List Step) (t : List ℕ) → rev ≡ revision s j → HasSource s.book j t → FitsText d (with_pending (pending_of j c.pending) t) → ((k : ℕ) → IsKept s later c.number k c.outbox (found k (cells s.book)) (pending_of k c.pending)) → (k : ℕ) → IsKept s later c.number k (with_edit c j rev d (pending_of j c.pending)).outbox (found k (cells s.book)) (pending_of k (with_edit c j rev d (pending_of j c.pending)).pending)
edit-kept s later c j rev d t is there f kept k =
    let x : Client = with_edit c j rev d (pending_of j c.pending) in
    elim (j == k)
    as (λ b. (j == k) ≡ b → IsKept s later c.number k x.outbox (found k (cells s.book)) (pending_of k x.pending)) [
      | true ↦ λ e. subst (λ i. IsKept s later c.number i x.outbox (found i (cells s.book)) (pending_of i x.pending)) (eqb-true j k e)
          (live-kept s later c.number j x.outbox (pending_of j x.pending) t there (edit-same s later c j rev d t (pending_of j c.pending) refl is there f (live-from s later c.number j c.outbox (pending_of j c.pending) t there (kept j))))
      | false ↦ λ e. edit-other s later c j rev k d (pending_of j c.pending) (found k (cells s.book)) e (kept k)
    ]
    refl

edit-number : (c : Client) (j rev : ℕ) (d : List Step) (o : Option Pending) → (with_edit c j rev d o).number ≡ c.number
edit-number c j rev d None = refl
edit-number c j rev d (Some p) = refl

edit-seen : (c : Client) (j rev : ℕ) (d : List Step) (o : Option Pending) → (with_edit c j rev d o).seen ≡ c.seen
edit-seen c j rev d None = refl
edit-seen c j rev d (Some p) = refl

edit-lived : (n0 : Parts) (c : Client) (j rev k : ℕ) (d : List Step) (o : Option Pending) → HasLived n0 c.seen j → (messages_for k c.outbox ≢ [] → HasLived n0 c.seen k) → messages_for k (with_edit c j rev d o).outbox ≢ [] → HasLived n0 c.seen k
edit-lived n0 c j rev k d None l before ne = lived-added n0 c.seen k c.outbox (Delta j rev d) before (edit-of n0 c.seen j k rev d l) ne
edit-lived n0 c j rev k d (Some p) l before ne = before ne

edit-stays : (c : Client) (j rev : ℕ) (d : List Step) (o : Option Pending) → HasNoPassage c.outbox → HasNoPassage (with_edit c j rev d o).outbox
edit-stays c j rev d None all = passage-added c.outbox (Delta j rev d) refl all
edit-stays c j rev d (Some p) all = all

edit-honest : (n0 : Parts) (h : List Entry) (c : Client) (j : ℕ) (d : List Step) (t : List ℕ) → HasSource (state n0 c.seen).book j t → FitsText d (with_pending (pending_of j c.pending) t) → IsHonest n0 h c → IsHonest n0 h (with_edit c j (revision (state n0 c.seen) j) d (pending_of j c.pending))
edit-honest n0 h c j d t there f honest =
    let rev : ℕ = revision (state n0 c.seen) j in
    let x : Client = with_edit c j rev d (pending_of j c.pending) in
    let seen : x.seen ≡ c.seen = edit-seen c j rev d (pending_of j c.pending) in
    let number : x.number ≡ c.number = edit-number c j rev d (pending_of j c.pending) in
    record {
      later = honest.later;
      behind = honest.behind ∙ ap (λ es. es ++ honest.later) (sym seen);
      since = subst (λ es. is_in x.number (state n0 es).joined ≡ true) (sym seen) (subst (λ n. is_in n (state n0 c.seen).joined ≡ true) (sym number) honest.since);
      stays = subst (λ n. HasNotLeft n honest.later) (sym number) honest.stays;
      kept = λ k. subst (λ es. IsKept (state n0 es) honest.later x.number k x.outbox (found k (cells (state n0 es).book)) (pending_of k x.pending)) (sym seen) (subst (λ n. IsKept (state n0 c.seen) honest.later n k x.outbox (found k (cells (state n0 c.seen).book)) (pending_of k x.pending)) (sym number) (edit-kept (state n0 c.seen) honest.later c j rev d t refl there f honest.kept k));
      lived = λ k ne. subst (λ es. HasLived n0 es k) (sym seen) (edit-lived n0 c j rev k d (pending_of j c.pending) (here-lived n0 c.seen j there.own there.there) (honest.lived k) ne);
      no_passage = edit-stays c j rev d (pending_of j c.pending) honest.no_passage;
    }

-- the client that an edit leaves stands as it should
abbrev StandsOn : Parts → List Entry → Edited → Type 0
StandsOn n0 h (Done c) = IsHonest n0 h c
StandsOn n0 h NoCell = Unit {0}
StandsOn n0 h EditTooLong = Unit {0}
StandsOn n0 h (Unfit why) = Unit {0}

-- the source that a cell of the client's own stands for
pub record IsOwnCell (n : Parts) (ps : List Pending) (j : ℕ) (own : Cell) : Type 0 where
  pub text : List ℕ
  pub there : HasSource n j text
  pub source : own.source ≡ with_pending (pending_of j ps) text

own-from : (n : Parts) (ps : List Pending) (j : ℕ) (own : Cell) (o : Option Cell) → found j (cells n) ≡ o → found j (cells (resourced (own_source ps) n)) ≡ Some own → IsOwnCell n ps j own
own-from n ps j own None e is = let wrong : Some own ≡ None = sym is ∙ (found-resourced (own_source ps) j n ∙ ap (option_map (resourced_cell (own_source ps))) e) in absurd (cc wrong)
own-from n ps j own (Some c) e is =
    let same : resourced_cell (own_source ps) c ≡ own = let both : Some (resourced_cell (own_source ps) c) ≡ Some own = sym (found-with (own_source ps) j c n e) ∙ is in cc both in
    record { text = c.source; there = record { own = c; there = e; source = refl }; source = sym (ap (λ x. x.source) same) ∙ ap (λ i. with_pending (pending_of i ps) c.source) (found-number j (cells n) c e) }

fitting-honest : (n0 : Parts) (h : List Entry) (c : Client) (j : ℕ) (d : List Step) (own : Cell) (why : Option Misfit) → found j (cells (held n0 c)) ≡ Some own → misfit d own.source ≡ why → IsHonest n0 h c → StandsOn n0 h (with_fitting c j (revision (delivered n0 c) j) d why)
fitting-honest n0 h c j [] own None is e honest = honest
fitting-honest n0 h c j (s ∷ d) own None is e honest =
    let mine : IsOwnCell (state n0 c.seen).book c.pending j own = own-from (state n0 c.seen).book c.pending j own (found j (cells (state n0 c.seen).book)) refl is in
    edit-honest n0 h c j (s ∷ d) mine.text mine.there (subst (FitsText (s ∷ d)) mine.source (fits-from (s ∷ d) own.source e)) honest
fitting-honest n0 h c j d own (Some why) is e honest = tt

cell-honest : (n0 : Parts) (h : List Entry) (c : Client) (j : ℕ) (d : List Step) (o : Option Cell) → found j (cells (held n0 c)) ≡ o → IsHonest n0 h c → StandsOn n0 h (edited_cell c j (revision (delivered n0 c) j) d o)
cell-honest n0 h c j d None is honest = tt
cell-honest n0 h c j d (Some own) is honest =
    elim (nat_lt 65536 (inserted_by d))
    as (λ b. StandsOn n0 h (if b then EditTooLong else with_fitting c j (revision (delivered n0 c) j) d (misfit d own.source)))
    [ true ↦ tt | false ↦ fitting-honest n0 h c j d own (misfit d own.source) is refl honest ]

pub edited-honest : (n0 : Parts) (h : List Entry) (c x : Client) (j : ℕ) (d : List Step) → edited n0 c j d ≡ Done x → IsHonest n0 h c → IsHonest n0 h x
edited-honest n0 h c x j d e honest = subst (StandsOn n0 h) e (cell-honest n0 h c j d (found j (cells (held n0 c))) refl honest)

-- a client that reports goes on so too
reported-from : (n0 : Parts) (h : List Entry) (c x : Client) (j : ℕ) (o : Option Cell) → found j (cells (held n0 c)) ≡ o → with_report c j (revision (delivered n0 c) j) o ≡ Some x → IsHonest n0 h c → IsHonest n0 h x
reported-from n0 h c x j None is e honest = absurd (cc e)
reported-from n0 h c x j (Some own) is e honest =
    let rev : ℕ = revision (state n0 c.seen) j in
    let same : with_message c (Report j rev) ≡ x = cc e in
    let mine : IsOwnCell (state n0 c.seen).book c.pending j own = own-from (state n0 c.seen).book c.pending j own (found j (cells (state n0 c.seen).book)) refl is in
    let le : rev ≤ revision (state n0 c.seen) j = omega arith in
    subst (IsHonest n0 h) same
    (message-honest n0 h c (Report j rev) honest refl (λ k ne. report-of n0 c.seen j k rev (here-lived n0 c.seen j mine.there.own mine.there.there) ne)
    (λ k. kept-reported (state n0 c.seen) honest.later c.number j rev k c.outbox mine.there.own (λ i. pending_of i c.pending) mine.there.there le honest.kept))

pub reported-honest : (n0 : Parts) (h : List Entry) (c x : Client) (j : ℕ) → reported n0 c j ≡ Some x → IsHonest n0 h c → IsHonest n0 h x
reported-honest n0 h c x j e honest = reported-from n0 h c x j (found j (cells (held n0 c))) refl e honest

-- and one that posts
pub posted-honest : (n0 : Parts) (h : List Entry) (c : Client) (op : Op) → is_postable op ≡ true → IsHonest n0 h c → IsHonest n0 h (with_message c op)
posted-honest n0 h c op e honest =
    message-honest n0 h c op honest (postable-stays op e) (λ k ne. absurd (ne (postable-silent k op e)))
    (λ k. kept-ops (state n0 c.seen) honest.later c.number k c.outbox (c.outbox ++ op ∷ []) (found k (cells (state n0 c.seen).book)) (pending_of k c.pending) (messages-append k c.outbox (op ∷ []) ∙ (ap (λ ms. messages_for k c.outbox ++ (ms ++ [])) (postable-silent k op e) ∙ append-nil (messages_for k c.outbox))) (honest.kept k))
