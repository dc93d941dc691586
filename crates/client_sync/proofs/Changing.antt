-- A client that receives a change of the notebook goes on standing for what the definitions say.
use Rattle.std.proofs.Common.{◌≡◌, ℕ, ◌+◌, ◌<◌, ◌≤◌, ◌==◌, true, false, if◌then◌else◌, List, [], ◌∷◌, ◌++◌, length, map, Option, Some, None, refl, sym, ap, subst, ◌∙◌, arith}
use Rattle.std.specs.Prelude.{is_some}
use Rattle.std.proofs.lemmas.Bool.{eqb-true, eq-eqb}
use Rattle.std.proofs.lemmas.Bool.Decides.{nat_tests}
use Rattle.std.proofs.lemmas.List.{length-append, map-append}
use Rattle.notebook.specs.declared.parts.Cell.{Cell}
use Rattle.notebook.specs.declared.parts.Parts.{Parts}
use Rattle.notebook.specs.declared.change.Change.{Change}
use Rattle.notebook.specs.declared.change.Changed.{Changed}
use Rattle.notebook.specs.declared.change.Changed.TheVariants.{Plain, NewCell, NewSection}
use Rattle.notebook.specs.Book.{cells, found, resourced}
use Rattle.notebook.specs.Change.{Makes, change}
use Rattle.notebook.specs.Living.{gone_cells, made_cells, lives_on, first_or, HaveSourcesOf}
use Rattle.notebook.specs.Rules.{AreDistinct, IsNotebook, cell_number}
use Rattle.notebook.proofs.Keeping.{change-keeps, change-counts}
use Rattle.notebook.proofs.Living.{change-found}
use Rattle.notebook.proofs.Resourcing.{change-resourced}
use Rattle.session_ops.specs.declared.entry.Entry.{Entry}
use Rattle.session_ops.specs.Deeds.{Nothing, Changes, deed}
use Rattle.session_ops.specs.State.{State, after, after_call, once_done, once_made, taken_by, revision}
use Rattle.session_ops.proofs.Deeds.{IsDoneBy, done-by}
use Rattle.session_ops.specs.Snapshot.{HasRevisions, revision_if, listed_revision, listed_cell}
use Rattle.client_sync.specs.Client.{Client as Holder, Pending, pending_of, with_pending, own_source, delivered, without, with_deed, received_entry}
use Rattle.client_sync.specs.Fits.{HasSource, FitsHere}
use Rattle.client_sync.specs.Going.{ArePendingBelow, HasChanged, HasForgotten, IsOver, without_numbers}
use Rattle.client_sync.specs.Revisions.{with_made, without_revisions}
use Rattle.client_sync.specs.Stands.{Mirrors, HaveServerTexts, pending_in}
use Rattle.session_ops.specs.Born.{TouchesMadeCells}
use Rattle.client_sync.specs.declared.client.Client.{Client}
use Rattle.client_sync.specs.declared.pending.Unconfirmed.{Unconfirmed}
use Rattle.client_sync.proofs.Books.{found-below}
use Rattle.client_sync.proofs.Edits.{distinct-added, without-same}
use Rattle.client_sync.proofs.Going.{by-numbers, none-stays, gone-none, others-stay, gone-unlisted, others-listed, listed-apart, absent-listed}
use Rattle.client_sync.proofs.Growing.{state-append}
use Rattle.client_sync.proofs.Made.{IsMadeBy, made-by, unmade}
use Rattle.client_sync.proofs.Receiving.{next_state, seen_more}

-- the numbers of the cells that a change takes away
abbrev pub gone_of : Parts → Change → List ℕ
gone_of n asked = map cell_number (gone_cells n asked)

-- cells whose pending edits were dropped have the server's source
gone-own : (cs : List Cell) (ps : List Pending) → HaveSourcesOf (own_source (without_numbers (map cell_number cs) ps)) cs
gone-own [] ps = tt
gone-own (c ∷ cs) ps = (ap (λ o. with_pending o c.source) (none-stays c.id (map cell_number cs) (without c.id ps) (without-same c.id ps)), gone-own cs (without c.id ps))

-- nothing is pending for a number that isn't given yet
none-yet : (next : ℕ) (ps : List Pending) → ArePendingBelow next ps → pending_of next ps ≡ None
none-yet next ps below =
    elim (pending_of next ps)
    as (λ o. pending_of next ps ≡ o → o ≡ None)
    [ Some p ↦ λ e. absurd (omega (arith, below next p e)) | None ↦ λ e. refl ]
    refl

made-own : (n : Parts) (asked : Change) (made : Changed) (ps : List Pending) → IsMadeBy n asked made → pending_of n.next_cell ps ≡ None → HaveSourcesOf (own_source ps) (made_cells n asked)
made-own n asked Plain ps h none = subst (HaveSourcesOf (own_source ps)) (sym h) tt
made-own n asked (NewSection id) ps h none = subst (HaveSourcesOf (own_source ps)) (sym h) tt
made-own n asked (NewCell id) ps (gone, (next, (c, (only, number)))) none =
    subst (HaveSourcesOf (own_source ps)) (sym only)
    (ap (λ o. with_pending o c.source) (subst (λ i. pending_of i ps ≡ None) (sym (number ∙ next)) none), tt)

-- a client in memory that dropped what was pending and then made the change
pub changed-over : (n n' : Parts) (c d e : Client) (ps : List Pending) (asked : Change) (made : Changed) → IsOver n c ps → ArePendingBelow n.next_cell ps → change n asked ≡ Makes n' made → HasForgotten c d (gone_of n asked)
    → (n2 : Parts) (made2 : Changed) → change d.book asked ≡ Makes n2 made2 → e ≡ record d { book = n2; revs = with_made made2 d.revs } → HasChanged n n' c e (without_numbers (gone_of n asked) ps) (gone_of n asked) made
changed-over n n' c d e ps asked made is below makes forgot n2 made2 makes2 last =
    let gone : List ℕ = gone_of n asked in
    let left : List Pending = without_numbers gone ps in
    let over : IsOver n d left = forgot.over n ps is in
    let none : pending_of n.next_cell left ≡ None = none-stays n.next_cell gone ps (none-yet n.next_cell ps below) in
    let both : Makes n2 made2 ≡ Makes (resourced (own_source left) n') made =
    sym makes2
    ∙ (ap (λ b. change b asked) over.book
    ∙ change-resourced (own_source left) n n' asked made (gone-own (gone_cells n asked) ps) (made-own n asked made left (made-by n n' asked made makes) none) makes) in
    let book : n2 ≡ resourced (own_source left) n' = cc both in
    let same : made2 ≡ made = cc both in
    let revs : e.revs ≡ with_made made2 d.revs = ap (λ (x : Client). x.revs) last in
    let pending : e.pending ≡ d.pending = ap (λ (x : Client). x.pending) last in
    let own : e.book ≡ n2 = ap (λ (x : Client). x.book) last in
    record {
      book = own ∙ book;
      pending = ap (map pending_in) pending ∙ over.pending;
      apart = over.apart;
      texts = subst (HaveServerTexts n) (sym pending) over.texts;
      revs = revs ∙ (ap (λ w. with_made w d.revs) same ∙ ap (with_made made) (ap (λ (x : Client). x.revs) forgot.rest));
      same = last
          ∙ (ap (λ (x : Client). record x { book = n2; revs = with_made made2 d.revs }) forgot.rest
          ∙ (ap (λ b. record c { book = b; revs = with_made made2 d.revs; pending = d.pending }) (sym own)
          ∙ (ap (λ rs. record c { book = e.book; revs = rs; pending = d.pending }) (sym revs)
          ∙ ap (λ us. record c { book = e.book; revs = e.revs; pending = us }) (sym pending))));
    }

-- what is pending is of cells that have a number
pub pending-below : (n0 : Parts) (c : Client) (m : Holder) → Mirrors n0 c m → ArePendingBelow (delivered n0 m).book.next_cell m.pending
pending-below n0 c m is = λ k p e. let f : FitsHere (delivered n0 m) k p = is.fits k p e in found-below (delivered n0 m).book k f.there.own is.notebook f.there.there

pub over-of-mirror : (n0 : Parts) (c : Client) (m : Holder) → Mirrors n0 c m → IsOver (delivered n0 m).book c m.pending
over-of-mirror n0 c m is = record { book = is.book; pending = is.pending; apart = is.apart; texts = is.texts; notebook = is.notebook }

-- revisions once a cell was added
listed-added : (j id rev : ℕ) (rs : List (ℕ × ℕ)) → listed_revision j rs ≡ None → listed_revision j (rs ++ (id, rev) ∷ []) ≡ (if id == j then Some rev else None)
listed-added j id rev [] e = refl
listed-added j id rev (r ∷ rs) e =
    elim (r.0 == j)
    as (λ b. (if b then Some r.1 else listed_revision j rs) ≡ None → (if b then Some r.1 else listed_revision j (rs ++ (id, rev) ∷ [])) ≡ (if id == j then Some rev else None))
    [ true ↦ λ h. absurd (cc h) | false ↦ λ h. listed-added j id rev rs h ]
    e

listed-beside : (j id rev : ℕ) (rs : List (ℕ × ℕ)) → (id == j) ≡ false → listed_revision j (rs ++ (id, rev) ∷ []) ≡ listed_revision j rs
listed-beside j id rev [] ne = ap (λ b. if b then Some rev else None) ne
listed-beside j id rev (r ∷ rs) ne = ap (λ o. if r.0 == j then Some r.1 else o) (listed-beside j id rev rs ne)

-- the state before and after a change that was made
pub record IsChanged (s t : State) (asked : Change) (made : Changed) : Type 0 where
  pub makes : change s.book asked ≡ Makes t.book made
  pub taken : t.taken ≡ s.taken

revision-same : (s t : State) → t.taken ≡ s.taken → (cell : ℕ) → revision t cell ≡ revision s cell
revision-same s t e cell = ap (λ ts. length (taken_by cell ts)) e

revision-if-same : (s t : State) → t.taken ≡ s.taken → (o : Option Cell) → revision_if s o ≡ revision_if t o
revision-if-same s t e None = refl
revision-if-same s t e (Some c) = ap (λ r. Some r) (sym (revision-same s t e c.id))

-- no live cell has the next number
unborn : (n : Parts) → IsNotebook n → found n.next_cell (cells n) ≡ None
unborn n rules =
    elim (found n.next_cell (cells n))
    as (λ o. found n.next_cell (cells n) ≡ o → o ≡ None)
    [ Some c ↦ λ e. absurd (omega (arith, found-below n n.next_cell c rules e)) | None ↦ λ e. refl ]
    refl

-- each live cell's revision, where no cell was made
each-plain : (s t : State) (asked : Change) (rs : List (ℕ × ℕ)) (j : ℕ) → HasRevisions s rs → t.taken ≡ s.taken → made_cells s.book asked ≡ [] → listed_revision j (without_revisions (gone_of s.book asked) rs) ≡ revision_if t (lives_on s.book asked j)
each-plain s t asked rs j is taken none =
    let cs : List Cell = gone_cells s.book asked in
    let live : Option Cell = found j (cells s.book) in
    elim (found j cs)
    as (λ o. found j cs ≡ o → listed_revision j (without_revisions (map cell_number cs) rs) ≡ revision_if t (if is_some o then None else first_or (found j (made_cells s.book asked)) live)) [
      | Some c ↦ λ e. gone-unlisted j cs c rs e
      | None ↦ λ e. others-listed j cs rs e ∙ (is.each j ∙ (revision-if-same s t taken live ∙ ap (λ ms. revision_if t (first_or (found j ms) live)) (sym none)))
    ]
    refl

-- where one was made: it has the next number, and the revision 0
each-new : (s t : State) (rs : List (ℕ × ℕ)) (j id : ℕ) (c : Cell) → HasRevisions s rs → t.taken ≡ s.taken → IsNotebook s.book → TouchesMadeCells s → id ≡ s.book.next_cell → c.id ≡ id → listed_revision j (rs ++ (id, 0) ∷ []) ≡ revision_if t (first_or (found j (c ∷ [])) (found j (cells s.book)))
each-new s t rs j id c is taken rules made next number =
    let live : Option Cell = found j (cells s.book) in
    elim (c.id == j)
    as (λ b. (c.id == j) ≡ b → listed_revision j (rs ++ (id, 0) ∷ []) ≡ revision_if t (first_or (if b then Some c else None) live)) [
      | true ↦ λ e. let here : j ≡ s.book.next_cell = sym (eqb-true c.id j e) ∙ (number ∙ next) in
          let none : listed_revision j rs ≡ None = is.each j ∙ ap (revision_if s) (subst (λ i. found i (cells s.book) ≡ None) (sym here) (unborn s.book rules)) in
          let same : (id == j) ≡ true = eq-eqb id j (next ∙ sym here) in
          let zero_rev : revision t c.id ≡ 0 = revision-same s t taken c.id ∙ made c.id (omega (arith, number, next)) in
          listed-added j id 0 rs none ∙ (ap (λ b. if b then Some 0 else None) same ∙ ap (λ r. Some r) (sym zero_rev))
      | false ↦ λ e. let other : (id == j) ≡ false = grind (arith, nat_tests, e, number) in
          listed-beside j id 0 rs other ∙ (is.each j ∙ revision-if-same s t taken live)
    ]
    refl

revs-of : (s t : State) (asked : Change) (made : Changed) (rs : List (ℕ × ℕ)) → HasRevisions s rs → t.taken ≡ s.taken → IsNotebook s.book → TouchesMadeCells s → IsMadeBy s.book asked made → ((j : ℕ) → found j (cells t.book) ≡ lives_on s.book asked j) → HasRevisions t (with_made made (without_revisions (gone_of s.book asked) rs))
revs-of s t asked Plain rs is taken rules old none lives = record {
  apart = listed-apart (gone_of s.book asked) rs is.apart;
  each = λ j. each-plain s t asked rs j is taken none ∙ ap (revision_if t) (sym (lives j));
}
revs-of s t asked (NewSection id) rs is taken rules old none lives = record {
  apart = listed-apart (gone_of s.book asked) rs is.apart;
  each = λ j. each-plain s t asked rs j is taken none ∙ ap (revision_if t) (sym (lives j));
}
revs-of s t asked (NewCell id) rs is taken rules old (gone, (next, (c, (only, number)))) lives =
    let left : without_revisions (gone_of s.book asked) rs ≡ rs = ap (λ cs. without_revisions (map cell_number cs) rs) gone in
    let absent : listed_revision id rs ≡ None = is.each id ∙ ap (revision_if s) (subst (λ i. found i (cells s.book) ≡ None) (sym next) (unborn s.book rules)) in
    let born : (j : ℕ) → lives_on s.book asked j ≡ first_or (found j (c ∷ [])) (found j (cells s.book)) = λ j.
    ap (λ cs. if is_some (found j cs) then None else first_or (found j (made_cells s.book asked)) (found j (cells s.book))) gone ∙ ap (λ ms. first_or (found j ms) (found j (cells s.book))) only in
    subst (λ xs. HasRevisions t (xs ++ (id, 0) ∷ [])) (sym left)
    (record {
      apart = subst AreDistinct (sym (map-append listed_cell rs ((id, 0) ∷ []))) (distinct-added (map listed_cell rs) id is.apart (absent-listed id rs absent));
      each = λ j. each-new s t rs j id c is taken rules old next number ∙ ap (revision_if t) (sym (lives j ∙ born j));
    })

-- a cell with something pending lives on as it was
lived-on : (n n' : Parts) (asked : Change) (made : Changed) (ps : List Pending) (k : ℕ) (p : Pending) (t : List ℕ) → IsMadeBy n asked made → ((j : ℕ) → found j (cells n') ≡ lives_on n asked j) → IsNotebook n → pending_of k (without_numbers (gone_of n asked) ps) ≡ Some p → HasSource n k t → HasSource n' k t
lived-on n n' asked made ps k p t by lives rules e h =
    let cs : List Cell = gone_cells n asked in
    let live : Option Cell = found k (cells n) in
    let below : k < n.next_cell = found-below n k h.own rules h.there in
    let same : found k (cells n') ≡ live =
    lives k
    ∙ (elim (found k cs)
    as (λ o. found k cs ≡ o → (if is_some o then None else first_or (found k (made_cells n asked)) live) ≡ live) [
      | Some c ↦ λ g. let both : None ≡ Some p = sym (gone-none k cs c ps g) ∙ e in absurd (cc both)
      | None ↦ λ g. ap (λ o. first_or o live) (unmade n asked made k by below)
    ]
    refl) in
    record { own = h.own; there = same ∙ h.there; source = h.source }

-- the texts that are kept stay right where each cell that has something pending keeps its source
abbrev KeepPending : Parts → Parts → List Unconfirmed → Type 0
KeepPending n n' us = (k : ℕ) (p : Pending) (t : List ℕ) → pending_of k (map pending_in us) ≡ Some p → HasSource n k t → HasSource n' k t

keep-rest : (n n' : Parts) (u : Unconfirmed) (us : List Unconfirmed) → KeepPending n n' (u ∷ us) → KeepPending n n' us
keep-rest n n' u us keep k p t e h =
    elim (u.cell == k)
    as (λ b. (u.cell == k) ≡ b → HasSource n' k t) [
      | true ↦ λ same. keep k (pending_in u) t (ap (λ b. if b then Some (pending_in u) else pending_of k (map pending_in us)) same) h
      | false ↦ λ other. keep k p t (ap (λ b. if b then Some (pending_in u) else pending_of k (map pending_in us)) other ∙ e) h
    ]
    refl

texts-lived : (n n' : Parts) (us : List Unconfirmed) → KeepPending n n' us → HaveServerTexts n us → HaveServerTexts n' us
texts-lived n n' [] keep h = tt
texts-lived n n' (u ∷ us) keep h =
    (keep u.cell (pending_in u) u.server (ap (λ b. if b then Some (pending_in u) else pending_of u.cell (map pending_in us)) (eq-eqb u.cell u.cell refl)) h.0, texts-lived n n' us (keep-rest n n' u us keep) h.1)

-- what is pending for a cell that stays was pending before
pending-before : (k : ℕ) (cs : List Cell) (ps : List Pending) (p : Pending) → pending_of k (without_numbers (map cell_number cs) ps) ≡ Some p → pending_of k ps ≡ Some p
pending-before k cs ps p e =
    elim (found k cs)
    as (λ o. found k cs ≡ o → pending_of k ps ≡ Some p) [
      | Some c ↦ λ g. let both : None ≡ Some p = sym (gone-none k cs c ps g) ∙ e in absurd (cc both)
      | None ↦ λ g. sym (others-stay k cs ps g) ∙ e
    ]
    refl

-- the client that the definitions give
received-change : (n : Parts) (m : Holder) (e : Entry) (asked : Change) → deed e.call e.reply ≡ Changes asked → with_deed n (seen_more m e) (deed e.call e.reply) ≡ record (seen_more m e) { pending = without_numbers (gone_of n asked) m.pending }
received-change n m e asked did = ap (with_deed n (seen_more m e)) did ∙ ap (λ ps. record (seen_more m e) { pending = ps }) (by-numbers (gone_cells n asked) m.pending)

-- the state after the entry
next-change : (n0 : Parts) (m : Holder) (e : Entry) (asked : Change) (made : Changed) (n' : Parts) → deed e.call e.reply ≡ Changes asked → change (delivered n0 m).book asked ≡ Makes n' made → ((next_state n0 m e).book ≡ n') × IsChanged (delivered n0 m) (next_state n0 m e) asked made
next-change n0 m e asked made n' did makes =
    let s : State = delivered n0 m in
    let t : State = next_state n0 m e in
    let by : IsDoneBy (deed e.call e.reply) s (after_call s e.call e.reply) = done-by s e.call e.reply in
    let called : once_done s (deed e.call e.reply) ≡ once_made s (Makes n' made) = ap (once_done s) did ∙ ap (once_made s) makes in
    let grown : t ≡ after s e = state-append n0 m.seen e in
    let book : t.book ≡ n' = ap (λ (x : State). x.book) grown ∙ (by.book ∙ ap (λ (x : State). x.book) called) in
    let taken : t.taken ≡ s.taken = ap (λ (x : State). x.taken) grown ∙ (by.taken ∙ ap (λ (x : State). x.taken) called) in
    (book, record { makes = makes ∙ ap (λ n. Makes n made) (sym book); taken = taken })

-- no delta was applied to a cell that isn't made yet
made-changed : (s t : State) (asked : Change) (made : Changed) → IsChanged s t asked made → IsNotebook s.book → TouchesMadeCells s → TouchesMadeCells t
made-changed s t asked made is rules old = λ cell late.
    let grown : s.book.next_cell ≤ t.book.next_cell = (change-counts s.book t.book asked made rules is.makes).0 in
    revision-same s t is.taken cell ∙ old cell (omega (arith, grown, late))

pub change-mirrors : (n0 : Parts) (c c' : Client) (m : Holder) (e : Entry) (asked : Change) (n' : Parts) (made : Changed) → Mirrors n0 c m → deed e.call e.reply ≡ Changes asked → change (delivered n0 m).book asked ≡ Makes n' made
    → HasChanged (delivered n0 m).book n' c c' (without_numbers (gone_of (delivered n0 m).book asked) m.pending) (gone_of (delivered n0 m).book asked) made → Mirrors n0 (record c' { cursor = length m.seen + 1 }) (received_entry n0 m e)
change-mirrors n0 c c' m e asked n' made is did makes has =
    let s : State = delivered n0 m in
    let t : State = next_state n0 m e in
    let new : (t.book ≡ n') × IsChanged s t asked made = next-change n0 m e asked made n' did makes in
    let ps : List Pending = without_numbers (gone_of s.book asked) m.pending in
    let by : IsMadeBy s.book asked made = made-by s.book n' asked made makes in
    let lives : (j : ℕ) → found j (cells t.book) ≡ lives_on s.book asked j = λ j. change-found s.book t.book asked made j is.notebook new.1.makes in
    let keep : (k : ℕ) (p : Pending) (w : List ℕ) → pending_of k ps ≡ Some p → HasSource s.book k w → HasSource t.book k w = λ k p w at h. lived-on s.book t.book asked made m.pending k p w by lives is.notebook at h in
    subst (Mirrors n0 (record c' { cursor = length m.seen + 1 })) (sym (received-change s.book m e asked did))
    (record {
      number = ap (λ (x : Client). x.number) has.same ∙ is.number;
      cursor = sym (length-append m.seen (e ∷ []));
      book = has.book ∙ ap (resourced (own_source ps)) (sym new.0);
      revs = subst (HasRevisions t) (sym has.revs) (revs-of s t asked made c.revs is.revs new.1.taken is.notebook is.made by lives);
      pending = has.pending;
      outbox = ap (λ (x : Client). x.outbox) has.same ∙ is.outbox;
      nothing = ap (λ (x : Client). x.nothing) has.same ∙ is.nothing;
      apart = has.apart;
      fits = λ k p at. let f : FitsHere s k p = is.fits k p (pending-before k (gone_cells s.book asked) m.pending p at) in record { source = f.source; there = keep k p f.source at f.there; flight = f.flight; buffer = f.buffer };
      texts = texts-lived s.book t.book c'.pending (λ k p w at h. keep k p w (ap (pending_of k) (sym has.pending) ∙ at) h) has.texts;
      notebook = change-keeps s.book t.book asked made is.notebook new.1.makes;
      made = made-changed s t asked made new.1 is.notebook is.made;
    })

-- states with the same cells and the same deltas
revisions-still : (s t : State) (rs : List (ℕ × ℕ)) → HasRevisions s rs → t.book ≡ s.book → t.taken ≡ s.taken → HasRevisions t rs
revisions-still s t rs is e h = record {
  apart = is.apart;
  each = λ j. is.each j ∙ (revision-if-same s t h (found j (cells s.book)) ∙ ap (λ n. revision_if t (found j (cells n))) (sym e));
}

-- any other entry moves the cursor alone
pub still-mirrors : (n0 : Parts) (c : Client) (m : Holder) (e : Entry) → Mirrors n0 c m → deed e.call e.reply ≡ Nothing → Mirrors n0 (record c { cursor = length m.seen + 1 }) (received_entry n0 m e)
still-mirrors n0 c m e is quiet =
    let s : State = delivered n0 m in
    let t : State = next_state n0 m e in
    let by : IsDoneBy (deed e.call e.reply) s (after_call s e.call e.reply) = done-by s e.call e.reply in
    let called : once_done s (deed e.call e.reply) ≡ s = ap (once_done s) quiet in
    let grown : t ≡ after s e = state-append n0 m.seen e in
    let book : t.book ≡ s.book = ap (λ (x : State). x.book) grown ∙ (by.book ∙ ap (λ (x : State). x.book) called) in
    let taken : t.taken ≡ s.taken = ap (λ (x : State). x.taken) grown ∙ (by.taken ∙ ap (λ (x : State). x.taken) called) in
    let received : received_entry n0 m e ≡ seen_more m e = ap (with_deed s.book (seen_more m e)) quiet in
    subst (Mirrors n0 (record c { cursor = length m.seen + 1 })) (sym received)
    (record {
      number = is.number;
      cursor = sym (length-append m.seen (e ∷ []));
      book = is.book ∙ ap (resourced (own_source m.pending)) (sym book);
      revs = revisions-still s t c.revs is.revs book taken;
      pending = is.pending;
      outbox = is.outbox;
      nothing = is.nothing;
      apart = is.apart;
      fits = λ k p at. let f : FitsHere s k p = is.fits k p at in record { source = f.source; there = subst (λ n. HasSource n k f.source) (sym book) f.there; flight = f.flight; buffer = f.buffer };
      texts = subst (λ n. HaveServerTexts n c.pending) (sym book) is.texts;
      notebook = subst IsNotebook (sym book) is.notebook;
      made = λ cell late. revision-same s t taken cell ∙ is.made cell (subst (λ (n : Parts). n.next_cell ≤ cell) book late);
    })
