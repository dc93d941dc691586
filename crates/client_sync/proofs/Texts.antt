-- The server's texts, kept beside unconfirmed edits.
use Rattle.std.proofs.Common.{◌≡◌, ℕ, ◌==◌, Bool, true, false, if◌then◌else◌, List, [], ◌∷◌, ◌++◌, map, Some, None, refl, sym, ap, subst, ◌∙◌, arith}
use Rattle.std.specs.Prelude.{slice_get, slice_set}
use Rattle.std.specs.Option.{option_map}
use Rattle.std.proofs.lemmas.Bool.{eq-eqb}
use Rattle.std.proofs.lemmas.Bool.Decides.{nat_tests}
use Rattle.delta.specs.declared.Step.{Step}
use Rattle.delta.specs.Moves.{FitsText, text_after, transformed}
use Rattle.notebook.specs.declared.parts.Cell.{Cell}
use Rattle.notebook.specs.declared.parts.Parts.{Parts}
use Rattle.notebook.specs.Book.{cells, found, resourced_cell}
use Rattle.notebook.proofs.Sources.{found-resourced}
use Rattle.session_ops.specs.declared.entry.Op.{Op}
use Rattle.session_ops.specs.Deeds.{moved_source}
use Rattle.client_sync.specs.Client.{Client as Holder, pending_of}
use Rattle.client_sync.specs.Fits.{HasSource}
use Rattle.session_ops.specs.Deeds.{FitsCell, book_after}
use Rattle.client_sync.specs.Stands.{HasEdits, HaveServerTexts, IsPendingAt, pending_in, in_flight}
use Rattle.client_sync.specs.declared.pending.Unconfirmed.{Unconfirmed}
use Rattle.client_sync.proofs.Edits.{StandsAlone}
use Rattle.session_ops.proofs.Live.{found-number}
use Rattle.client_sync.proofs.Fitting.{one-source}
use Rattle.client_sync.proofs.Noting.{alone}
use Rattle.client_sync.proofs.Returning.{item-is, there-moved}

-- over lists that are joined
pub texts-append : (n : Parts) (us vs : List Unconfirmed) → HaveServerTexts n us → HaveServerTexts n vs → HaveServerTexts n (us ++ vs)
texts-append n [] vs h k = k
texts-append n (u ∷ us) vs h k = (h.0, texts-append n us vs h.1 k)

pub texts-front : (n : Parts) (us vs : List Unconfirmed) → HaveServerTexts n (us ++ vs) → HaveServerTexts n us
texts-front n [] vs h = tt
texts-front n (u ∷ us) vs h = (h.0, texts-front n us vs h.1)

pub texts-behind : (n : Parts) (us vs : List Unconfirmed) → HaveServerTexts n (us ++ vs) → HaveServerTexts n vs
texts-behind n [] vs h = h
texts-behind n (u ∷ us) vs h = texts-behind n us vs h.1

-- each cell but one has its source in another notebook too
abbrev pub KeepOthers : Parts → Parts → ℕ → Type 0
KeepOthers n n' k = (j : ℕ) (t : List ℕ) → (k == j) ≡ false → HasSource n j t → HasSource n' j t

-- where none of the edits is of that cell, the texts stay right
pub texts-kept : (n n' : Parts) (k : ℕ) (us : List Unconfirmed) → KeepOthers n n' k → pending_of k (map pending_in us) ≡ None → HaveServerTexts n us → HaveServerTexts n' us
texts-kept n n' k [] keep e h = tt
texts-kept n n' k (u ∷ us) keep e h =
    elim (u.cell == k)
    as (λ b. (u.cell == k) ≡ b → (if b then Some (pending_in u) else pending_of k (map pending_in us)) ≡ None → HaveServerTexts n' (u ∷ us)) [
      | true ↦ λ t none. absurd (cc none)
      | false ↦ λ t none. (keep u.cell u.server (grind (arith, nat_tests, t)) h.0, texts-kept n n' k us keep none h.1)
    ]
    refl
    e

-- each cell's source once a delta was done to one
pub source-moved : (x : List Step) (k : ℕ) (c : Cell) (b : Bool) → (c.id == k) ≡ b → moved_source k x c ≡ (if b then text_after x c.source else c.source)
source-moved x k c b e = ap (λ t. if t then text_after x c.source else c.source) e

pub source-beside : (n : Parts) (k : ℕ) (x : List Step) → KeepOthers n (book_after k x n) k
source-beside n k x j t ne h =
    let number : h.own.id ≡ j = found-number j (cells n) h.own h.there in
    let other : (h.own.id == k) ≡ false = grind (arith, nat_tests, ne, number) in
    record {
      own = resourced_cell (moved_source k x) h.own;
      there = found-resourced (moved_source k x) j n ∙ ap (option_map (resourced_cell (moved_source k x))) h.there;
      source = source-moved x k h.own false other ∙ h.source;
    }

pub source-here : (n : Parts) (k : ℕ) (x : List Step) (own : Cell) → found k (cells n) ≡ Some own → HasSource (book_after k x n) k (text_after x own.source)
source-here n k x own there =
    let same : (own.id == k) ≡ true = eq-eqb own.id k (found-number k (cells n) own there) in
    record {
      own = resourced_cell (moved_source k x) own;
      there = found-resourced (moved_source k x) k n ∙ ap (option_map (resourced_cell (moved_source k x))) there;
      source = source-moved x k own true same;
    }

-- an edit was posted over the server's text
pub texts-posted : (n : Parts) (us vs : List Unconfirmed) (k : ℕ) (t : List ℕ) (d : List Step) → HaveServerTexts n us → HasSource n k t → vs ≡ us ++ in_flight k t d ∷ [] → HaveServerTexts n vs
texts-posted n us vs k t d h s e = subst (HaveServerTexts n) (sym e) (texts-append n us (in_flight k t d ∷ []) h (s, tt))

-- an edit went into a buffer
pub texts-buffered : (n : Parts) (us vs front back : List Unconfirmed) (here : Unconfirmed) (b : List Step) → HaveServerTexts n us → us ≡ front ++ here ∷ back → vs ≡ front ++ record here { buffer = b } ∷ back → HaveServerTexts n vs
texts-buffered n us vs front back here b h e ev =
    let all : HaveServerTexts n (front ++ here ∷ back) = subst (HaveServerTexts n) e h in
    let behind : HaveServerTexts n (here ∷ back) = texts-behind n front (here ∷ back) all in
    subst (HaveServerTexts n) (sym ev) (texts-append n front (record here { buffer = b } ∷ back) (texts-front n front (here ∷ back) all) (behind.0, behind.1))

-- what stands at the place of the cell's edits, and round it
pub record StandsThere (n : Parts) (us : List Unconfirmed) (k at : ℕ) (p : IsPendingAt us k at) : Type 0 where
  pub front : HaveServerTexts n p.front
  pub here : HasSource n k p.here.server
  pub back : HaveServerTexts n p.back
  pub before : pending_of k (map pending_in p.front) ≡ None
  pub behind : pending_of k (map pending_in p.back) ≡ None

pub stands-there : (n : Parts) (us : List Unconfirmed) (ops : List Op) (m : Holder) (k at : ℕ) (p : IsPendingAt us k at) → HaveServerTexts n us → HasEdits us ops m → StandsThere n us k at p
stands-there n us ops m k at p h e =
    let all : HaveServerTexts n (p.front ++ p.here ∷ p.back) = subst (HaveServerTexts n) p.parts h in
    let behind : HaveServerTexts n (p.here ∷ p.back) = texts-behind n p.front (p.here ∷ p.back) all in
    let one : StandsAlone k (map pending_in p.front) (pending_in p.here) (map pending_in p.back) = alone us k at m.pending p e.pending e.apart in
    record {
      front = texts-front n p.front (p.here ∷ p.back) all;
      here = subst (λ j. HasSource n j p.here.server) p.number behind.0;
      back = behind.1;
      before = one.before;
      behind = one.behind;
    }

-- the cell's edits and the server's text under them were moved over another's delta
pub texts-moved : (n : Parts) (us vs : List Unconfirmed) (k at : ℕ) (x : List Step) (p : IsPendingAt us k at) → StandsThere n us k at p → (f : FitsCell n k x)
    → vs ≡ p.front ++ record p.here { server = text_after x p.here.server; flight = transformed false x p.here.flight; buffer = transformed false (transformed true p.here.flight x) p.here.buffer } ∷ p.back → HaveServerTexts (book_after k x n) vs
texts-moved n us vs k at x p s f e =
    let n' : Parts = book_after k x n in
    let new : Unconfirmed = record p.here { server = text_after x p.here.server; flight = transformed false x p.here.flight; buffer = transformed false (transformed true p.here.flight x) p.here.buffer } in
    let same : f.own.source ≡ p.here.server = one-source n k p.here.server f.own s.here f.there in
    let here : HasSource n' p.here.cell (text_after x p.here.server) = subst (λ j. HasSource n' j (text_after x p.here.server)) (sym p.number) (subst (λ t. HasSource n' k (text_after x t)) same (source-here n k x f.own f.there)) in
    subst (HaveServerTexts n') (sym e)
    (texts-append n' p.front (new ∷ p.back) (texts-kept n n' k p.front (source-beside n k x) s.before s.front) (here, texts-kept n n' k p.back (source-beside n k x) s.behind s.back))

-- the cell's edits came back: they are gone, and what was buffered is posted over the text that they made
pub texts-gone : (n : Parts) (us vs : List Unconfirmed) (k at : ℕ) (x : List Step) (p : IsPendingAt us k at) → StandsThere n us k at p → vs ≡ p.front ++ p.back → HaveServerTexts (book_after k x n) vs
texts-gone n us vs k at x p s e =
    let n' : Parts = book_after k x n in
    subst (HaveServerTexts n') (sym e) (texts-append n' p.front p.back (texts-kept n n' k p.front (source-beside n k x) s.before s.front) (texts-kept n n' k p.back (source-beside n k x) s.behind s.back))

pub texts-back : (n : Parts) (us vs ws : List Unconfirmed) (k at : ℕ) (x b : List Step) (t : List ℕ) (p : IsPendingAt us k at) → StandsThere n us k at p → (f : FitsCell n k x) → vs ≡ p.front ++ p.back → t ≡ text_after x p.here.server → ws ≡ vs ++ in_flight k t b ∷ [] → HaveServerTexts (book_after k x n) ws
texts-back n us vs ws k at x b t p s f ev et ew =
    let n' : Parts = book_after k x n in
    let same : f.own.source ≡ p.here.server = one-source n k p.here.server f.own s.here f.there in
    texts-posted n' vs ws k t b (texts-gone n us vs k at x p s ev) (subst (HasSource n' k) (ap (text_after x) same ∙ sym et) (source-here n k x f.own f.there)) ew

-- the same, where they were written at their place
pub texts-written : (n : Parts) (us : List Unconfirmed) (ops : List Op) (m : Holder) (k at : ℕ) (x : List Step) (p : IsPendingAt us k at) (item new : Unconfirmed) → HaveServerTexts n us → HasEdits us ops m → FitsCell n k x → slice_get us at ≡ Some item
    → new ≡ record item { server = new.server; flight = transformed false x item.flight; buffer = transformed false (transformed true item.flight x) item.buffer } → (FitsText x item.server → new.server ≡ text_after x item.server) → HaveServerTexts (book_after k x n) (slice_set us at new)
texts-written n us ops m k at x p item new h e f got moved server =
    let s : StandsThere n us k at p = stands-there n us ops m k at p h e in
    let one : item ≡ p.here = item-is us p.front p.back p.here item at p.parts p.place got in
    let fits : FitsText x item.server = subst (FitsText x) (one-source n k p.here.server f.own s.here f.there ∙ ap (λ (u : Unconfirmed). u.server) (sym one)) f.fits in
    let text : new.server ≡ text_after x p.here.server = server fits ∙ ap (λ (u : Unconfirmed). text_after x u.server) one in
    texts-moved n us (slice_set us at new) k at x p s f
    (there-moved us p.front p.back p.here item new at x new.server p.parts p.place got moved
    ∙ ap (λ t. p.front ++ record p.here { server = t; flight = transformed false x p.here.flight; buffer = transformed false (transformed true p.here.flight x) p.here.buffer } ∷ p.back) text)

-- what came back is what the place has in flight, and fits the text that is kept there
pub fits-there : (n : Parts) (us : List Unconfirmed) (k at : ℕ) (p : IsPendingAt us k at) (done : Unconfirmed) → StandsThere n us k at p → FitsCell n k p.here.flight → done ≡ p.here → FitsText done.flight done.server
fits-there n us k at p done s f e = subst (λ (u : Unconfirmed). FitsText u.flight u.server) (sym e) (subst (FitsText p.here.flight) (one-source n k p.here.server f.own s.here f.there) f.fits)
