-- What a delta that comes back, and one of another's, makes of the pending edits and the messages.
use Rattle.std.proofs.Common.{◌≡◌, ◌≢◌, ℕ, true, false, List, [], ◌∷◌, ◌++◌, Some, None, length, map, refl, sym, ap, subst, ◌∙◌}
use Rattle.std.specs.Prelude.{slice_get, slice_set}
use Rattle.std.proofs.lemmas.List.{map-append}
use Rattle.std.proofs.lemmas.Option.{get_or_from_slice_get}
use Rattle.delta.specs.declared.Step.{Step}
use Rattle.delta.specs.Moves.{transformed}
use Rattle.notebook.specs.declared.parts.Parts.{Parts}
use Rattle.notebook.specs.Rules.{AreDistinct}
use Rattle.session_ops.specs.declared.entry.Op.{Op}
use Rattle.session_ops.specs.Deeds.{book_after}
use Rattle.client_sync.specs.Client.{Client as Holder, Pending, pending_of, with_own, reposted, without, all_moved}
use Rattle.client_sync.specs.Moving.{over_pending, over_option}
use Rattle.client_sync.specs.Revisions.{raised}
use Rattle.client_sync.specs.Stands.{HasEdits, IsPendingAt, pending_in, pending_cell, in_flight, edit_message}
use Rattle.client_sync.specs.declared.client.Client.{Client}
use Rattle.client_sync.specs.declared.pending.Unconfirmed.{Unconfirmed}
use Rattle.client_sync.proofs.Edits.{without-alone, moved-alone, moved-none, without-same, apart-added, apart-without, cells-moved}
use Rattle.client_sync.proofs.Noting.{alone, parts-there, pending-here, there-read, there-written}

-- what was pending was taken out
pub gone-pending : (us vs : List Unconfirmed) (m : Holder) (k at : ℕ) (p : IsPendingAt us k at) → map pending_in us ≡ m.pending → AreDistinct (map pending_cell m.pending) → vs ≡ p.front ++ p.back → map pending_in vs ≡ without k m.pending
gone-pending us vs m k at p same d ev =
    let left : without k m.pending ≡ map pending_in p.front ++ map pending_in p.back =
    ap (without k) (parts-there us k at m.pending p same) ∙ without-alone k (map pending_in p.front) (pending_in p.here) (map pending_in p.back) (alone us k at m.pending p same d) in
    ap (map pending_in) ev ∙ (map-append pending_in p.front p.back ∙ sym left)

gone-of : (us vs : List Unconfirmed) (ops os : List Op) (m : Holder) (k at rev : ℕ) (b : List Step) → HasEdits us ops m → (p : IsPendingAt us k at) → b ≡ [] → vs ≡ p.front ++ p.back → os ≡ ops → HasEdits vs os (reposted m k rev b)
gone-of us vs ops os m k at rev [] h p e ev eo = record { pending = gone-pending us vs m k at p h.pending h.apart ev; outbox = eo ∙ h.outbox; apart = apart-without k m.pending h.apart }
gone-of us vs ops os m k at rev (s ∷ b) h p e ev eo = absurd (cc e)

pub gone-has : (us vs : List Unconfirmed) (ops os : List Op) (m : Holder) (k at rev : ℕ) → HasEdits us ops m → (p : IsPendingAt us k at) → p.here.buffer ≡ [] → vs ≡ p.front ++ p.back → os ≡ ops → HasEdits vs os (with_own m k rev (pending_of k m.pending))
gone-has us vs ops os m k at rev h p e ev eo = subst (λ o. HasEdits vs os (with_own m k rev o)) (sym (pending-here us k at m.pending p h.pending)) (gone-of us vs ops os m k at rev p.here.buffer h p e ev eo)

-- what was buffered is posted
back-of : (us vs ws : List Unconfirmed) (ops os : List Op) (m : Holder) (k at rev : ℕ) (server : List ℕ) (b : List Step) → HasEdits us ops m → (p : IsPendingAt us k at) → b ≢ [] → vs ≡ p.front ++ p.back → ws ≡ vs ++ in_flight k server b ∷ [] → os ≡ ops ++ edit_message k rev b ∷ [] → HasEdits ws os (reposted m k rev b)
back-of us vs ws ops os m k at rev server [] h p e ev ew eo = absurd (e refl)
back-of us vs ws ops os m k at rev server (s ∷ b) h p e ev ew eo =
    let q : Pending = pending_in (in_flight k server (s ∷ b)) in
    record {
      pending = ap (map pending_in) ew ∙ (map-append pending_in vs (in_flight k server (s ∷ b) ∷ []) ∙ ap (λ ps. ps ++ q ∷ []) (gone-pending us vs m k at p h.pending h.apart ev));
      outbox = eo ∙ ap (λ xs. xs ++ edit_message k rev (s ∷ b) ∷ []) h.outbox;
      apart = apart-added (without k m.pending) q (apart-without k m.pending h.apart) (without-same k m.pending);
    }

pub back-has : (us vs ws : List Unconfirmed) (ops os : List Op) (m : Holder) (k at rev : ℕ) (server : List ℕ) (b : List Step) → HasEdits us ops m → (p : IsPendingAt us k at) → b ≡ p.here.buffer → b ≢ [] → vs ≡ p.front ++ p.back → ws ≡ vs ++ in_flight k server b ∷ [] → os ≡ ops ++ edit_message k rev b ∷ [] → HasEdits ws os (with_own m k rev (pending_of k m.pending))
back-has us vs ws ops os m k at rev server b h p same e ev ew eo =
    subst (λ o. HasEdits ws os (with_own m k rev o)) (sym (pending-here us k at m.pending p h.pending)) (subst (λ x. HasEdits ws os (reposted m k rev x)) same (back-of us vs ws ops os m k at rev server b h p e ev ew eo))

-- nothing was pending
pub none-has : (us : List Unconfirmed) (ops : List Op) (m : Holder) (k rev : ℕ) → HasEdits us ops m → pending_of k (map pending_in us) ≡ None → HasEdits us ops (with_own m k rev (pending_of k m.pending))
none-has us ops m k rev h none = subst (λ o. HasEdits us ops (with_own m k rev o)) (sym (ap (pending_of k) (sym h.pending) ∙ none)) h

-- what is pending was moved
pub moved-has : (us vs : List Unconfirmed) (ops os : List Op) (m : Holder) (k at : ℕ) (x y : List Step) (t : List ℕ) → HasEdits us ops m → (p : IsPendingAt us k at) → y ≡ over_pending x (pending_in p.here) → vs ≡ p.front ++ record p.here { server = t; flight = transformed false x p.here.flight; buffer = transformed false (transformed true p.here.flight x) p.here.buffer } ∷ p.back → os ≡ ops
    → (y ≡ over_option x (pending_of k m.pending)) × HasEdits vs os (record m { pending = all_moved k x m.pending })
moved-has us vs ops os m k at x y t h p ey ev eo =
    let new : Unconfirmed = record p.here { server = t; flight = transformed false x p.here.flight; buffer = transformed false (transformed true p.here.flight x) p.here.buffer } in
    let changed : all_moved k x m.pending ≡ map pending_in p.front ++ pending_in new ∷ map pending_in p.back =
    ap (all_moved k x) (parts-there us k at m.pending p h.pending) ∙ moved-alone k x (map pending_in p.front) (pending_in p.here) (map pending_in p.back) (alone us k at m.pending p h.pending h.apart) in (
      ey ∙ ap (over_option x) (sym (pending-here us k at m.pending p h.pending)),
      record {
        pending = ap (map pending_in) ev ∙ (map-append pending_in p.front (new ∷ p.back) ∙ sym changed);
        outbox = eo ∙ h.outbox;
        apart = subst AreDistinct (sym (cells-moved k x m.pending)) h.apart;
      },
    )

pub unmoved-has : (us : List Unconfirmed) (ops : List Op) (m : Holder) (k : ℕ) (x y : List Step) → HasEdits us ops m → pending_of k (map pending_in us) ≡ None → y ≡ x → (y ≡ over_option x (pending_of k m.pending)) × HasEdits us ops (record m { pending = all_moved k x m.pending })
unmoved-has us ops m k x y h none e =
    let quiet : pending_of k m.pending ≡ None = ap (pending_of k) (sym h.pending) ∙ none in (
      e ∙ ap (over_option x) (sym quiet),
      record { pending = h.pending ∙ sym (moved-none k x m.pending quiet); outbox = h.outbox; apart = subst AreDistinct (sym (cells-moved k x m.pending)) h.apart },
    )

-- what is written at a place stands between the same front and back
pub there-moved : (us front back : List Unconfirmed) (here item new : Unconfirmed) (at : ℕ) (x : List Step) (t : List ℕ) → us ≡ front ++ here ∷ back → at ≡ length front → slice_get us at ≡ Some item
    → new ≡ record item { server = t; flight = transformed false x item.flight; buffer = transformed false (transformed true item.flight x) item.buffer }
    → slice_set us at new ≡ front ++ record here { server = t; flight = transformed false x here.flight; buffer = transformed false (transformed true here.flight x) here.buffer } ∷ back
there-moved us front back here item new at x t parts place got e =
    let one : item ≡ here = sym (get_or_from_slice_get us at item item got) ∙ there-read us front back here at item parts place in
    ap (slice_set us at) (e ∙ ap (λ (u : Unconfirmed). record u { server = t; flight = transformed false x u.flight; buffer = transformed false (transformed true u.flight x) u.buffer }) one)
    ∙ there-written us front back here (record here { server = t; flight = transformed false x here.flight; buffer = transformed false (transformed true here.flight x) here.buffer }) at parts place

pub item-is : (us front back : List Unconfirmed) (here item : Unconfirmed) (at : ℕ) → us ≡ front ++ here ∷ back → at ≡ length front → slice_get us at ≡ Some item → item ≡ here
item-is us front back here item at parts place got = sym (get_or_from_slice_get us at item item got) ∙ there-read us front back here at item parts place

-- a client of which only the pending edits and the messages changed
pub kept-rest : (c d : Client) → d ≡ record c { pending = d.pending } → d ≡ record c { pending = d.pending; outbox = d.outbox }
kept-rest c d e = e ∙ ap (λ os. record c { pending = d.pending; outbox = os }) (sym (ap (λ (x : Client). x.outbox) e))

pub posted-rest : (c d e : Client) (us : List Unconfirmed) (os : List Op) → d ≡ record c { pending = d.pending } → e ≡ record d { pending = us; outbox = os } → e ≡ record c { pending = e.pending; outbox = e.outbox }
posted-rest c d e us os k h =
    let first : e ≡ record c { pending = us; outbox = os } = h ∙ ap (λ (x : Client). record x { pending = us; outbox = os }) k in
    first ∙ (ap (λ ps. record c { pending = ps; outbox = os }) (sym (ap (λ (x : Client). x.pending) first)) ∙ ap (λ ms. record c { pending = e.pending; outbox = ms }) (sym (ap (λ (x : Client). x.outbox) first)))

-- a client of which a revision, then the pending edits and then a text changed
pub moved-same : (c d e : Client) (b : Parts) (k rev : ℕ) (x y : List Step) → d ≡ record c { revs = raised k rev c.revs } → e ≡ record d { pending = e.pending } → b ≡ book_after k y e.book → y ≡ x
    → record e { book = b } ≡ record c { book = book_after k x c.book; revs = raised k rev c.revs; pending = e.pending }
moved-same c d e b k rev x y first next eb et =
    let both : e ≡ record c { revs = raised k rev c.revs; pending = e.pending } = next ∙ ap (λ (x : Client). record x { pending = e.pending }) first in
    ap (λ (x : Client). record x { book = b }) both
    ∙ ap (λ n. record c { book = n; revs = raised k rev c.revs; pending = e.pending }) (eb ∙ (ap (λ (z : Client). book_after k y z.book) both ∙ ap (λ w. book_after k w c.book) et))
