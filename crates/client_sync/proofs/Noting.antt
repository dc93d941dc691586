-- What noting an edit makes of the pending edits and the messages.
use Rattle.std.proofs.Common.{◌≡◌, ℕ, List, [], ◌∷◌, ◌++◌, Some, None, length, get_or, map, sym, ap, subst, ◌∙◌}
use Rattle.std.specs.Prelude.{slice_get, slice_set}
use Rattle.std.proofs.lemmas.Bool.{eq-eqb}
use Rattle.std.proofs.lemmas.List.{map-append}
use Rattle.std.proofs.lemmas.Option.{get_or_from_slice_get}
use Rattle.std.proofs.Math.Seq.{set-append_seam, get_or-append_seam}
use Rattle.delta.specs.declared.Step.{Step}
use Rattle.delta.specs.Moves.{composed}
use Rattle.notebook.specs.Rules.{AreDistinct}
use Rattle.session_ops.specs.declared.entry.Op.{Op}
use Rattle.client_sync.specs.Client.{Client as Holder, Pending, pending_of, with_edit, buffered}
use Rattle.client_sync.specs.Stands.{HasEdits, IsPendingAt, pending_in, pending_cell, in_flight, edit_message}
use Rattle.client_sync.specs.declared.client.Client.{Client}
use Rattle.client_sync.specs.declared.pending.Unconfirmed.{Unconfirmed}
use Rattle.client_sync.proofs.Places.{pending-there}
use Rattle.client_sync.proofs.Edits.{StandsAlone, none-behind, buffered-alone, apart-added, cells-buffered}

-- the element at a place between a front and a back, and one written there
pub there-read : (us front back : List Unconfirmed) (here : Unconfirmed) (at : ℕ) (d : Unconfirmed) → us ≡ front ++ here ∷ back → at ≡ length front → get_or us at d ≡ here
there-read us front back here at d parts place = rw (parts, place) (get_or-append_seam front here back d)

pub there-written : (us front back : List Unconfirmed) (here new : Unconfirmed) (at : ℕ) → us ≡ front ++ here ∷ back → at ≡ length front → slice_set us at new ≡ front ++ new ∷ back
there-written us front back here new at parts place = rw (parts, place) (set-append_seam front here back new)

-- the edits at a place are the only ones of their cell
pub alone : (us : List Unconfirmed) (k at : ℕ) (ps : List Pending) (p : IsPendingAt us k at) → map pending_in us ≡ ps → AreDistinct (map pending_cell ps) → StandsAlone k (map pending_in p.front) (pending_in p.here) (map pending_in p.back)
alone us k at ps p same d =
    let parts : ps ≡ map pending_in p.front ++ pending_in p.here ∷ map pending_in p.back = sym same ∙ (ap (map pending_in) p.parts ∙ map-append pending_in p.front (p.here ∷ p.back)) in
    record {
      number = eq-eqb p.here.cell k p.number;
      before = p.first;
      behind = none-behind k (map pending_in p.front) (pending_in p.here) (map pending_in p.back) p.number (subst (λ qs. AreDistinct (map pending_cell qs)) parts d);
    }

pub parts-there : (us : List Unconfirmed) (k at : ℕ) (ps : List Pending) (p : IsPendingAt us k at) → map pending_in us ≡ ps → ps ≡ map pending_in p.front ++ pending_in p.here ∷ map pending_in p.back
parts-there us k at ps p same = sym same ∙ (ap (map pending_in) p.parts ∙ map-append pending_in p.front (p.here ∷ p.back))

pub pending-here : (us : List Unconfirmed) (k at : ℕ) (ps : List Pending) (p : IsPendingAt us k at) → map pending_in us ≡ ps → pending_of k ps ≡ Some (pending_in p.here)
pending-here us k at ps p same = ap (pending_of k) (sym same) ∙ pending-there us k at p

-- with nothing in flight the edit is posted
pub posted-has : (us vs : List Unconfirmed) (ops os : List Op) (m : Holder) (k base : ℕ) (server : List ℕ) (d : List Step) → HasEdits us ops m → pending_of k (map pending_in us) ≡ None → vs ≡ us ++ in_flight k server d ∷ [] → os ≡ ops ++ edit_message k base d ∷ [] → HasEdits vs os (with_edit m k base d (pending_of k m.pending))
posted-has us vs ops os m k base server d h none ev eo =
    let quiet : pending_of k m.pending ≡ None = ap (pending_of k) (sym h.pending) ∙ none in
    let q : Pending = pending_in (in_flight k server d) in
    subst (λ o. HasEdits vs os (with_edit m k base d o)) (sym quiet)
    (record {
      pending = ap (map pending_in) ev ∙ (map-append pending_in us (in_flight k server d ∷ []) ∙ ap (λ ps. ps ++ q ∷ []) h.pending);
      outbox = eo ∙ ap (λ xs. xs ++ edit_message k base d ∷ []) h.outbox;
      apart = apart-added m.pending q h.apart quiet;
    })

-- else it goes into the buffer
pub buffered-has : (us vs : List Unconfirmed) (ops os : List Op) (m : Holder) (k at base : ℕ) (d : List Step) → HasEdits us ops m → (p : IsPendingAt us k at) → vs ≡ p.front ++ record p.here { buffer = composed p.here.buffer d } ∷ p.back → os ≡ ops → HasEdits vs os (with_edit m k base d (pending_of k m.pending))
buffered-has us vs ops os m k at base d h p ev eo =
    let some : pending_of k m.pending ≡ Some (pending_in p.here) = pending-here us k at m.pending p h.pending in
    let new : Unconfirmed = record p.here { buffer = composed p.here.buffer d } in
    let changed : buffered k d m.pending ≡ map pending_in p.front ++ pending_in new ∷ map pending_in p.back =
    ap (buffered k d) (parts-there us k at m.pending p h.pending) ∙ buffered-alone k d (map pending_in p.front) (pending_in p.here) (map pending_in p.back) (alone us k at m.pending p h.pending h.apart) in
    subst (λ o. HasEdits vs os (with_edit m k base d o)) (sym some)
    (record {
      pending = ap (map pending_in) ev ∙ (map-append pending_in p.front (new ∷ p.back) ∙ sym changed);
      outbox = eo ∙ h.outbox;
      apart = subst AreDistinct (sym (cells-buffered k d m.pending)) h.apart;
    })

-- the buffer at a place is written
pub buffer-written : (c : Client) (front back : List Unconfirmed) (here item read : Unconfirmed) (at : ℕ) (b d : List Step) → c.pending ≡ front ++ here ∷ back → at ≡ length front → slice_get c.pending at ≡ Some item → read ≡ here → b ≡ composed read.buffer d → record c { pending = slice_set c.pending at (record item { buffer = b }) } ≡ record c { pending = front ++ record here { buffer = composed here.buffer d } ∷ back }
buffer-written c front back here item read at b d parts place got other e =
    let one : item ≡ here = sym (get_or_from_slice_get c.pending at item item got) ∙ there-read c.pending front back here at item parts place in
    let new : record item { buffer = b } ≡ record here { buffer = composed here.buffer d } = ap (λ (u : Unconfirmed). record u { buffer = b }) one ∙ (ap (λ (x : List Step). record here { buffer = x }) e ∙ ap (λ (u : Unconfirmed). record here { buffer = composed u.buffer d }) other) in
    ap (λ ps. record c { pending = ps }) (ap (λ u. slice_set c.pending at u) new ∙ there-written c.pending front back here (record here { buffer = composed here.buffer d }) at parts place)
