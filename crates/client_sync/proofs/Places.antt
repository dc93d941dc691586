-- Where the pending edits of a cell stand.
use Rattle.std.proofs.Common.{◌≡◌, ℕ, ◌+◌, ◌<◌, true, false, List, [], ◌∷◌, ◌++◌, Some, None, length, take, drop, get_or, map, refl, sym, ap, ◌∙◌, arith, eq-eqb}
use Rattle.std.specs.Prelude.{◌==◌, if◌then◌else◌}
use Rattle.std.proofs.Math.Seq.{get_or-append_seam}
use Rattle.std.proofs.lemmas.List.{take_more, length-take-le, map-append, length-append}
use Rattle.notebook.proofs.Finding.{cut_here}
use Rattle.client_sync.specs.Client.{Pending, pending_of}
use Rattle.client_sync.specs.Stands.{IsPendingAt, pending_in}
use Rattle.client_sync.specs.declared.pending.Unconfirmed.{Unconfirmed}

-- where the front has none, the whole has what the rest has
pub pending-append-none : (k : ℕ) (xs ys : List Pending) → pending_of k xs ≡ None → pending_of k (xs ++ ys) ≡ pending_of k ys
pending-append-none k [] ys e = refl
pending-append-none k (x ∷ xs) ys e =
    elim (x.cell == k)
    as (λ b. (if b then Some x else pending_of k xs) ≡ None → (if b then Some x else pending_of k (xs ++ ys)) ≡ pending_of k ys)
    [ true ↦ λ h. absurd (cc h) | false ↦ λ h. pending-append-none k xs ys h ]
    e

-- one more that isn't of the cell
pub pending-more : (k : ℕ) (us : List Unconfirmed) (i : ℕ) (u : Unconfirmed) → i < length us → u ≡ get_or us i u → pending_of k (map pending_in (take i us)) ≡ None → (u.cell == k) ≡ false → pending_of k (map pending_in (take (i + 1) us)) ≡ None
pending-more k us i u within at before other =
    let e : take (i + 1) us ≡ take i us ++ u ∷ [] = take_more us i u within ∙ ap (λ x. take i us ++ x ∷ []) (sym at) in
    let none : pending_of k (pending_in u ∷ []) ≡ None = ap (λ b. if b then Some (pending_in u) else None) other in
    rw (e, map-append) (pending-append-none k (map pending_in (take i us)) (pending_in u ∷ []) before ∙ none)

-- those at a place, where no earlier ones are of the cell
pub pending-at : (k : ℕ) (us : List Unconfirmed) (i : ℕ) (u : Unconfirmed) → i < length us → u ≡ get_or us i u → pending_of k (map pending_in (take i us)) ≡ None → u.cell ≡ k → IsPendingAt us k i
pending-at k us i u within at before same = record {
  front = take i us;
  here = u;
  back = drop (i + 1) us;
  parts = cut_here us i u within at;
  number = same;
  place = sym (length-take-le i us (omega arith));
  first = before;
}

-- those whose place is known are the ones of the cell
pub pending-there : (us : List Unconfirmed) (k i : ℕ) (p : IsPendingAt us k i) → pending_of k (map pending_in us) ≡ Some (pending_in p.here)
pending-there us k i p =
    let here : (p.here.cell == k) ≡ true = eq-eqb p.here.cell k p.number in
    let one : pending_of k (map pending_in (p.here ∷ p.back)) ≡ Some (pending_in p.here) = ap (λ b. if b then Some (pending_in p.here) else pending_of k (map pending_in p.back)) here in
    ap (λ vs. pending_of k (map pending_in vs)) p.parts ∙ (ap (pending_of k) (map-append pending_in p.front (p.here ∷ p.back)) ∙ (pending-append-none k (map pending_in p.front) (map pending_in (p.here ∷ p.back)) p.first ∙ one))

-- what stands at the place
pub here-at : (us : List Unconfirmed) (k i : ℕ) (p : IsPendingAt us k i) (d : Unconfirmed) → get_or us i d ≡ p.here
here-at us k i p d = rw (p.parts, p.place) (get_or-append_seam p.front p.here p.back d)

pub within-place : (us : List Unconfirmed) (k i : ℕ) → IsPendingAt us k i → i < length us
within-place us k i p = rw (p.parts, p.place, length-append) (omega arith)
