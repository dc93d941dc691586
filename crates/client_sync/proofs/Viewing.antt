-- What a client shows of its pending edits.
use Rattle.std.proofs.Common.{◌≡◌, ℕ, List, Option, Some, None, map, refl, sym, ap, subst, ◌∙◌}
use Rattle.std.specs.Option.{option_map}
use Rattle.notebook.specs.declared.parts.Cell.{Cell}
use Rattle.notebook.specs.declared.parts.Parts.{Parts}
use Rattle.notebook.specs.Book.{cells, found, resourced_cell}
use Rattle.notebook.proofs.Sources.{found-resourced}
use Rattle.client_sync.specs.Client.{Client as Holder, Pending, pending_of, own_source, delivered, held}
use Rattle.session_ops.specs.Snapshot.{revision_if, listed_revision}
use Rattle.session_ops.specs.State.{State, revision}
use Rattle.client_sync.specs.Own.{source_of}
use Rattle.client_sync.specs.Stands.{Mirrors, IsPendingOf, IsViewOf, pending_in}
use Rattle.client_sync.specs.declared.client.Client.{Client}
use Rattle.client_sync.specs.declared.pending.PendingEdits.{PendingEdits}

-- a cell of the client's own is one of the server's
pub found-held : (n0 : Parts) (c : Client) (m : Holder) (k : ℕ) → Mirrors n0 c m → found k (cells c.book) ≡ option_map (resourced_cell (own_source m.pending)) (found k (cells (delivered n0 m).book))
found-held n0 c m k is = ap (λ n. found k (cells n)) is.book ∙ found-resourced (own_source m.pending) k (delivered n0 m).book

known-of : (o : Option Cell) (f : Cell → List ℕ) (own : Cell) (v : PendingEdits) (p : Option Pending) → Some own ≡ option_map (resourced_cell f) o → IsViewOf v p → IsPendingOf o (Some v) p
known-of None f own v p e view = absurd (cc e)
known-of (Some c) f own v p e view = view

unknown-of : (o : Option Cell) (f : Cell → List ℕ) (p : Option Pending) → None ≡ option_map (resourced_cell f) o → IsPendingOf o None p
unknown-of None f p e = tt
unknown-of (Some c) f p e = absurd (cc e)

pub pending-known : (n0 : Parts) (c : Client) (m : Holder) (k : ℕ) (own : Cell) (v : PendingEdits) → Mirrors n0 c m → Some own ≡ found k (cells c.book) → IsViewOf v (pending_of k (map pending_in c.pending)) → IsPendingOf (found k (cells (delivered n0 m).book)) (Some v) (pending_of k m.pending)
pending-known n0 c m k own v is there view =
    known-of (found k (cells (delivered n0 m).book)) (own_source m.pending) own v (pending_of k m.pending) (there ∙ found-held n0 c m k is) (subst (λ ps. IsViewOf v (pending_of k ps)) is.pending view)

pub pending-unknown : (n0 : Parts) (c : Client) (m : Holder) (k : ℕ) (o : Option PendingEdits) → Mirrors n0 c m → None ≡ found k (cells c.book) → o ≡ None → IsPendingOf (found k (cells (delivered n0 m).book)) o (pending_of k m.pending)
pending-unknown n0 c m k o is there none = subst (λ w. IsPendingOf (found k (cells (delivered n0 m).book)) w (pending_of k m.pending)) (sym none) (unknown-of (found k (cells (delivered n0 m).book)) (own_source m.pending) (pending_of k m.pending) (there ∙ found-held n0 c m k is))

-- a cell that has no revision isn't there, and one that has is
none-known : (s : State) (f : Cell → List ℕ) (o : Option Cell) → revision_if s o ≡ None → option_map (resourced_cell f) o ≡ None
none-known s f None e = refl
none-known s f (Some c) e = absurd (cc e)

pub unknown-cell : (n0 : Parts) (c : Client) (m : Holder) (k : ℕ) → Mirrors n0 c m → None ≡ listed_revision k c.revs → found k (cells c.book) ≡ None
unknown-cell n0 c m k is e =
    found-held n0 c m k is
    ∙ none-known (delivered n0 m) (own_source m.pending) (found k (cells (delivered n0 m).book)) (sym (is.revs.each k) ∙ sym e)

-- the revision that a client knows of a cell
pub known-revision : (n0 : Parts) (c : Client) (m : Holder) (k rev : ℕ) (own : Cell) → Mirrors n0 c m → found k (cells (delivered n0 m).book) ≡ Some own → own.id ≡ k → Some rev ≡ listed_revision k c.revs → rev ≡ revision (delivered n0 m) k
known-revision n0 c m k rev own is there number e =
    let s : State = delivered n0 m in
    let both : Some rev ≡ Some (revision s own.id) = e ∙ (is.revs.each k ∙ ap (revision_if s) there) in
    let same : rev ≡ revision s own.id = cc both in
    same ∙ ap (revision s) number

-- a cell's own text
pub text-held : (n0 : Parts) (c : Client) (m : Holder) (k : ℕ) (o : Option Cell) → Mirrors n0 c m → o ≡ found k (cells c.book) → option_map source_of o ≡ option_map source_of (found k (cells (held n0 m)))
text-held n0 c m k o is e = ap (option_map source_of) (e ∙ ap (λ n. found k (cells n)) is.book)
