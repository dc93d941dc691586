-- A client that posts a message.
use Rattle.std.proofs.Common.{◌≡◌, ℕ, List, [], ◌∷◌, ◌++◌, Option, Some, None, refl, sym, ap, subst, ◌∙◌}
use Rattle.std.specs.Option.{option_map}
use Rattle.notebook.specs.declared.parts.Cell.{Cell}
use Rattle.notebook.specs.declared.parts.Parts.{Parts}
use Rattle.notebook.specs.Book.{cells, found, resourced_cell}
use Rattle.session_ops.specs.declared.entry.Op.{Op}
use Rattle.session_ops.specs.declared.entry.Op.TheVariants.{Report}
use Rattle.session_ops.specs.State.{State, revision}
use Rattle.session_ops.specs.Snapshot.{listed_revision, revision_if}
use Rattle.client_sync.specs.Client.{Client as Holder, own_source, delivered, held, reported, with_report, with_message}
use Rattle.client_sync.specs.Stands.{Mirrors}
use Rattle.client_sync.specs.declared.client.Client.{Client}
use Rattle.session_ops.proofs.Live.{found-number}
use Rattle.client_sync.proofs.Viewing.{found-held, unknown-cell}

pub posted-mirrors : (n0 : Parts) (c c' : Client) (m : Holder) (op : Op) → Mirrors n0 c m → c' ≡ record c { outbox = c'.outbox } → c'.outbox ≡ c.outbox ++ op ∷ [] → Mirrors n0 c' (with_message m op)
posted-mirrors n0 c c' m op is same e =
    subst (λ (x : Client). Mirrors n0 x (with_message m op)) (sym same)
    (record {
      number = is.number;
      cursor = is.cursor;
      book = is.book;
      revs = is.revs;
      pending = is.pending;
      outbox = e ∙ ap (λ os. os ++ op ∷ []) is.outbox;
      nothing = is.nothing;
      apart = is.apart;
      fits = is.fits;
      texts = is.texts;
      notebook = is.notebook;
      made = is.made;
    })

-- the cells of the client's own are those of the server
held-here : (n0 : Parts) (c : Client) (m : Holder) (k : ℕ) → Mirrors n0 c m → found k (cells (held n0 m)) ≡ found k (cells c.book)
held-here n0 c m k is = ap (λ n. found k (cells n)) (sym is.book)

-- no cell has the number
pub report-unknown : (n0 : Parts) (c : Client) (m : Holder) (k : ℕ) → Mirrors n0 c m → None ≡ listed_revision k c.revs → reported n0 m k ≡ None
report-unknown n0 c m k is e = ap (with_report m k (revision (delivered n0 m) k)) (held-here n0 c m k is ∙ unknown-cell n0 c m k is e)

-- the cell's revision is posted
report-some : (s : State) (m : Holder) (f : Cell → List ℕ) (k rev : ℕ) (o : Option Cell) → ((c : Cell) → o ≡ Some c → c.id ≡ k) → Some rev ≡ revision_if s o → with_report m k (revision s k) (option_map (resourced_cell f) o) ≡ Some (with_message m (Report k rev))
report-some s m f k rev None number e = absurd (cc e)
report-some s m f k rev (Some c) number e =
    let same : rev ≡ revision s c.id = cc e in
    ap (λ r. Some (with_message m (Report k r))) (ap (revision s) (sym (number c refl)) ∙ sym same)

pub report-known : (n0 : Parts) (c : Client) (m : Holder) (k rev : ℕ) → Mirrors n0 c m → Some rev ≡ listed_revision k c.revs → reported n0 m k ≡ Some (with_message m (Report k rev))
report-known n0 c m k rev is e =
    let s : State = delivered n0 m in
    ap (with_report m k (revision s k)) (held-here n0 c m k is ∙ found-held n0 c m k is)
    ∙ report-some s m (own_source m.pending) k rev (found k (cells s.book)) (λ x there. found-number k (cells s.book) x there) (e ∙ is.revs.each k)
