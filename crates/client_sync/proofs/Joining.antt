-- A client that has just joined.
use Rattle.std.proofs.Common.{◌≡◌, ℕ, List, [], length, map, sym, ap, subst, ◌∙◌}
use Rattle.notebook.specs.declared.parts.Parts.{Parts}
use Rattle.notebook.specs.Rules.{IsNotebook}
use Rattle.session_ops.specs.declared.entry.Entry.{Entry}
use Rattle.session_ops.specs.State.{state}
use Rattle.session_ops.specs.Snapshot.{HasRevisions, IsSnapshot, Snapshot}
use Rattle.client_sync.specs.Client.{joined_client}
use Rattle.client_sync.specs.Stands.{HaveServerTexts, Mirrors, pending_in}
use Rattle.session_ops.specs.Born.{TouchesMadeCells}
use Rattle.client_sync.specs.declared.client.Client.{Client}
use Rattle.client_sync.proofs.Holding.{note-stays}

pub join-mirrors : (n0 : Parts) (seen : List Entry) (x : Snapshot) (c : Client) (number : ℕ) → IsSnapshot (state n0 seen) (length seen) x → IsNotebook x.book → TouchesMadeCells (state n0 seen) → c.number ≡ number → c.cursor ≡ x.cursor → c.book ≡ x.book → c.revs ≡ x.revs → c.pending ≡ [] → c.outbox ≡ [] → c.nothing ≡ [] → Mirrors n0 c (joined_client number seen)
join-mirrors n0 seen x c number is rules made en ec eb er ep eo e =
    record {
      number = en;
      cursor = ec ∙ is.cursor;
      book = eb ∙ (is.book ∙ sym (note-stays (state n0 seen).book));
      revs = subst (HasRevisions (state n0 seen)) (sym er) is.revs;
      pending = ap (map pending_in) ep;
      outbox = eo;
      nothing = e;
      apart = tt;
      fits = λ k p h. absurd (cc h);
      texts = subst (HaveServerTexts (state n0 seen).book) (sym ep) tt;
      notebook = subst IsNotebook is.book rules;
      made = made;
    }
