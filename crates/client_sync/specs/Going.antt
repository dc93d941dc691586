-- A client whose cells go, as a change takes them away.
use Rattle.std.specs.Prelude.{◌≡◌, ◌<◌, ℕ, List, [], ◌∷◌, map, Some}
use Rattle.notebook.specs.declared.parts.Parts.{Parts}
use Rattle.notebook.specs.declared.change.Changed.{Changed}
use Rattle.notebook.specs.Book.{resourced}
use Rattle.notebook.specs.Rules.{AreDistinct, IsNotebook}
use Rattle.client_sync.specs.Client.{Pending, own_source, pending_of, without}
use Rattle.client_sync.specs.Revisions.{without_revisions, with_made}
use Rattle.client_sync.specs.Stands.{HaveServerTexts, pending_in, pending_cell}
use Rattle.client_sync.specs.declared.client.Client.{Client}

-- without what is pending for the cells of these numbers
abbrev pub without_numbers : List ℕ → List Pending → List Pending
without_numbers [] ps = ps
without_numbers (cell ∷ cells) ps = without_numbers cells (without cell ps)

-- a client in memory holds this notebook with these pending edits done to it, and keeps its texts
pub record IsOver (n : Parts) (c : Client) (ps : List Pending) : Type 0 where
  pub book : c.book ≡ resourced (own_source ps) n
  pub pending : map pending_in c.pending ≡ ps
  pub apart : AreDistinct (map pending_cell ps)
  pub texts : HaveServerTexts n c.pending
  pub notebook : IsNotebook n

-- each cell with something pending has a number that was given
abbrev pub ArePendingBelow : ℕ → List Pending → Type 0
ArePendingBelow next ps = (k : ℕ) (p : Pending) → pending_of k ps ≡ Some p → k < next

-- a client in memory once all that was pending for these cells was dropped, and their revisions
pub record HasForgotten (c c' : Client) (gone : List ℕ) : Type 0 where
  pub over : (n : Parts) (ps : List Pending) → IsOver n c ps → IsOver n c' (without_numbers gone ps)
  pub next_cell : c'.book.next_cell ≡ c.book.next_cell
  pub next_section : c'.book.next_section ≡ c.book.next_section
  pub rest : c' ≡ record c { book = c'.book; revs = without_revisions gone c.revs; pending = c'.pending }

-- a client in memory once a change took these cells away: it holds the changed notebook with what is still pending done to it
pub record HasChanged (n n' : Parts) (c c' : Client) (ps : List Pending) (gone : List ℕ) (made : Changed) : Type 0 where
  pub book : c'.book ≡ resourced (own_source ps) n'
  pub pending : map pending_in c'.pending ≡ ps
  pub apart : AreDistinct (map pending_cell ps)
  pub texts : HaveServerTexts n c'.pending
  pub revs : c'.revs ≡ with_made made (without_revisions gone c.revs)
  pub same : c' ≡ record c { book = c'.book; revs = c'.revs; pending = c'.pending }
