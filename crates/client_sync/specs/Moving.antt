-- Another's delta at a client.
use Rattle.std.specs.Prelude.{◌≡◌, ℕ, true, List, Option, Some, None}
use Rattle.delta.specs.declared.Step.{Step}
use Rattle.delta.specs.Moves.{transformed}
use Rattle.notebook.specs.declared.parts.Parts.{Parts}
use Rattle.session_ops.specs.Deeds.{FitsCell, book_after}
use Rattle.client_sync.specs.Client.{Client as Holder, Pending, pending_of, all_moved}
use Rattle.client_sync.specs.Revisions.{raised}
use Rattle.client_sync.specs.Stands.{HasEdits, HaveServerTexts}
use Rattle.client_sync.specs.declared.client.Client.{Client}

-- another's delta moved over what is in flight and then over what is buffered
abbrev pub over_pending : List Step → Pending → List Step
over_pending x p = transformed true p.buffer (transformed true p.flight x)

-- the same, where nothing may be pending
abbrev pub over_option : List Step → Option Pending → List Step
over_option x None = x
over_option x (Some p) = over_pending x p

-- another's delta fits the server's source of a cell, and moved over what is pending it fits the client's own
pub record FitsBoth (n : Parts) (c : Client) (m : Holder) (cell : ℕ) (x : List Step) : Type 0 where
  pub server : FitsCell n cell x
  pub own : FitsCell c.book cell (over_option x (pending_of cell m.pending))

-- a client that has another's delta: what is pending is moved over it, it is done to the cell's own source, moved over what was pending, and the cell's revision is this one
pub record IsMovedOver (n : Parts) (c c' : Client) (m : Holder) (cell rev : ℕ) (x : List Step) : Type 0 where
  pub edits : HasEdits c'.pending c'.outbox (record m { pending = all_moved cell x m.pending })
  pub texts : HaveServerTexts (book_after cell x n) c'.pending
  pub same : c' ≡ record c { book = book_after cell (over_option x (pending_of cell m.pending)) c.book; revs = raised cell rev c.revs; pending = c'.pending }
