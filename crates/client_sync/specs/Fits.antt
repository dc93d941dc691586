-- When pending edits fit what the server had.
use Rattle.std.specs.Prelude.{◌≡◌, ℕ, List, Some}
use Rattle.delta.specs.Moves.{FitsText, text_after}
use Rattle.notebook.specs.declared.parts.Cell.{Cell}
use Rattle.notebook.specs.declared.parts.Parts.{Parts}
use Rattle.notebook.specs.Book.{cells, found}
use Rattle.session_ops.specs.State.{State}
use Rattle.client_sync.specs.Client.{Pending}

-- the live cell of a number has this source
pub record HasSource (n : Parts) (k : ℕ) (t : List ℕ) : Type 0 where
  pub own : Cell
  pub there : found k (cells n) ≡ Some own
  pub source : own.source ≡ t

-- the cell lives; what is in flight fits its source at the client's last delivery, and what is buffered fits what that gives
pub record FitsHere (s : State) (k : ℕ) (p : Pending) : Type 0 where
  pub source : List ℕ
  pub there : HasSource s.book k source
  pub flight : FitsText p.flight source
  pub buffer : FitsText p.buffer (text_after p.flight source)
