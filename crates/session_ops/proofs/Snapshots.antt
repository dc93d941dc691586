-- The live cells of a snapshot.
use Rattle.std.proofs.Common.{◌≡◌, ℕ, List, Option, Some, None, refl, ap, ◌∙◌}
use Rattle.std.specs.Prelude.{is_some}
use Rattle.notebook.specs.declared.parts.Cell.{Cell}
use Rattle.notebook.specs.Book.{cells, found}
use Rattle.session_ops.specs.Snapshot.{HasRevisions, ListsLiveCells, revision_if}
use Rattle.session_ops.specs.State.{State}

some-if : (s : State) (o : Option Cell) → is_some (revision_if s o) ≡ is_some o
some-if s None = refl
some-if s (Some c) = refl

-- the revisions of a state are listed of its live cells
pub lists-live : (s : State) (revs : List (ℕ × ℕ)) → HasRevisions s revs → ListsLiveCells s.book revs
lists-live s revs is = record { apart = is.apart; each = λ cell. ap is_some (is.each cell) ∙ some-if s (found cell (cells s.book)) }
