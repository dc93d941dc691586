-- What an edit makes of a cell's text in the client's own notebook.
use Rattle.std.specs.Prelude.{◌≡◌, ◌<◌, ◌≤◌, ℕ, List, Some, None}
use Rattle.delta.specs.declared.Step.{Step}
use Rattle.delta.specs.Steps.{inserted_by}
use Rattle.delta.specs.Moves.{FitsText, text_after}
use Rattle.delta_laws.specs.Misfits.{Misfit, Past, Splits, misfit}
use Rattle.limits.specs.Limits.{most_inserted}
use Rattle.notebook.specs.declared.parts.Cell.{Cell}
use Rattle.notebook.specs.declared.parts.Parts.{Parts}
use Rattle.notebook.specs.Book.{cells, found}
use Rattle.client_sync.specs.declared.edit_error.EditError.{EditError}
use Rattle.client_sync.specs.declared.edit_error.EditError.TheVariants.{NoCell, EditTooLong, PastEnd, SplitsPair, OutOfMemory}

-- the text of a cell after an edit that isn't too long and fits it
pub record IsOwnText (n : Parts) (cell : ℕ) (d : List Step) (made : List ℕ) : Type 0 where
  pub own : Cell
  pub there : found cell (cells n) ≡ Some own
  pub short : inserted_by d ≤ most_inserted
  pub fits : FitsText d own.source
  pub text : made ≡ text_after d own.source

-- the edit isn't too long, and doesn't fit the cell for this reason
pub record IsOwnMisfit (n : Parts) (cell : ℕ) (d : List Step) (why : Misfit) : Type 0 where
  pub own : Cell
  pub there : found cell (cells n) ≡ Some own
  pub short : inserted_by d ≤ most_inserted
  pub unfit : misfit d own.source ≡ Some why

-- the client has the cell, and the edit isn't too long
pub record IsForCell (n : Parts) (cell : ℕ) (d : List Step) : Type 0 where
  pub own : Cell
  pub there : found cell (cells n) ≡ Some own
  pub short : inserted_by d ≤ most_inserted

-- why the edit is refused; want of memory is told only past the cell and the length
abbrev pub IsOwnFault : Parts → ℕ → List Step → EditError → Type 0
IsOwnFault n cell d NoCell = found cell (cells n) ≡ None
IsOwnFault n cell d EditTooLong = ((c : Cell) × (found cell (cells n) ≡ Some c)) × (most_inserted < inserted_by d)
IsOwnFault n cell d (PastEnd len) = IsOwnMisfit n cell d (Past len)
IsOwnFault n cell d (SplitsPair at) = IsOwnMisfit n cell d (Splits at)
IsOwnFault n cell d OutOfMemory = IsForCell n cell d

-- a cell's source
abbrev pub source_of : Cell → List ℕ
source_of c = c.source
