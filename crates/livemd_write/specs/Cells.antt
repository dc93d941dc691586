-- One cell after the other is put.
use Rattle.std.specs.Prelude.{◌≡◌, ℕ, ◌+◌, ◌≤◌, List, ◌∷◌, ◌++◌, filter}
use Rattle.notebook.specs.declared.parts.Cell.{Cell}
use Rattle.livemd_format.specs.Tidy.{numbered, stays, tidy_cell}

-- the cell is put with the number if it stays, and then the next ones are numbered on
pub record PutsCell (old : List Cell) (id : ℕ) (c : Cell) (new : List Cell) (next : ℕ) : Type 0 where
  pub step : (rest : List Cell) → new ++ numbered next (filter stays rest) ≡ old ++ numbered id (filter stays (tidy_cell c ∷ rest))
  pub bound : next ≤ id + 1
