-- Cells and their revisions, as a list.
use Rattle.std.specs.Prelude.{ℕ, ◌==◌, not, Bool, if◌then◌else◌, List, [], ◌∷◌, ◌++◌, map, filter}
use Rattle.notebook.specs.declared.change.Changed.{Changed}
use Rattle.notebook.specs.declared.change.Changed.TheVariants.{Plain, NewCell, NewSection}

-- a cell's revision is this one
abbrev pub raised_one : ℕ → ℕ → ℕ × ℕ → ℕ × ℕ
raised_one cell rev r = (r.0, if r.0 == cell then rev else r.1)

-- the same at each place of the cell
abbrev pub raised : ℕ → ℕ → List (ℕ × ℕ) → List (ℕ × ℕ)
raised cell rev rs = map (raised_one cell rev) rs

-- without a cell, and without some cells
abbrev pub is_of_another : ℕ → ℕ × ℕ → Bool
is_of_another cell r = not (r.0 == cell)

abbrev pub without_revision : ℕ → List (ℕ × ℕ) → List (ℕ × ℕ)
without_revision cell rs = filter (is_of_another cell) rs

abbrev pub without_revisions : List ℕ → List (ℕ × ℕ) → List (ℕ × ℕ)
without_revisions [] rs = rs
without_revisions (cell ∷ cells) rs = without_revisions cells (without_revision cell rs)

-- with the cell that a change made, if it made one: its revision is 0
abbrev pub with_made : Changed → List (ℕ × ℕ) → List (ℕ × ℕ)
with_made Plain rs = rs
with_made (NewCell cell) rs = rs ++ (cell, 0) ∷ []
with_made (NewSection section) rs = rs
