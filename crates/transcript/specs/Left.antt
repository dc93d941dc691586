-- What is left of a list of revisions once some cells are printed.
use Rattle.std.specs.Prelude.{◌≡◌, ℕ, List, map, Contains}
use Rattle.notebook.specs.declared.parts.Cell.{Cell}
use Rattle.notebook.specs.Rules.{cell_number}
use Rattle.transcript.specs.Texts.{rev_in}

-- both lists give each number that none of the cells has the same revision
abbrev pub LeavesOthers : List Cell → List (ℕ × ℕ) → List (ℕ × ℕ) → Type 0
LeavesOthers cells old new = (other : ℕ) → ¬ Contains (map cell_number cells) other → rev_in new other ≡ rev_in old other
