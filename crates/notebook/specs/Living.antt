-- Which live cells there are after a change.
use Rattle.std.specs.Prelude.{◌≡◌, ℕ, if◌then◌else◌, List, [], ◌∷◌, Option, Some, None, is_some}
use Rattle.std.specs.List.{AllByRecursion}
use Rattle.notebook.specs.declared.parts.Cell.{Cell}
use Rattle.notebook.specs.declared.parts.Parts.{Parts}
use Rattle.notebook.specs.declared.change.Change.{Change}
use Rattle.notebook.specs.declared.change.Change.TheVariants.{DeleteSection, InsertCell, DeleteCell, RestoreCell}
use Rattle.notebook.specs.Book.{cells, found, section_cells}
use Rattle.notebook.specs.Change.{cells_in, kind_of, new_cell, renumbered}

-- a list of the one, or of none
abbrev pub listed : {X : Type 0} → Option X → List X
listed None = []
listed (Some x) = x ∷ []

-- the first, or else the second
abbrev pub first_or : {X : Type 0} → Option X → Option X → Option X
first_or None other = other
first_or (Some x) other = Some x

-- the live cells that a change takes away, if it isn't refused
abbrev pub gone_cells : Parts → Change → List Cell
gone_cells n (DeleteSection section) = cells_in section n.sections
gone_cells n (DeleteCell cell) = listed (found cell (section_cells n))
gone_cells n asked = []

-- a restored cell
abbrev pub restored : ℕ → Option Cell → List Cell
restored id None = []
restored id (Some c) = renumbered id c ∷ []

-- the live cells that it makes, if it isn't refused
abbrev pub made_cells : Parts → Change → List Cell
made_cells n (InsertCell section index kind) = new_cell n.next_cell (kind_of kind) ∷ []
made_cells n (RestoreCell cell section index) = restored n.next_cell (found cell n.bin)
made_cells n asked = []

-- the live cell of the number afterwards: none where it is gone, the new one where one was made, and else the same
abbrev pub lives_on : Parts → Change → ℕ → Option Cell
lives_on n asked id = if is_some (found id (gone_cells n asked)) then None else first_or (found id (made_cells n asked)) (found id (cells n))

-- each of these cells has the source that f gives it
abbrev pub HasSourceOf : (Cell → List ℕ) → Cell → Type 0
HasSourceOf f c = f c ≡ c.source

abbrev pub HaveSourcesOf : (Cell → List ℕ) → List Cell → Type 0
HaveSourcesOf f cs = AllByRecursion (HasSourceOf f) cs
