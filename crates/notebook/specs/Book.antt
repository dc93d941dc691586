-- What a notebook holds, and how a source is replaced.
use Rattle.std.specs.Prelude.{ℕ, ◌==◌, if◌then◌else◌, List, [], ◌∷◌, Option, Some, None, IsSome, codes}
use Rattle.std.specs.List.{flat_map}
use Rattle.notebook.specs.declared.parts.Cell.{Cell}
use Rattle.notebook.specs.declared.parts.Section.{Section}
use Rattle.notebook.specs.declared.parts.Parts.{Parts}
use Rattle.notebook.specs.declared.parts.Kind.TheVariants.{Setup}

-- the cells of a section
abbrev pub cells_of : Section → List Cell
cells_of s = s.cells

-- the cells of the sections, in notebook order
abbrev pub section_cells : Parts → List Cell
section_cells n = flat_map cells_of n.sections

-- the live cells in notebook order: the setup cell, then those of the sections
abbrev pub cells : Parts → List Cell
cells n = n.setup ∷ section_cells n

-- the first of some cells that has the number
abbrev pub found : ℕ → List Cell → Option Cell
found id [] = None
found id (c ∷ cs) = if c.id == id then Some c else found id cs

-- a live cell has the number
abbrev pub IsLive : Parts → ℕ → Type 0
IsLive n id = IsSome (found id (cells n))

-- a cell with the source that f makes of it
abbrev pub resourced_cell : (Cell → List ℕ) → Cell → Cell
resourced_cell f c = record c { source = f c }

-- the same of each of some cells, and of each cell of some sections
abbrev pub resourced_cells : (Cell → List ℕ) → List Cell → List Cell
resourced_cells f [] = []
resourced_cells f (c ∷ cs) = resourced_cell f c ∷ resourced_cells f cs

abbrev pub resourced_sections : (Cell → List ℕ) → List Section → List Section
resourced_sections f [] = []
resourced_sections f (s ∷ ss) = record s { cells = resourced_cells f s.cells } ∷ resourced_sections f ss

-- the notebook in which each live cell has the source that f makes of it
abbrev pub resourced : (Cell → List ℕ) → Parts → Parts
resourced f n = record n { setup = resourced_cell f n.setup; sections = resourced_sections f n.sections }

-- the source for one cell, and each other cell's own
abbrev pub source_for : ℕ → List ℕ → Cell → List ℕ
source_for id source c = if c.id == id then source else c.source

-- the notebook in which the live cell of the number has the source
abbrev pub with_source : ℕ → List ℕ → Parts → Parts
with_source id source n = resourced (source_for id source) n

-- the setup cell of a new notebook
abbrev pub empty_setup : Cell
empty_setup = record { id = 0; kind = Setup; source = []; before = []; saved = [] }

-- a new notebook: it has no section
abbrev pub untitled : Parts
untitled = record { name = codes "Untitled notebook"; before = []; setup = empty_setup; sections = []; bin = []; after = []; next_cell = 1; next_section = 1 }
