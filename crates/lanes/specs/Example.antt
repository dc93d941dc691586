-- A notebook for worked examples: two sections in the main lane, and two branches of the first.
use Rattle.std.specs.Prelude.{ℕ, List, [], ◌∷◌, Option, Some, None}
use Rattle.notebook.specs.declared.parts.Cell.{Cell}
use Rattle.notebook.specs.declared.parts.Section.{Section}
use Rattle.notebook.specs.declared.parts.Parts.{Parts}
use Rattle.notebook.specs.declared.parts.Kind.TheVariants.{Code}
use Rattle.notebook.specs.Book.{untitled}

-- a code cell without source
abbrev pub blank : ℕ → Cell
blank id = record { id = id; kind = Code; source = []; before = []; saved = [] }

abbrev pub section_of : ℕ → Option ℕ → List Cell → Section
section_of id parent cells = record { id = id; name = []; before = []; parent = parent; cells = cells }

-- cells 1 and 2 in the first section, 3 and 4 in the second, which has this parent, 5 in a branch of the first, and these in the last
abbrev pub example_sections : Option ℕ → List Cell → List Section
example_sections parent last = section_of 1 None (blank 1 ∷ blank 2 ∷ []) ∷ section_of 2 parent (blank 3 ∷ blank 4 ∷ []) ∷ section_of 3 (Some 1) (blank 5 ∷ []) ∷ section_of 4 None last ∷ []

abbrev pub example : Option ℕ → List Cell → Parts
example parent last = record untitled { name = []; sections = example_sections parent last; next_cell = 7; next_section = 5 }
