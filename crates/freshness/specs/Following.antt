-- Marks that follow a notebook.
use Rattle.std.specs.Prelude.{◌≡◌, ℕ, Bool, if◌then◌else◌, List, [], ◌∷◌, ◌++◌, is_some, map, filter, find, flat_map}
use Rattle.notebook.specs.declared.parts.Section.{Section}
use Rattle.notebook.specs.declared.parts.Parts.{Parts}
use Rattle.notebook.specs.Rules.{cell_number}
use Rattle.notebook.specs.Flow.{section_code}
use Rattle.freshness.specs.declared.mark.Mark.{Mark}
use Rattle.freshness.specs.Marked.{is_live, is_mark_of, new_mark}

-- the numbers of the setup cell and the code cells, in notebook order
abbrev pub section_numbers : Section → List ℕ
section_numbers s = map cell_number (section_code s)

abbrev pub code_numbers : Parts → List ℕ
code_numbers n = n.setup.id ∷ flat_map section_numbers n.sections

-- the marks with a new one for a cell, and for each of some cells, that has none
abbrev pub with_mark : ℕ → List Mark → List Mark
with_mark cell ms = if is_some (find (is_mark_of cell) ms) then ms else ms ++ new_mark cell ∷ []

abbrev pub with_marks : List ℕ → List Mark → List Mark
with_marks [] ms = ms
with_marks (k ∷ ks) ms = with_marks ks (with_mark k ms)

-- of these the marks of live setup and code cells
abbrev pub mark_lives : Parts → Mark → Bool
mark_lives n m = is_live n m.cell

abbrev pub followed : Parts → List Mark → List Mark
followed n ms = filter (mark_lives n) (with_marks (code_numbers n) ms)

-- more marks stand at the end
pub record Extends (old new : List Mark) : Type 0 where
  pub more : List Mark
  pub whole : new ≡ old ++ more
