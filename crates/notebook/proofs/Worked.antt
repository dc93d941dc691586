-- Worked lanes and flows, by computation: a check of the definitions.
use Rattle.std.proofs.Common.{◌≡◌, ℕ, List, [], ◌∷◌, Option, Some, None, map, refl, codes}
use Rattle.std.specs.Option.{option_map}
use Rattle.notebook.specs.declared.parts.Cell.{Cell}
use Rattle.notebook.specs.declared.parts.Section.{Section}
use Rattle.notebook.specs.declared.parts.Parts.{Parts}
use Rattle.notebook.specs.declared.parts.Kind.{Kind}
use Rattle.notebook.specs.declared.parts.Kind.TheVariants.{Code, Markdown}
use Rattle.notebook.specs.declared.states.Lane.TheVariants.{Main, Branch}
use Rattle.notebook.specs.Book.{untitled}
use Rattle.notebook.specs.Rules.{cell_number}
use Rattle.notebook.specs.Flow.{flow, path, lane_of, lane_cells}

abbrev cell : ℕ → Kind → List ℕ → Cell
cell id kind source = record { id = id; kind = kind; source = source; before = []; saved = [] }

abbrev section : ℕ → Option ℕ → List Cell → Section
section id parent cells = record { id = id; name = []; before = []; parent = parent; cells = cells }

-- a section with a text between two code cells, its branch, another section, and a branch of each
abbrev book : Parts
book = record untitled {
  sections = section 1 None (cell 1 Code (codes "a = 1") ∷ cell 2 Markdown (codes "text") ∷ cell 3 Code (codes "b = 2") ∷ [])
      ∷ section 2 (Some 1) (cell 4 Code [] ∷ cell 5 Code [] ∷ [])
      ∷ section 3 None (cell 6 Code [] ∷ [])
      ∷ section 4 (Some 1) (cell 7 Code [] ∷ [])
      ∷ section 5 (Some 3) (cell 8 Markdown [] ∷ cell 9 Code [] ∷ [])
      ∷ [];
  next_cell = 10;
  next_section = 6;
}

abbrev flow_numbers : ℕ → Option (List ℕ)
flow_numbers id = option_map (map cell_number) (flow book id)

-- the setup cell's flow is itself
setup : flow_numbers 0 ≡ Some (0 ∷ [])
setup = refl

-- in a section that branches from none
first : flow_numbers 1 ≡ Some (0 ∷ 1 ∷ [])
first = refl

past_text : flow_numbers 3 ≡ Some (0 ∷ 1 ∷ 3 ∷ [])
past_text = refl

past_branch : flow_numbers 6 ≡ Some (0 ∷ 1 ∷ 3 ∷ 6 ∷ [])
past_branch = refl

-- in a branch: the sections that branch from none, up to its parent
branch : flow_numbers 5 ≡ Some (0 ∷ 1 ∷ 3 ∷ 4 ∷ 5 ∷ [])
branch = refl

later_branch : flow_numbers 7 ≡ Some (0 ∷ 1 ∷ 3 ∷ 7 ∷ [])
later_branch = refl

branch_of_second : flow_numbers 9 ≡ Some (0 ∷ 1 ∷ 3 ∷ 6 ∷ 9 ∷ [])
branch_of_second = refl

-- a Markdown cell has none, and neither has a number without a cell
text : flow_numbers 2 ≡ None
text = refl

no_cell : flow_numbers 10 ≡ None
no_cell = refl

-- lanes
main_lane : lane_of book 6 ≡ Some Main
main_lane = refl

setup_lane : lane_of book 0 ≡ Some Main
setup_lane = refl

branch_lane : lane_of book 7 ≡ Some (Branch 4)
branch_lane = refl

text_lane : lane_of book 8 ≡ None
text_lane = refl

main_cells : map cell_number (lane_cells book Main) ≡ 0 ∷ 1 ∷ 3 ∷ 6 ∷ []
main_cells = refl

branch_cells : map cell_number (lane_cells book (Branch 2)) ≡ 0 ∷ 1 ∷ 3 ∷ 4 ∷ 5 ∷ []
branch_cells = refl

-- a path has the sources
sources : path book 3 ≡ Some (record { cell = 0; source = [] } ∷ record { cell = 1; source = codes "a = 1" } ∷ record { cell = 3; source = codes "b = 2" } ∷ [])
sources = refl
