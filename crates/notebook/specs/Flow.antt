-- Lanes of evaluation, and the cells that come before a cell in its lane.
use Rattle.std.specs.Prelude.{◌≡◌, ℕ, ◌==◌, ◌&&◌, Bool, true, false, if◌then◌else◌, List, [], ◌∷◌, ◌++◌, Option, Some, None, is_none, map, filter, find}
use Rattle.std.specs.Option.{option_map}
use Rattle.std.specs.List.{flat_map, list_any, AllByRecursion}
use Rattle.notebook.specs.declared.parts.Cell.{Cell}
use Rattle.notebook.specs.declared.parts.Section.{Section}
use Rattle.notebook.specs.declared.parts.Parts.{Parts}
use Rattle.notebook.specs.declared.parts.Passed.{Passed}
use Rattle.notebook.specs.declared.parts.Kind.{Kind}
use Rattle.notebook.specs.declared.parts.Kind.TheVariants.{Setup, Code, Markdown}
use Rattle.notebook.specs.declared.states.Lane.{Lane}
use Rattle.notebook.specs.declared.states.Lane.TheVariants.{Main, Branch}
use Rattle.notebook.specs.Rules.{cell_number}

-- code of a section
abbrev pub is_code_kind : Kind → Bool
is_code_kind Setup = false
is_code_kind Code = true
is_code_kind Markdown = false

abbrev pub is_code : Cell → Bool
is_code c = is_code_kind c.kind

-- the code cells among some cells, and those of a section
abbrev pub code_cells : List Cell → List Cell
code_cells cs = filter is_code cs

abbrev pub section_code : Section → List Cell
section_code s = code_cells s.cells

-- whether a section branches from none
abbrev pub is_main : Section → Bool
is_main s = is_none s.parent

-- no section branches from another
abbrev pub HasNoParent : Section → Type 0
HasNoParent s = s.parent ≡ None

abbrev pub IsUnbranched : Parts → Type 0
IsUnbranched n = AllByRecursion HasNoParent n.sections

-- the code cells of the sections that branch from none
abbrev pub main_cells : List Section → List Cell
main_cells ss = flat_map section_code (filter is_main ss)

-- whether a cell, and a section, has the number
abbrev pub is_cell : ℕ → Cell → Bool
is_cell id c = c.id == id

abbrev pub is_section : ℕ → Section → Bool
is_section id s = s.id == id

-- a list up to and with the first element that passes, and all of it where none does
abbrev pub up_to : {X : Type 0} → (X → Bool) → List X → List X
up_to p [] = []
up_to p (x ∷ xs) = if p x then x ∷ [] else x ∷ up_to p xs

-- the main lane's code up to the end of a section from which a branch begins
abbrev pub stem_cells : List Section → Option ℕ → List Cell
stem_cells ss None = []
stem_cells ss (Some parent) = main_cells (up_to (is_section parent) ss)

-- the code before a branch, and then its own; nothing where there is no such section
abbrev pub branch_cells : List Section → Option Section → List Cell
branch_cells ss None = []
branch_cells ss (Some branch) = stem_cells ss branch.parent ++ section_code branch

-- the same by the branch's number
abbrev pub numbered_branch_cells : List Section → ℕ → List Cell
numbered_branch_cells ss branch = branch_cells ss (find (is_section branch) ss)

-- what is evaluated one after the other in a lane: the setup cell first, in a branch then what stands before it
abbrev pub lane_cells : Parts → Lane → List Cell
lane_cells n Main = n.setup ∷ main_cells n.sections
lane_cells n (Branch section) = n.setup ∷ numbered_branch_cells n.sections section

-- the lane of a section's code
abbrev pub lane_by : ℕ → Option ℕ → Lane
lane_by id None = Main
lane_by id (Some parent) = Branch id

abbrev pub section_lane : Section → Lane
section_lane s = lane_by s.id s.parent

-- whether a section has a code cell of the number
abbrev pub is_code_numbered : ℕ → Cell → Bool
is_code_numbered id c = is_code c && is_cell id c

abbrev pub has_code : ℕ → Section → Bool
has_code id s = list_any (is_code_numbered id) s.cells

-- the lane of the setup cell or of the live code cell of the number
abbrev pub lane_of : Parts → ℕ → Option Lane
lane_of n id = if is_cell id n.setup then Some Main else option_map section_lane (find (has_code id) n.sections)

-- the cells of the cell's lane up to and with the cell itself
abbrev pub flow_in : Parts → ℕ → Lane → List Cell
flow_in n id lane = up_to (is_cell id) (lane_cells n lane)

abbrev pub flow : Parts → ℕ → Option (List Cell)
flow n id = option_map (flow_in n id) (lane_of n id)

-- the numbers of some cells up to and with that of the number
abbrev pub numbers_up_to : ℕ → List Cell → List ℕ
numbers_up_to id cs = map cell_number (up_to (is_cell id) cs)

-- the numbers of the cells of the flow
abbrev pub flow_numbers : Parts → ℕ → Option (List ℕ)
flow_numbers n id = option_map (map cell_number) (flow n id)

-- a cell that an evaluation passes, with the source that the cell has
abbrev pub passed : Cell → Passed
passed c = record { cell = c.id; source = c.source }

-- the cells of the flow, each with its present source
abbrev pub path : Parts → ℕ → Option (List Passed)
path n id = option_map (map passed) (flow n id)
