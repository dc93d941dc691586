-- Cells that are lent to be gone through one after the other, and what stands before a cell in its flow.
use Rattle.std.specs.Prelude.{◌≡◌, ℕ, Bool, true, false, List, [], ◌∷◌, ◌++◌, Option, Some, None, find}
use Rattle.std.specs.List.{list_any}
use Rattle.std.specs.Borrow.{Bor}
use Rattle.notebook.specs.declared.parts.Cell.{Cell}
use Rattle.notebook.specs.declared.parts.Section.{Section}
use Rattle.notebook.specs.declared.parts.Parts.{Parts}
use Rattle.notebook.specs.declared.before.FlowCells.{FlowCells}
use Rattle.notebook.specs.declared.before.Cut.{Cut}
use Rattle.notebook.specs.declared.before.Home.{Home}
use Rattle.notebook.specs.declared.before.Before.{Before}
use Rattle.notebook.specs.Flow.{flow, lane_of, code_cells, main_cells, is_code_numbered, has_code, is_section, up_to}

-- the cell behind a reference, if there is one
abbrev pub lent : Option (Bor Cell) → List Cell
lent None = []
lent (Some c) = c.now ∷ []

-- the cells that are left to be gone through
abbrev pub left : FlowCells → List Cell
left s = lent s.setup ++ (code_cells s.open.now ++ (main_cells s.front.now ++ code_cells s.own.now))

-- the first code cell of the number, what stands before it, and the same with the cell
pub record IsCut (cs : List Cell) (id : ℕ) (c : Cut) : Type 0 where
  pub back : List Cell
  pub parts : cs ≡ c.earlier.now ++ c.cell.now ∷ back
  pub none : list_any (is_code_numbered id) c.earlier.now ≡ false
  pub here : is_code_numbered id c.cell.now ≡ true
  pub whole : c.through.now ≡ c.earlier.now ++ c.cell.now ∷ []

-- the first section that has the code cell of the number, and the sections before it
pub record IsHome (ss : List Section) (id : ℕ) (h : Home) : Type 0 where
  pub back : List Section
  pub parts : ss ≡ h.front.now ++ h.section.now ∷ back
  pub none : find (has_code id) h.front.now ≡ None
  pub inside : IsCut h.section.now.cells id h.cut

-- the sections whose main code stands before that of a section: those before it, or for a branch those up to its parent
abbrev pub sections_before : List Section → List Section → Option ℕ → List Section
sections_before ss front None = front
sections_before ss front (Some parent) = up_to (is_section parent) ss

-- the lane of the cell of the number, the cell, what stands before it in its flow, and the flow
pub record IsBefore (n : Parts) (id : ℕ) (b : Before) : Type 0 where
  pub home : lane_of n id ≡ Some b.lane
  pub number : b.cell.now.id ≡ id
  pub ahead : flow n id ≡ Some (left b.earlier ++ b.cell.now ∷ [])
  pub whole : flow n id ≡ Some (left b.flow)
