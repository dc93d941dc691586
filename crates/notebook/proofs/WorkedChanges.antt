-- Worked changes, by computation: a check of the definitions.
use Rattle.std.proofs.Common.{◌≡◌, ℕ, List, [], ◌∷◌, ◌++◌, Option, Some, None, map, refl, codes}
use Rattle.notebook.specs.declared.parts.Cell.{Cell}
use Rattle.notebook.specs.declared.parts.Section.{Section}
use Rattle.notebook.specs.declared.parts.Parts.{Parts}
use Rattle.notebook.specs.declared.parts.Kind.{Kind}
use Rattle.notebook.specs.declared.parts.Kind.TheVariants as kinds
use Rattle.notebook.specs.declared.change.CellKind.TheVariants as cell_kinds
use Rattle.notebook.specs.declared.change.Change.{Change}
use Rattle.notebook.specs.declared.change.Change.TheVariants.{SetName, InsertSection, SetSectionName, DeleteSection, MoveSection, SetParent, InsertCell, DeleteCell, RestoreCell, MoveCell}
use Rattle.notebook.specs.declared.change.Changed.{Changed}
use Rattle.notebook.specs.declared.change.Changed.TheVariants.{Plain, NewCell, NewSection}
use Rattle.notebook.specs.declared.change.NoteError.{NoteError}
use Rattle.notebook.specs.declared.change.NoteError.TheVariants.{NoCell, NoSection, BadIndex, BadParent, HasBranches}
use Rattle.notebook.specs.Book.{untitled, cells}
use Rattle.notebook.specs.Rules.{cell_number}
use Rattle.notebook.specs.Change.{Attempt, Makes, Fails, change}
use Rattle.notebook.specs.Living.{lives_on}

abbrev cell : ℕ → Kind → List ℕ → Cell
cell id kind source = record { id = id; kind = kind; source = source; before = []; saved = [] }

abbrev section : ℕ → Option ℕ → List Cell → Section
section id parent cells = record { id = id; name = []; before = []; parent = parent; cells = cells }

-- a section, two branches of it, and another section; one deleted cell
abbrev book : Parts
book = record untitled {
  sections = section 1 None (cell 1 kinds.Code (codes "a") ∷ cell 2 kinds.Markdown (codes "b") ∷ [])
      ∷ section 2 (Some 1) (cell 3 kinds.Code (codes "c") ∷ [])
      ∷ section 3 (Some 1) []
      ∷ section 4 None (cell 4 kinds.Code (codes "d") ∷ cell 5 kinds.Code (codes "e") ∷ [])
      ∷ [];
  bin = cell 6 kinds.Markdown (codes "f") ∷ [];
  next_cell = 7;
  next_section = 5;
}

-- each section's number and the numbers of its cells, and those of the bin; then the next numbers
abbrev outline_of : List Section → List (List ℕ)
outline_of [] = []
outline_of (s ∷ ss) = (s.id ∷ map cell_number s.cells) ∷ outline_of ss

abbrev outline : Parts → List (List ℕ)
outline n = outline_of n.sections ++ (map cell_number n.bin ∷ (n.next_cell ∷ n.next_section ∷ []) ∷ [])

data Seen : Type 0 where
  Gives : List (List ℕ) → Changed → Seen
  Refused : NoteError → Seen

abbrev seen : Attempt → Seen
seen (Makes n made) = Gives (outline n) made
seen (Fails e) = Refused e

abbrev tried : Change → Seen
tried asked = seen (change book asked)

-- the name
named : change book (SetName (codes "N")) ≡ Makes (record book { name = codes "N" }) Plain
named = refl

-- new sections
section_first : tried (InsertSection 0 []) ≡ Gives ((5 ∷ []) ∷ (1 ∷ 1 ∷ 2 ∷ []) ∷ (2 ∷ 3 ∷ []) ∷ (3 ∷ []) ∷ (4 ∷ 4 ∷ 5 ∷ []) ∷ (6 ∷ []) ∷ (7 ∷ 6 ∷ []) ∷ []) (NewSection 5)
section_first = refl

section_last : tried (InsertSection 4 []) ≡ Gives ((1 ∷ 1 ∷ 2 ∷ []) ∷ (2 ∷ 3 ∷ []) ∷ (3 ∷ []) ∷ (4 ∷ 4 ∷ 5 ∷ []) ∷ (5 ∷ []) ∷ (6 ∷ []) ∷ (7 ∷ 6 ∷ []) ∷ []) (NewSection 5)
section_last = refl

section_past : tried (InsertSection 5 []) ≡ Refused (BadIndex 4)
section_past = refl

-- a section's name
section_name : change (record book { sections = section 1 None [] ∷ [] }) (SetSectionName 1 (codes "N")) ≡ Makes (record book { sections = record { id = 1; name = codes "N"; before = []; parent = None; cells = [] } ∷ [] }) Plain
section_name = refl

no_section_name : tried (SetSectionName 5 []) ≡ Refused NoSection
no_section_name = refl

-- a deleted section
deleted_section : tried (DeleteSection 4) ≡ Gives ((1 ∷ 1 ∷ 2 ∷ []) ∷ (2 ∷ 3 ∷ []) ∷ (3 ∷ []) ∷ (6 ∷ 4 ∷ 5 ∷ []) ∷ (7 ∷ 5 ∷ []) ∷ []) Plain
deleted_section = refl

deleted_parent : tried (DeleteSection 1) ≡ Refused HasBranches
deleted_parent = refl

deleted_none : tried (DeleteSection 0) ≡ Refused NoSection
deleted_none = refl

-- a moved section: the index counts among the others
moved_section : tried (MoveSection 4 0) ≡ Gives ((4 ∷ 4 ∷ 5 ∷ []) ∷ (1 ∷ 1 ∷ 2 ∷ []) ∷ (2 ∷ 3 ∷ []) ∷ (3 ∷ []) ∷ (6 ∷ []) ∷ (7 ∷ 5 ∷ []) ∷ []) Plain
moved_section = refl

moved_last : tried (MoveSection 2 3) ≡ Gives ((1 ∷ 1 ∷ 2 ∷ []) ∷ (3 ∷ []) ∷ (4 ∷ 4 ∷ 5 ∷ []) ∷ (2 ∷ 3 ∷ []) ∷ (6 ∷ []) ∷ (7 ∷ 5 ∷ []) ∷ []) Plain
moved_last = refl

moved_past : tried (MoveSection 2 4) ≡ Refused (BadIndex 3)
moved_past = refl

moved_before_parent : tried (MoveSection 2 0) ≡ Refused BadParent
moved_before_parent = refl

moved_after_branch : tried (MoveSection 1 1) ≡ Refused BadParent
moved_after_branch = refl

moved_none : tried (MoveSection 5 9) ≡ Refused NoSection
moved_none = refl

-- parents

new_parent : change book (SetParent 4 (Some 1)) ≡ Makes (record book { sections = section 1 None (cell 1 kinds.Code (codes "a") ∷ cell 2 kinds.Markdown (codes "b") ∷ []) ∷ section 2 (Some 1) (cell 3 kinds.Code (codes "c") ∷ []) ∷ section 3 (Some 1) [] ∷ section 4 (Some 1) (cell 4 kinds.Code (codes "d") ∷ cell 5 kinds.Code (codes "e") ∷ []) ∷ [] }) Plain
new_parent = refl

parent_of_none : tried (SetParent 1 None) ≡ Gives (outline book) Plain
parent_of_none = refl

own_parent : tried (SetParent 4 (Some 4)) ≡ Refused BadParent
own_parent = refl

later_parent : tried (SetParent 2 (Some 4)) ≡ Refused BadParent
later_parent = refl

branch_as_parent : tried (SetParent 4 (Some 2)) ≡ Refused BadParent
branch_as_parent = refl

parent_first : change (record book { sections = section 4 None [] ∷ section 1 None [] ∷ section 2 (Some 1) [] ∷ [] }) (SetParent 1 (Some 4)) ≡ Fails HasBranches
parent_first = refl

-- a bad parent is told before branches
parent_before_branches : tried (SetParent 1 (Some 4)) ≡ Refused BadParent
parent_before_branches = refl

parent_not_there : tried (SetParent 1 (Some 5)) ≡ Refused NoSection
parent_not_there = refl

section_not_there : tried (SetParent 5 None) ≡ Refused NoSection
section_not_there = refl

-- new cells
new_cell : tried (InsertCell 1 1 cell_kinds.Code) ≡ Gives ((1 ∷ 1 ∷ 7 ∷ 2 ∷ []) ∷ (2 ∷ 3 ∷ []) ∷ (3 ∷ []) ∷ (4 ∷ 4 ∷ 5 ∷ []) ∷ (6 ∷ []) ∷ (8 ∷ 5 ∷ []) ∷ []) (NewCell 7)
new_cell = refl

new_cell_past : tried (InsertCell 2 2 cell_kinds.Code) ≡ Refused (BadIndex 1)
new_cell_past = refl

new_cell_nowhere : tried (InsertCell 5 0 cell_kinds.Code) ≡ Refused NoSection
new_cell_nowhere = refl

-- deleted cells
deleted_cell : tried (DeleteCell 1) ≡ Gives ((1 ∷ 2 ∷ []) ∷ (2 ∷ 3 ∷ []) ∷ (3 ∷ []) ∷ (4 ∷ 4 ∷ 5 ∷ []) ∷ (6 ∷ 1 ∷ []) ∷ (7 ∷ 5 ∷ []) ∷ []) Plain
deleted_cell = refl

deleted_setup : tried (DeleteCell 0) ≡ Refused NoCell
deleted_setup = refl

deleted_again : tried (DeleteCell 6) ≡ Refused NoCell
deleted_again = refl

-- restored cells
restored_cell : tried (RestoreCell 6 3 0) ≡ Gives ((1 ∷ 1 ∷ 2 ∷ []) ∷ (2 ∷ 3 ∷ []) ∷ (3 ∷ 7 ∷ []) ∷ (4 ∷ 4 ∷ 5 ∷ []) ∷ [] ∷ (8 ∷ 5 ∷ []) ∷ []) (NewCell 7)
restored_cell = refl

restored_live : tried (RestoreCell 1 3 0) ≡ Refused NoCell
restored_live = refl

restored_nowhere : tried (RestoreCell 6 5 9) ≡ Refused NoSection
restored_nowhere = refl

restored_past : tried (RestoreCell 6 3 1) ≡ Refused (BadIndex 0)
restored_past = refl

-- moved cells: the index counts among the others
moved_within : tried (MoveCell 4 4 1) ≡ Gives ((1 ∷ 1 ∷ 2 ∷ []) ∷ (2 ∷ 3 ∷ []) ∷ (3 ∷ []) ∷ (4 ∷ 5 ∷ 4 ∷ []) ∷ (6 ∷ []) ∷ (7 ∷ 5 ∷ []) ∷ []) Plain
moved_within = refl

moved_within_past : tried (MoveCell 4 4 2) ≡ Refused (BadIndex 1)
moved_within_past = refl

moved_across : tried (MoveCell 2 4 2) ≡ Gives ((1 ∷ 1 ∷ []) ∷ (2 ∷ 3 ∷ []) ∷ (3 ∷ []) ∷ (4 ∷ 4 ∷ 5 ∷ 2 ∷ []) ∷ (6 ∷ []) ∷ (7 ∷ 5 ∷ []) ∷ []) Plain
moved_across = refl

moved_setup : tried (MoveCell 0 4 0) ≡ Refused NoCell
moved_setup = refl

moved_nowhere : tried (MoveCell 1 5 9) ≡ Refused NoSection
moved_nowhere = refl

-- the same cell, gone, or new
same_cell : lives_on book (DeleteSection 4) 1 ≡ Some (cell 1 kinds.Code (codes "a"))
same_cell = refl

gone_cell : lives_on book (DeleteSection 4) 5 ≡ None
gone_cell = refl

made_cell : lives_on book (RestoreCell 6 3 0) 7 ≡ Some (cell 7 kinds.Markdown (codes "f"))
made_cell = refl
