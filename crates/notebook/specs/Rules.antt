-- The rules that each notebook keeps.
use Rattle.std.specs.Prelude.{◌≡◌, ℕ, ◌+◌, ◌<◌, ◌≤◌, List, [], ◌∷◌, ◌++◌, length, map, Option, Some, None, Contains}
use Rattle.std.specs.List.{AllByRecursion}
use Rattle.limits.specs.Limits.{most_sections, most_cells, most_code_cells, numbers_end}
use Rattle.notebook.specs.declared.parts.Cell.{Cell}
use Rattle.notebook.specs.declared.parts.Section.{Section}
use Rattle.notebook.specs.declared.parts.Parts.{Parts}
use Rattle.notebook.specs.declared.parts.Kind.{Kind}
use Rattle.notebook.specs.declared.parts.Kind.TheVariants.{Setup, Code, Markdown}
use Rattle.notebook.specs.Book.{section_cells}

-- the numbers of cells and of sections
abbrev pub cell_number : Cell → ℕ
cell_number c = c.id

abbrev pub section_number : Section → ℕ
section_number s = s.id

-- no number stands twice
abbrev pub AreDistinct : List ℕ → Type 0
AreDistinct [] = Unit {0}
AreDistinct (n ∷ ns) = (¬ Contains ns n) × AreDistinct ns

-- code or Markdown
abbrev pub IsSectionKind : Kind → Type 0
IsSectionKind Setup = ⊥
IsSectionKind Code = Unit {0}
IsSectionKind Markdown = Unit {0}

abbrev pub IsSectionCell : Cell → Type 0
IsSectionCell c = IsSectionKind c.kind

abbrev pub IsBelow : ℕ → ℕ → Type 0
IsBelow next n = n < next

-- one of these sections is the parent, and has none itself
abbrev pub IsParentAmong : List Section → Option ℕ → Type 0
IsParentAmong before None = Unit {0}
IsParentAmong before (Some parent) = (s : Section) × (Contains before s × ((s.id ≡ parent) × (s.parent ≡ None)))

-- each parent stands before its branch, where these sections stand before
abbrev pub ParentsStand : List Section → List Section → Type 0
ParentsStand before [] = Unit {0}
ParentsStand before (s ∷ ss) = IsParentAmong before s.parent × ParentsStand (before ++ s ∷ []) ss

-- 1 for a code cell
abbrev pub code_weight : Kind → ℕ
code_weight Setup = 0
code_weight Code = 1
code_weight Markdown = 0

abbrev pub code_count : List Cell → ℕ
code_count [] = 0
code_count (c ∷ cs) = code_weight c.kind + code_count cs

-- the cells that have a number of their own beside the setup cell's: the bin's too
abbrev pub numbered_cells : Parts → List Cell
numbered_cells n = section_cells n ++ n.bin

-- what each notebook keeps
pub record IsNotebook (n : Parts) : Type 0 where
  pub setup_number : n.setup.id ≡ 0
  pub setup_kind : n.setup.kind ≡ Setup
  pub kinds : AllByRecursion IsSectionCell (numbered_cells n)
  pub cell_numbers : AreDistinct (0 ∷ map cell_number (numbered_cells n))
  pub next_cell : AllByRecursion (IsBelow n.next_cell) (0 ∷ map cell_number (numbered_cells n))
  pub section_numbers : AreDistinct (0 ∷ map section_number n.sections)
  pub next_section : AllByRecursion (IsBelow n.next_section) (0 ∷ map section_number n.sections)
  pub parents : ParentsStand [] n.sections
  pub few_sections : length n.sections ≤ most_sections
  pub few_cells : length (section_cells n) ≤ most_cells
  pub few_code_cells : code_count (section_cells n) ≤ most_code_cells

-- there are numbers for one cell more and one section more
abbrev pub HasNumbers : Parts → Type 0
HasNumbers n = (n.next_cell < numbers_end) × (n.next_section < numbers_end)
