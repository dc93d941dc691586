-- Which books a reader accepts: texts that aren't too large, with few sections and few cells.
use Rattle.limits.specs.Limits.{most_file_bytes, most_sections, most_cells, most_code_cells}
use Rattle.std.specs.Prelude.{◌⊎◌, ℕ, ◌<◌, ◌≤◌, List, length, IsUtf8}
use Rattle.notebook.specs.declared.parts.Parts.{Parts}
use Rattle.notebook.specs.Book.{section_cells}
use Rattle.notebook.specs.Rules.{code_count}
use Rattle.livemd_format.specs.Made.{notebook_of}
use Rattle.livemd_format.specs.Reads.{items_of}

-- at most 8,388,608 bytes
abbrev pub IsSmall : List ℕ → Type 0
IsSmall bytes = length bytes ≤ most_file_bytes

-- a text that isn't too large
pub record IsBookText (bytes : List ℕ) : Type 0 where
  pub small : IsSmall bytes
  pub text : IsUtf8 bytes

-- at most 1,000 sections
abbrev pub HasFewSections : Parts → Type 0
HasFewSections n = length n.sections ≤ most_sections

-- at most 4,000 cells beside the setup cell, and 1,000 code cells among them
pub record HasFewCells (n : Parts) : Type 0 where
  pub cells : length (section_cells n) ≤ most_cells
  pub code_cells : code_count (section_cells n) ≤ most_code_cells

abbrev pub HasManyCells : Parts → Type 0
HasManyCells n = (most_cells < length (section_cells n)) ⊎ (most_code_cells < code_count (section_cells n))

-- a book that nothing but want of memory keeps from being read
pub record IsAccepted (bytes : List ℕ) : Type 0 where
  pub text : IsBookText bytes
  pub few_sections : HasFewSections (notebook_of (items_of bytes))
  pub few_cells : HasFewCells (notebook_of (items_of bytes))
