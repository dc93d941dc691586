-- The text of blocks, as they are put one behind the other.
use Rattle.std.specs.Prelude.{◌≡◌, ℕ, Bool, false, List, [], ◌∷◌, ◌++◌, codes, encode_utf8_all, filter, String, string_bytes}
use Rattle.std.specs.declared.alloc.Global.{Global}
use Rattle.notebook.specs.declared.parts.Cell.{Cell}
use Rattle.notebook.specs.declared.parts.Section.{Section}
use Rattle.livemd_lines.specs.Written.{text_of_lines}
use Rattle.livemd_format.specs.Tidy.{changed, stays, tidy_before, tidy_cell, tidy_cells, tidy_name}
use Rattle.livemd_format.specs.Write.{Block, branch_blocks, cell_blocks, kept_blocks, line_block}

-- blocks, each behind an empty line
abbrev pub blocks_text : List Block → List ℕ
blocks_text [] = []
blocks_text (b ∷ bs) = 10 ∷ (text_of_lines b ++ blocks_text bs)

-- the blocks are put behind what was there
abbrev pub Puts : List ℕ → List Block → List ℕ → Type 0
Puts old bs new = new ≡ old ++ blocks_text bs

-- the same, behind a text in memory
abbrev pub PutsIn : List Block → String Global → String Global → Type 0
PutsIn bs old new = Puts (string_bytes old) bs (string_bytes new)

-- the tidy form of a cell is put if it stays, and then those of the next ones follow
abbrev pub PutsCellText : List ℕ → Bool → Cell → List ℕ → Bool → Type 0
PutsCellText old after c new next = (rest : List Cell) → new ++ blocks_text (cell_blocks next (filter stays rest)) ≡ old ++ blocks_text (cell_blocks after (filter stays (tidy_cell c ∷ rest)))

-- the blocks of a section's tidy form; its parent is looked for among the sections as they are
abbrev pub tidy_section_blocks : List Section → Section → List Block
tidy_section_blocks all s = kept_blocks (tidy_before s.before) ++ (branch_blocks all s.parent ++ (line_block (codes "## " ++ encode_utf8_all (changed tidy_name s.name)) ∷ cell_blocks false (tidy_cells s.cells)))
