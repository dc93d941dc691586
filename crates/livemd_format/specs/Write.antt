-- The text of a tidy notebook: blocks of lines, with an empty line between two.
use Rattle.std.specs.Prelude.{ℕ, ◌+◌, ◌&&◌, max, not, Bool, true, false, if◌then◌else◌, List, [], ◌∷◌, ◌++◌, map, Option, Some, None, codes, decimal, encode_utf8_all}
use Rattle.std.specs.List.{flat_map}
use Rattle.notebook.specs.declared.parts.Cell.{Cell}
use Rattle.notebook.specs.declared.parts.Saved.{Saved}
use Rattle.notebook.specs.declared.parts.Section.{Section}
use Rattle.notebook.specs.declared.parts.Parts.{Parts}
use Rattle.blanks.specs.Blanks.{is_empty}
use Rattle.livemd_lines.specs.Lines.{lines}
use Rattle.livemd_lines.specs.Kinds.{Kind, Kinded, kinds_of}
use Rattle.livemd_lines.specs.Written.{fenced, longest_run, text_of_lines}
use Rattle.livemd_format.specs.Items.{may_stand}
use Rattle.livemd_format.specs.Tidy.{is_markdown, number_from, pieces}

-- a block is its lines
abbrev pub Block : Type 0
Block = List (List ℕ)

abbrev pub line_block : List ℕ → Block
line_block line = line ∷ []

-- ---- metadata lines

abbrev pub metadata_line : List ℕ → List ℕ
metadata_line object = codes "<!-- livebook:" ++ (object ++ codes " -->")

abbrev pub branch_line : ℕ → List ℕ
branch_line index = metadata_line (codes "{\"branch_parent_index\":" ++ (decimal index ++ codes "}"))

abbrev pub break_line : List ℕ
break_line = metadata_line (codes "{\"break_markdown\":true}")

abbrev pub force_line : List ℕ
force_line = metadata_line (codes "{\"force_markdown\":true}")

abbrev pub output_line : List ℕ
output_line = metadata_line (codes "{\"output\":true}")

-- kept lines, each as a block
abbrev pub kept_blocks : List (List ℕ) → List Block
kept_blocks before = map (λ line. line_block (encode_utf8_all line)) before

-- ---- fences

-- one backtick more than in the longest run inside, and three at least
abbrev pub fence_len : List ℕ → ℕ
fence_len text = max 3 (longest_run text + 1)

-- a fence round a text; an empty text is one empty line
abbrev pub fence_block : List ℕ → List ℕ → Block
fence_block info text = fenced (fence_len text) info (pieces text)

-- ---- cells

-- what may not stand within Markdown text, unless it is forced
abbrev pub needs_force : Kind → Bool
needs_force kind = not (may_stand kind)

-- the forcing line and an empty line
abbrev pub force : Kind → List (List ℕ)
force kind = if needs_force kind then force_line ∷ [] ∷ [] else []

-- the lines of Markdown text, each behind what it needs
abbrev pub forced_lines : List Kinded → List (List ℕ)
forced_lines [] = []
forced_lines (l ∷ ls) = force l.kind ++ l.text ∷ forced_lines ls

abbrev pub markdown_block : List ℕ → Block
markdown_block source = forced_lines (kinds_of (lines source))

abbrev pub saved_blocks : Saved → List Block
saved_blocks o = line_block output_line ∷ fence_block (encode_utf8_all o.info) (encode_utf8_all o.text) ∷ []

-- code, and its saved outputs
abbrev pub code_blocks : Cell → List Block
code_blocks c = fence_block (codes "elixir") (encode_utf8_all c.source) ∷ flat_map saved_blocks c.saved

-- a cell's own blocks
abbrev pub own_blocks : Cell → List Block
own_blocks c = if is_markdown c.kind then markdown_block (encode_utf8_all c.source) ∷ [] else code_blocks c

-- between two Markdown cells, where no kept line ends the first
abbrev pub break_blocks : Bool → Cell → List Block
break_blocks after_markdown c = if after_markdown && (is_markdown c.kind && is_empty c.before) then line_block break_line ∷ [] else []

-- the blocks of cells; `after_markdown`: a Markdown cell of the section stands before them
abbrev pub cell_blocks : Bool → List Cell → List Block
cell_blocks after_markdown [] = []
cell_blocks after_markdown (c ∷ cs) = break_blocks after_markdown c ++ (kept_blocks c.before ++ (own_blocks c ++ cell_blocks (is_markdown c.kind) cs))

-- the setup cell, unless there is nothing of it
abbrev pub setup_blocks : Cell → List Block
setup_blocks c = if is_empty c.source && (is_empty c.before && is_empty c.saved) then [] else kept_blocks c.before ++ code_blocks c

-- ---- sections

-- the branch line of a section with a parent: the parent's index among all sections, from 0
abbrev pub branch_blocks : List Section → Option ℕ → List Block
branch_blocks all None = []
branch_blocks all (Some parent) = line_block (branch_line (number_from 0 parent all)) ∷ []

abbrev pub section_blocks : List Section → Section → List Block
section_blocks all s = kept_blocks s.before ++ (branch_blocks all s.parent ++ (line_block (codes "## " ++ encode_utf8_all s.name) ∷ cell_blocks false s.cells))

-- ---- all

abbrev pub blocks : Parts → List Block
blocks n = kept_blocks n.before ++ (line_block (codes "# " ++ encode_utf8_all n.name) ∷ (setup_blocks n.setup ++ (flat_map (section_blocks n.sections) n.sections ++ kept_blocks n.after)))

-- blocks with an empty line between two
abbrev pub block_lines : List Block → List (List ℕ)
block_lines [] = []
block_lines (b ∷ []) = b
block_lines (b ∷ c ∷ more) = b ++ [] ∷ block_lines (c ∷ more)

abbrev pub text_of : Parts → List ℕ
text_of n = text_of_lines (block_lines (blocks n))
