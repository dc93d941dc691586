-- The tidy form of a notebook: what of it a book can tell. Texts are taken as their bytes, as lines are.
use Rattle.std.specs.Prelude.{ℕ, suc, ◌+◌, ◌==◌, ◌&&◌, ◌||◌, not, Bool, true, false, if◌then◌else◌, List, [], ◌∷◌, ◌++◌, length, map, filter, Option, Some, None, option_map, replicate, chars, encode_utf8_all}
use Rattle.std.specs.List.{slice_split}
use Rattle.notebook.specs.declared.parts.Cell.{Cell}
use Rattle.notebook.specs.declared.parts.Saved.{Saved}
use Rattle.notebook.specs.declared.parts.Section.{Section}
use Rattle.notebook.specs.declared.parts.Parts.{Parts}
use Rattle.notebook.specs.declared.parts.Kind.{Kind}
use Rattle.notebook.specs.declared.parts.Kind.TheVariants as cell
use Rattle.notebook.specs.Book.{section_cells}
use Rattle.livemd_lines.specs.declared.fences.Fence.{Fence}
use Rattle.blanks.specs.Blanks.{is_empty, drop_end, drop_front, is_blank, is_cr, is_space}
use Rattle.livemd_lines.specs.Lines.{is_lf, joined}
use Rattle.livemd_lines.specs.Kinds.{byte_of}
use Rattle.livemd_lines.specs.Written.{open_behind}

-- ---- texts

-- the characters that a change of a text's bytes makes
abbrev pub changed : (List ℕ → List ℕ) → List ℕ → List ℕ
changed f text = chars (f (encode_utf8_all text))

-- a text cut at its line feeds; an empty text is one empty piece
abbrev pub pieces : List ℕ → List (List ℕ)
pieces text = slice_split is_lf text

-- carriage returns before a line feed and at the end go
abbrev pub clean_pieces : List ℕ → List (List ℕ)
clean_pieces text = map (drop_end is_cr) (pieces text)

abbrev pub clean : List ℕ → List ℕ
clean text = joined (clean_pieces text)

-- in a name, what is left of line feeds and carriage returns becomes spaces, and then outer spaces go
abbrev pub spaced : ℕ → ℕ
spaced b = if is_lf b || is_cr b then 32 else b

abbrev pub tidy_name : List ℕ → List ℕ
tidy_name text = drop_end is_space (drop_front is_space (map spaced (clean text)))

-- lines without the blank ones at both ends
abbrev pub unblanked : List (List ℕ) → List (List ℕ)
unblanked ls = drop_end is_blank (drop_front is_blank ls)

-- a fence that is open at the end is closed by its opening characters
abbrev pub closing_lines : Option Fence → List (List ℕ)
closing_lines None = []
closing_lines (Some fence) = replicate fence.count (byte_of fence.mark) ∷ []

abbrev pub closed : List (List ℕ) → List (List ℕ)
closed ls = ls ++ closing_lines (open_behind None ls)

abbrev pub tidy_lines : List ℕ → List (List ℕ)
tidy_lines text = closed (unblanked (clean_pieces text))

abbrev pub tidy_markdown : List ℕ → List ℕ
tidy_markdown text = joined (tidy_lines text)

-- ---- cells

abbrev pub is_markdown : Kind → Bool
is_markdown cell.Markdown = true
is_markdown other = false

-- a source by the kind of its cell
abbrev pub tidy_source : Kind → List ℕ → List ℕ
tidy_source kind source = changed (if is_markdown kind then tidy_markdown else clean) source

abbrev pub tidy_saved : Saved → Saved
tidy_saved o = record { info = changed clean o.info; text = changed clean o.text }

-- only code has saved outputs
abbrev pub tidy_outputs : Kind → List Saved → List Saved
tidy_outputs kind saved = if is_markdown kind then [] else map tidy_saved saved

abbrev pub tidy_before : List (List ℕ) → List (List ℕ)
tidy_before before = map (changed clean) before

abbrev pub tidy_cell : Cell → Cell
tidy_cell c = record c {
  source = tidy_source c.kind c.source;
  before = tidy_before c.before;
  saved = tidy_outputs c.kind c.saved;
}

-- an empty Markdown cell goes
abbrev pub stays : Cell → Bool
stays c = not (is_markdown c.kind && is_empty c.source)

abbrev pub tidy_cells : List Cell → List Cell
tidy_cells cs = filter stays (map tidy_cell cs)

-- ---- numbers

-- cells numbered anew from a number on
abbrev pub numbered : ℕ → List Cell → List Cell
numbered next [] = []
numbered next (c ∷ cs) = record c { id = next } ∷ numbered (suc next) cs

-- the number that the section with this number takes, where the first of the sections takes the given one
abbrev pub number_from : ℕ → ℕ → List Section → ℕ
number_from next id [] = next
number_from next id (s ∷ ss) = if s.id == id then next else number_from (suc next) id ss

-- a tidy section, which takes the number, and whose cells are numbered from a number on; all sections are given for its parent
abbrev pub tidy_section : List Section → ℕ → ℕ → Section → Section
tidy_section all number next s = record {
  id = number;
  name = changed tidy_name s.name;
  before = tidy_before s.before;
  parent = option_map (λ id. number_from 1 id all) s.parent;
  cells = numbered next (tidy_cells s.cells);
}

abbrev pub tidy_sections : List Section → ℕ → ℕ → List Section → List Section
tidy_sections all number next [] = []
tidy_sections all number next (s ∷ ss) = tidy_section all number next s ∷ tidy_sections all (suc number) (next + length (tidy_cells s.cells)) ss

-- ---- all

-- what of a notebook stays, with its numbers given anew; the bin is empty
abbrev pub with_tidy : List Section → Parts → Parts
with_tidy sections n = record {
  name = changed tidy_name n.name;
  before = tidy_before n.before;
  setup = tidy_cell n.setup;
  sections = sections;
  bin = [];
  after = tidy_before n.after;
  next_cell = length (section_cells (record n { sections = sections })) + 1;
  next_section = length sections + 1;
}

abbrev pub tidied : Parts → Parts
tidied n = with_tidy (tidy_sections n.sections 1 1 n.sections) n
