-- The notebook and the notices that settled items make: each part by the items before it and behind it.
use Rattle.std.specs.Prelude.{ℕ, ◌+◌, Bool, true, false, List, [], ◌∷◌, ◌++◌, length, filter_map, Option, Some, None, unwrap_or, option_and_then, option_to_list, if◌then◌else◌, codes, chars, slice_get}
use Rattle.std.specs.List.{after_last, before_first, flat_map, fold, last_or}
use Rattle.notebook.specs.declared.parts.Cell.{Cell}
use Rattle.notebook.specs.declared.parts.Saved.{Saved}
use Rattle.notebook.specs.declared.parts.Section.{Section}
use Rattle.notebook.specs.declared.parts.Parts.{Parts}
use Rattle.notebook.specs.declared.parts.Kind.{Kind}
use Rattle.notebook.specs.declared.parts.Kind.TheVariants as cell
use Rattle.notebook.specs.Book.{cells_of}
use Rattle.notebook.specs.Flow.{is_main}
use Rattle.livemd_format.specs.declared.notices.Notice.{Notice}
use Rattle.livemd_format.specs.declared.notices.NoticeKind.TheVariants.{BadBranch, Misplaced}
use Rattle.livemd_format.specs.Items as item
use Rattle.livemd_format.specs.Items.{Item}
use Rattle.livemd_format.specs.Settled.{is_section, settled}
use Rattle.livemd_format.specs.Tidy.{numbered}

-- what is made of items one by one: of each by the items before it, itself, and those behind it; others stand before them all
abbrev pub made_behind : {X : Type 0} → (List Item → Item → List Item → Option X) → List Item → List Item → List X
made_behind make before [] = []
made_behind make before (i ∷ is) =
    option_to_list (make before i is) ++ made_behind make (before ++ i ∷ []) is

-- the same of items before which nothing stands
abbrev pub made : {X : Type 0} → (List Item → Item → List Item → Option X) → List Item → List X
made make is = made_behind make [] is

-- ---- lines at the end

-- the name, the setup cell, a section and a cell take the lines that stand directly before them
abbrev pub takes_lines : Item → Bool
takes_lines (item.Name text) = true
takes_lines (item.Setup source) = true
takes_lines (item.Section text) = true
takes_lines (item.Code source) = true
takes_lines (item.Markdown source) = true
takes_lines other = false

-- the end of items: what stands behind the last that takes lines
abbrev pub end_of : List Item → List Item
end_of is = after_last takes_lines is

abbrev pub kept_line : Item → Option (List ℕ)
kept_line (item.Kept line) = Some (chars line)
kept_line other = None

abbrev pub branch_index : Item → Option ℕ
branch_index (item.Branch number index) = Some index
branch_index other = None

-- the kept lines at the end of items, and the indexes of the branch lines there
abbrev pub kept_at_end : List Item → List (List ℕ)
kept_at_end is = filter_map kept_line (end_of is)

abbrev pub indexes_at_end : List Item → List ℕ
indexes_at_end is = filter_map branch_index (end_of is)

-- ---- the name and the setup cell's source

-- a text, and the kept lines directly before it
pub record LinedText : Type 0 where
  pub lines : List (List ℕ)
  pub text : List ℕ

abbrev pub lined : List Item → List ℕ → LinedText
lined before text = record { lines = kept_at_end before; text = chars text }

abbrev pub name_at : List Item → Item → List Item → Option LinedText
name_at before (item.Name text) behind = Some (lined before text)
name_at before other behind = None

abbrev pub setup_at : List Item → Item → List Item → Option LinedText
setup_at before (item.Setup source) behind = Some (lined before source)
setup_at before other behind = None

-- the last of such texts; where there is none, this one without lines
abbrev pub last_text : List ℕ → List LinedText → LinedText
last_text otherwise texts = unwrap_or (last_or None texts) (record { lines = []; text = otherwise })

-- the name of a book, and the source of its setup cell
abbrev pub name_of : List Item → LinedText
name_of is = last_text (codes "Untitled notebook") (made name_at is)

abbrev pub setup_source : List Item → LinedText
setup_source is = last_text [] (made setup_at is)

-- ---- cells

abbrev pub is_cell : Item → Bool
is_cell (item.Code source) = true
is_cell (item.Markdown source) = true
is_cell other = false

abbrev pub saved_output : Item → Option Saved
saved_output (item.Saved info text) = Some (record { info = chars info; text = chars text })
saved_output other = None

-- the saved outputs before the first cell of items
abbrev pub outputs : List Item → List Saved
outputs is = filter_map saved_output (before_first is_cell is)

-- a cell takes the kept lines directly before it, and the outputs behind it up to the next cell; it has no number yet
abbrev pub cell_between : Kind → List ℕ → List Item → List Item → Cell
cell_between kind source before behind = record {
  id = 0;
  kind = kind;
  source = chars source;
  before = kept_at_end before;
  saved = outputs behind;
}

abbrev pub cell_at : List Item → Item → List Item → Option Cell
cell_at before (item.Code source) behind = Some (cell_between cell.Code source before behind)
cell_at before (item.Markdown source) behind = Some (cell_between cell.Markdown source before behind)
cell_at before other behind = None

-- the cells of items, numbered from a number on
abbrev pub cells_in : ℕ → List Item → List Cell
cells_in next is = numbered next (made cell_at is)

-- what stands before the first section item
abbrev pub front : List Item → List Item
front is = before_first is_section is

-- the setup cell has the outputs before the first cell and section
abbrev pub setup_of : List Item → Cell
setup_of is = record {
  id = 0;
  kind = cell.Setup;
  source = (setup_source is).text;
  before = (setup_source is).lines;
  saved = outputs (front is);
}

-- ---- sections

-- cells in front of the first section item make a section for themselves
abbrev pub first_section : List Cell → List Section
first_section [] = []
first_section (c ∷ cs) =
    record { id = 1; name = codes "Section"; before = []; parent = None; cells = c ∷ cs } ∷ []

-- a section item's name, the items before it, and those behind it up to the next section item
pub record Stretch : Type 0 where
  pub name : List ℕ
  pub before : List Item
  pub items : List Item

abbrev pub stretch_at : List Item → Item → List Item → Option Stretch
stretch_at before (item.Section name) behind = Some (record { name = name; before = before; items = front behind })
stretch_at before other behind = None

-- the number of a section from which others may branch: one that doesn't branch itself
abbrev pub stem_number : Section → Option ℕ
stem_number s = if is_main s then Some s.id else None

-- the number of the section with the index, counted from 0, if others may branch from it
abbrev pub stem_at : ℕ → List Section → Option ℕ
stem_at index ss = option_and_then stem_number (slice_get ss index)

-- the parent is what the last of the indexes gives that gives one, among the sections before
abbrev pub parent_by : List ℕ → List Section → Option ℕ
parent_by indexes sections = last_or None (filter_map (λ index. stem_at index sections) indexes)

-- the section of a stretch behind these sections: it takes the kept lines and the branch lines directly before it
abbrev pub section_by : List Section → Stretch → Section
section_by sections s = record {
  id = length sections + 1;
  name = chars s.name;
  before = kept_at_end s.before;
  parent = parent_by (indexes_at_end s.before) sections;
  cells = cells_in (length (flat_map cells_of sections) + 1) s.items;
}

abbrev pub with_stretch : List Section → Stretch → List Section
with_stretch sections s = sections ++ section_by sections s ∷ []

-- the sections of items, one behind the other
abbrev pub sections_of : List Item → List Section
sections_of is = fold with_stretch (first_section (cells_in 1 (front is))) (made stretch_at is)

-- ---- the notebook and the notices

-- the notebook with these sections; kept lines that nothing takes stand behind all
abbrev pub notebook_with : List Section → List Item → Parts
notebook_with sections is = record {
  name = (name_of is).text;
  before = (name_of is).lines;
  setup = setup_of is;
  sections = sections;
  bin = [];
  after = kept_at_end is;
  next_cell = length (flat_map cells_of sections) + 1;
  next_section = length sections + 1;
}

-- the notice of a branch line that finds no section from which others may branch
abbrev pub bad_branch : ℕ → Option ℕ → Option Notice
bad_branch number None = Some (record { line = number; kind = BadBranch })
bad_branch number (Some parent) = None

-- a branch line finds its section by its index among the sections before it
abbrev pub notice_at : List Item → Item → List Item → Option Notice
notice_at before (item.Branch number index) behind = bad_branch number (stem_at index (sections_of before))
notice_at before (item.Misplaced number) behind = Some (record { line = number; kind = Misplaced })
notice_at before other behind = None

-- the notebook and the notices of items, once they are settled
abbrev pub notebook_of : List Item → Parts
notebook_of is = notebook_with (sections_of (settled is)) (settled is)

abbrev pub notices_of : List Item → List Notice
notices_of is = made notice_at (settled is)
