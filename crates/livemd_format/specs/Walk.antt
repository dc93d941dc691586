-- The reader's walk over settled items: what it has made so far, and what each item adds to that.
use Rattle.std.specs.Prelude.{ℕ, ◌+◌, if◌then◌else◌, List, [], ◌∷◌, ◌++◌, Option, Some, None, codes, chars}
use Rattle.std.specs.List.{fold}
use Rattle.notebook.specs.declared.parts.Cell.{Cell}
use Rattle.notebook.specs.declared.parts.Saved.{Saved}
use Rattle.notebook.specs.declared.parts.Section.{Section}
use Rattle.notebook.specs.declared.parts.Parts.{Parts}
use Rattle.notebook.specs.declared.parts.Kind.{Kind}
use Rattle.notebook.specs.declared.parts.Kind.TheVariants as cell
use Rattle.notebook.specs.Book.{untitled}
use Rattle.blanks.specs.Blanks.{is_empty}
use Rattle.livemd_format.specs.declared.notices.Notice.{Notice}
use Rattle.livemd_format.specs.declared.notices.NoticeKind.{NoticeKind}
use Rattle.livemd_format.specs.declared.notices.NoticeKind.TheVariants.{BadBranch, Misplaced}
use Rattle.livemd_format.specs.Items as item
use Rattle.livemd_format.specs.Made.{stem_at}
use Rattle.livemd_format.specs.Settled.{settled}

-- the notebook so far; the section from which the next one branches, if it does; the kept lines that wait for a name, a
-- section or a cell; the notices so far
pub record Draft : Type 0 where
  pub parts : Parts
  pub parent : Option ℕ
  pub waiting : List (List ℕ)
  pub notices : List Notice

abbrev pub new_draft : Draft
new_draft = record { parts = untitled; parent = None; waiting = []; notices = [] }

-- a list with its last element changed
abbrev pub on_last : {X : Type 0} → (X → X) → List X → List X
on_last f [] = []
on_last f (x ∷ []) = f x ∷ []
on_last f (x ∷ y ∷ more) = x ∷ on_last f (y ∷ more)

-- ---- sections

-- the notebook with one section more: it takes the next number
abbrev pub with_section : List ℕ → List (List ℕ) → Option ℕ → Parts → Parts
with_section name before parent n = record n {
  sections = n.sections ++ record { id = n.next_section; name = name; before = before; parent = parent; cells = [] } ∷ [];
  next_section = n.next_section + 1;
}

-- the notebook, with a section `Section` where there is none
abbrev pub with_some_section : Parts → Parts
with_some_section n = if is_empty n.sections then with_section (codes "Section") [] None n else n

-- a section takes the kept lines that wait, and branches where a branch line says so
abbrev pub take_section : List ℕ → Draft → Draft
take_section name d = record d { parts = with_section name d.waiting d.parent d.parts; parent = None; waiting = [] }

-- one notice more
abbrev pub with_notice : ℕ → NoticeKind → Draft → Draft
with_notice number kind d = record d { notices = d.notices ++ record { line = number; kind = kind } ∷ [] }

-- the next section branches from the one that was found; where none was, the line is ignored with a notice
abbrev pub take_branch : ℕ → Option ℕ → Draft → Draft
take_branch number (Some parent) d = record d { parent = Some parent }
take_branch number None d = with_notice number BadBranch d

-- ---- cells

-- the cell at the end of the last section
abbrev pub add_cell : Cell → Section → Section
add_cell c s = record s { cells = s.cells ++ c ∷ [] }

-- the notebook with one cell more in its last section: it takes the next number
abbrev pub with_cell : Kind → List ℕ → List (List ℕ) → Parts → Parts
with_cell kind source before n = record n {
  sections = on_last (add_cell (record { id = n.next_cell; kind = kind; source = source; before = before; saved = [] })) n.sections;
  next_cell = n.next_cell + 1;
}

-- a cell takes the kept lines that wait
abbrev pub take_cell : Kind → List ℕ → Draft → Draft
take_cell kind source d = record d { parts = with_cell kind source d.waiting (with_some_section d.parts); waiting = [] }

-- the setup cell
abbrev pub take_setup : List ℕ → Draft → Draft
take_setup source d = record d { parts = record d.parts { setup = record d.parts.setup { source = source; before = d.waiting } }; waiting = [] }

-- a cell with one saved output more
abbrev pub add_output : Saved → Cell → Cell
add_output o c = record c { saved = c.saved ++ o ∷ [] }

abbrev pub add_last_output : Saved → Section → Section
add_last_output o s = record s { cells = on_last (add_output o) s.cells }

-- the notebook in which the last cell has one saved output more: the setup cell where there is no section yet
abbrev pub with_output : Saved → Parts → Parts
with_output o n = if is_empty n.sections then record n { setup = add_output o n.setup } else record n { sections = on_last (add_last_output o) n.sections }

-- the same of an output with the info and the text
abbrev pub take_output : List ℕ → List ℕ → Draft → Draft
take_output info text d = record d { parts = with_output (record { info = info; text = text }) d.parts }

-- ---- items

-- a kept line waits
abbrev pub keep : List ℕ → Draft → Draft
keep line d = record d { waiting = d.waiting ++ line ∷ [] }

-- the name takes the kept lines that wait
abbrev pub take_name : List ℕ → Draft → Draft
take_name name d = record d { parts = record d.parts { name = name; before = d.waiting }; waiting = [] }

-- what an item adds; a stamp, as a dropped line, adds nothing
abbrev pub with_item : Draft → item.Item → Draft
with_item d (item.Name text) = take_name (chars text) d
with_item d (item.Section text) = take_section (chars text) d
with_item d (item.Setup source) = take_setup (chars source) d
with_item d (item.Code source) = take_cell cell.Code (chars source) d
with_item d (item.Markdown source) = take_cell cell.Markdown (chars source) d
with_item d (item.Saved info text) = take_output (chars info) (chars text) d
with_item d (item.Kept line) = keep (chars line) d
with_item d (item.Stamp line) = d
with_item d (item.Branch number index) = take_branch number (stem_at index d.parts.sections) d
with_item d item.Dropped = d
with_item d (item.Misplaced number) = with_notice number Misplaced d

-- what items make, put one after the other to a new notebook
abbrev pub drafted : List item.Item → Draft
drafted is = fold with_item new_draft (settled is)

-- the notebook of a draft: kept lines that nothing came for stand behind all
abbrev pub finished : Draft → Parts
finished d = record d.parts { after = d.waiting }
