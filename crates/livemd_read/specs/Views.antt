-- What the code's items stand for, and what it keeps beside them.
use Rattle.std.specs.Prelude.{◌≡◌, ℕ, List, map}
use Rattle.std.specs.String.{string_bytes}
use Rattle.blanks.specs.Blanks.{is_empty}
use Rattle.livemd_format.specs.Items as item
use Rattle.livemd_format.specs.Settled.{branch_next, section_next}
use Rattle.livemd_format.specs.Walk as format
use Rattle.livemd_read.specs.declared.done.Done.{Done}
use Rattle.livemd_read.specs.declared.draft.Draft.{Draft}
use Rattle.livemd_read.specs.declared.items.Item.{Item}
use Rattle.livemd_read.specs.declared.items.Item.TheVariants.{Name, Section, Setup, Code, Markdown, Saved, Kept, Stamp, Branch, Dropped, Misplaced}
use Rattle.livemd_read.specs.declared.settle.Behind.{Behind}

abbrev pub item_of : Item → item.Item
item_of (Name text) = item.Name text.now
item_of (Section text) = item.Section text.now
item_of (Setup source) = item.Setup (string_bytes source)
item_of (Code source) = item.Code (string_bytes source)
item_of (Markdown source) = item.Markdown (string_bytes source)
item_of (Saved info text) = item.Saved info.now (string_bytes text)
item_of (Kept line) = item.Kept line.now
item_of (Stamp line) = item.Stamp line.now
item_of (Branch line index) = item.Branch line index
item_of Dropped = item.Dropped
item_of (Misplaced line) = item.Misplaced line

abbrev pub views : List Item → List item.Item
views is = map item_of is

-- the items that were cut
abbrev pub cut_of : Done → List item.Item
cut_of d = views d.items.items

-- what is kept beside them tells what they are
pub record IsDone (d : Done) : Type 0 where
  pub name : d.at_name ≡ item.at_name (cut_of d)
  pub setup : d.at_setup ≡ item.at_setup (cut_of d)
  pub code : d.after_code ≡ item.after_code (cut_of d)

-- what the items behind one tell it
pub record IsBehind (b : Behind) (is : List item.Item) : Type 0 where
  pub section : b.section ≡ section_next is
  pub branch : b.branch ≡ branch_next is
  pub last : b.last ≡ is_empty is

-- the notebook so far, with what waits
abbrev pub draft_of : Draft → format.Draft
draft_of d = record { parts = d.parts; parent = d.parent; waiting = d.waiting; notices = d.notices }
