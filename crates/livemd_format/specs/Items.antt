-- The items of a book: one after the other is cut from the front of its lines. Blank lines between items are no item.
use Rattle.std.specs.Prelude.{ℕ, zero, suc, ◌==◌, ◌&&◌, not, Bool, true, false, if◌then◌else◌, List, [], ◌∷◌, ◌++◌, codes, bytes_eq}
use Rattle.std.specs.List.{fold, list_all}
use Rattle.livemd_lines.specs.declared.fences.Fence.{Fence}
use Rattle.livemd_lines.specs.declared.fences.Mark.TheVariants.{Backtick}
use Rattle.livemd_lines.specs.declared.metadata.Metadata.{Metadata}
use Rattle.livemd_lines.specs.declared.metadata.Metadata.TheVariants as metadata
use Rattle.blanks.specs.Blanks.{drop_end, is_blank, is_space_or_tab}
use Rattle.livemd_lines.specs.Lines.{joined}
use Rattle.livemd_lines.specs.Kinds.{Kind, Opens, Inside, Closes, Meta, Heading1, Heading2, Plain, Kinded, byte_of}

-- the name; a section with its name; the setup cell, a code cell and a Markdown cell with their sources; a saved output
-- with its info and its text; an unknown metadata line; one that is a stamp if only blank lines follow it; a branch line
-- with its number and the index in it; a dropped line; and the number of a line that applies to nothing
pub data Item : Type 0 where
  Name : List ℕ → Item
  Section : List ℕ → Item
  Setup : List ℕ → Item
  Code : List ℕ → Item
  Markdown : List ℕ → Item
  Saved : List ℕ → List ℕ → Item
  Kept : List ℕ → Item
  Stamp : List ℕ → Item
  Branch : ℕ → ℕ → Item
  Dropped : Item
  Misplaced : ℕ → Item

-- an item, and how many lines it has beyond its first
pub record Cut : Type 0 where
  pub item : Item
  pub more : ℕ

abbrev pub one_line : Item → Cut
one_line item = record { item = item; more = zero }

abbrev pub one_more : Cut → Cut
one_more c = record { item = c.item; more = suc c.more }

-- ---- what was cut before

-- whether the item is a metadata line alone
abbrev pub is_metadata : Item → Bool
is_metadata (Kept line) = true
is_metadata (Stamp line) = true
is_metadata (Branch number index) = true
is_metadata Dropped = true
is_metadata (Misplaced number) = true
is_metadata other = false

-- whether only metadata and blank lines were cut, so that a heading 1 is the name
abbrev pub at_name : List Item → Bool
at_name done = list_all is_metadata done

-- whether the item may stand before the setup cell: the name, and metadata
abbrev pub is_before_setup : Item → Bool
is_before_setup (Name text) = true
is_before_setup item = is_metadata item

-- whether nothing else was cut, so that code is the setup cell
abbrev pub at_setup : List Item → Bool
at_setup done = list_all is_before_setup done

-- whether code or a saved output stands last after the item; a line that applies to nothing is as if it weren't there
abbrev pub code_after : Bool → Item → Bool
code_after before (Setup source) = true
code_after before (Code source) = true
code_after before (Saved info text) = true
code_after before (Misplaced number) = before
code_after before other = false

-- whether code or a saved output stands last, so that a saved output may follow
abbrev pub after_code : List Item → Bool
after_code done = fold code_after false done

-- ---- lines

-- a fence of backticks with the info `elixir`
abbrev pub is_code : Fence → List ℕ → Bool
is_code fence info = (byte_of fence.mark == byte_of Backtick) && bytes_eq info (codes "elixir")

-- whether the line forces the next one to be text
abbrev pub is_force : Kind → Bool
is_force (Meta metadata.ForceMarkdown) = true
is_force other = false

-- what may stand within Markdown text, unless it is forced: all but code, sections and metadata
abbrev pub may_stand : Kind → Bool
may_stand (Opens fence info) = not (is_code fence info)
may_stand (Heading2 name) = false
may_stand (Meta meaning) = false
may_stand other = true

-- whether a line stands inside a fence, and whether it closes one
abbrev pub is_inside : Kind → Bool
is_inside Inside = true
is_inside other = false

abbrev pub is_closing_kind : Kind → Bool
is_closing_kind Closes = true
is_closing_kind other = false

-- ---- Markdown text

-- the lines of the longest stretch of text. A forcing line and the blank lines after it go, and the next line belongs to
-- the text whatever it is: so a fence that it opens does, as a whole. `forced`: a forcing line stands directly before.
abbrev pub stretch : Bool → List Kinded → List (List ℕ)
stretch forced [] = []
stretch true (l ∷ ls) = if is_blank l.text then stretch true ls else l.text ∷ stretch false ls
stretch false (l ∷ ls) = if is_force l.kind then stretch true ls else (if may_stand l.kind then l.text ∷ stretch false ls else [])

-- how many lines the stretch takes, those that go among them
abbrev pub stretch_lines : Bool → List Kinded → ℕ
stretch_lines forced [] = zero
stretch_lines true (l ∷ ls) = if is_blank l.text then suc (stretch_lines true ls) else suc (stretch_lines false ls)
stretch_lines false (l ∷ ls) = if is_force l.kind then suc (stretch_lines true ls) else (if may_stand l.kind then suc (stretch_lines false ls) else zero)

-- the cell of a stretch: its outer blank lines go, and its lines are joined; no cell is made of nothing
abbrev pub markdown_of : List (List ℕ) → Item
markdown_of [] = Dropped
markdown_of (text ∷ texts) = Markdown (joined (drop_end is_blank (text ∷ texts)))

-- Markdown text that begins with a line, and one that begins with a forcing line
abbrev pub markdown_at : Kinded → List Kinded → Cut
markdown_at l ls = record { item = markdown_of (l.text ∷ stretch false ls); more = stretch_lines false ls }

abbrev pub forced_at : List Kinded → Cut
forced_at ls = record { item = markdown_of (stretch true ls); more = stretch_lines true ls }

-- ---- code and saved outputs

-- the lines inside the fence that was opened just before
abbrev pub content : List Kinded → List (List ℕ)
content [] = []
content (l ∷ ls) = if is_inside l.kind then l.text ∷ content ls else []

-- how many lines that fence has beyond the one that opens it
abbrev pub content_lines : List Kinded → ℕ
content_lines [] = zero
content_lines (l ∷ ls) = if is_inside l.kind then suc (content_lines ls) else (if is_closing_kind l.kind then suc zero else zero)

-- code is the setup cell where only the name and metadata stand before it
abbrev pub code_item : List Item → List ℕ → Item
code_item done source = if at_setup done then Setup source else Code source

abbrev pub code_at : List Item → List Kinded → Cut
code_at done ls = record { item = code_item done (joined (content ls)); more = content_lines ls }

-- the saved output of the output line with the number, by the first line behind it that isn't blank: a fence, whatever its
-- info, or nothing is saved
abbrev pub saved_by : ℕ → Kind → List Kinded → Cut
saved_by number (Opens fence info) ls = record { item = Saved info (joined (content ls)); more = suc (content_lines ls) }
saved_by number other ls = one_line (Misplaced number)

abbrev pub saved_at : ℕ → List Kinded → Cut
saved_at number [] = one_line (Misplaced number)
saved_at number (l ∷ ls) = if is_blank l.text then one_more (saved_at number ls) else saved_by number l.kind ls

abbrev pub output_at : List Item → ℕ → List Kinded → Cut
output_at done number ls = if after_code done then saved_at number ls else one_line (Misplaced number)

-- ---- all items

-- the metadata line as it is kept: without spaces and tabs at its end
abbrev pub kept : Kinded → List ℕ
kept l = drop_end is_space_or_tab l.text

-- the item that begins with a metadata line of the number, by its meaning
abbrev pub cut_metadata : Metadata → List Item → ℕ → Kinded → List Kinded → Cut
cut_metadata (metadata.BranchParentIndex index) done number l ls = one_line (Branch number index)
cut_metadata metadata.BreakMarkdown done number l ls = one_line Dropped
cut_metadata metadata.ForceMarkdown done number l ls = forced_at ls
cut_metadata metadata.Output done number l ls = output_at done number ls
cut_metadata metadata.Stamp done number l ls = one_line (Stamp (kept l))
cut_metadata metadata.Unknown done number l ls = one_line (Kept (kept l))

-- the item that begins with a line of the number that isn't blank, by the line's kind
abbrev pub cut_by : Kind → List Item → ℕ → Kinded → List Kinded → Cut
cut_by (Opens fence info) done number l ls = if is_code fence info then code_at done ls else markdown_at l ls
cut_by Inside done number l ls = markdown_at l ls
cut_by Closes done number l ls = markdown_at l ls
cut_by (Meta meaning) done number l ls = cut_metadata meaning done number l ls
cut_by (Heading1 name) done number l ls = if at_name done then one_line (Name name) else markdown_at l ls
cut_by (Heading2 name) done number l ls = one_line (Section name)
cut_by Plain done number l ls = markdown_at l ls

abbrev pub cut : List Item → ℕ → Kinded → List Kinded → Cut
cut done number l ls = cut_by l.kind done number l ls

-- the items of lines, of which the first has this number, where these were cut before and so many more lines belong to the
-- last of them
abbrev pub items : List Item → ℕ → ℕ → List Kinded → List Item
items done number more [] = done
items done number (suc more) (l ∷ ls) = items done (suc number) more ls
items done number zero (l ∷ ls) =
    if is_blank l.text then items done (suc number) zero ls
    else items (done ++ (cut done number l ls).item ∷ []) (suc number) (cut done number l ls).more ls
