-- What is known of each part of a notebook in tidy form: its texts are lines that are read as they stand.
use Rattle.std.specs.Prelude.{◌≡◌, ◌⊎◌, ℕ, false, suc, ◌+◌, ◌<◌, List, [], ◌∷◌, ◌++◌, Option, Some, None, length, chars, encode_utf8_all}
use Rattle.std.specs.List.{AllByRecursion}
use Rattle.notebook.specs.declared.parts.Cell.{Cell}
use Rattle.notebook.specs.declared.parts.Saved.{Saved}
use Rattle.notebook.specs.declared.parts.Section.{Section}
use Rattle.notebook.specs.declared.parts.Parts.{Parts}
use Rattle.notebook.specs.declared.parts.Kind.{Kind}
use Rattle.notebook.specs.declared.parts.Kind.TheVariants as cell
use Rattle.notebook.specs.Book.{section_cells}
use Rattle.notebook.specs.Rules.{IsSectionKind}
use Rattle.livemd_lines.specs.declared.metadata.Metadata.TheVariants.{Stamp, Unknown}
use Rattle.blanks.specs.Blanks.{drop_end, drop_front, is_blank, is_space, is_space_or_tab}
use Rattle.livemd_lines.specs.Lines.{joined, lines}
use Rattle.livemd_lines.specs.Meanings.{metadata_of}
use Rattle.livemd_lines.specs.Written.{IsInfo, IsLine, open_behind}
use Rattle.livemd_format.specs.Made.{stem_at}
use Rattle.livemd_format.specs.RoundTrip.{EndsWithoutStamp}
use Rattle.livemd_format.specs.Tidy.{number_from, pieces}

-- the bytes of a text are read as the text
abbrev pub IsText : List ℕ → Type 0
IsText t = chars (encode_utf8_all t) ≡ t

pub record IsTidyName (t : List ℕ) : Type 0 where
  pub text : IsText t
  pub line : IsLine (encode_utf8_all t)
  pub front : drop_front is_space (encode_utf8_all t) ≡ encode_utf8_all t
  pub end : drop_end is_space (encode_utf8_all t) ≡ encode_utf8_all t

pub record IsTidyKept (t : List ℕ) : Type 0 where
  pub text : IsText t
  pub line : IsLine (encode_utf8_all t)
  pub end : drop_end is_space_or_tab (encode_utf8_all t) ≡ encode_utf8_all t
  pub unknown : (metadata_of (encode_utf8_all t) ≡ Some Unknown) ⊎ (metadata_of (encode_utf8_all t) ≡ Some Stamp)

abbrev pub AreTidyKept : List (List ℕ) → Type 0
AreTidyKept ls = AllByRecursion IsTidyKept ls

-- what stands in a fence
pub record IsTidyFenced (t : List ℕ) : Type 0 where
  pub text : IsText t
  pub lines : AllByRecursion IsLine (pieces (encode_utf8_all t))

-- the lines of Markdown text: there is one, neither the first nor the last is blank, and no fence is open at the end
pub record IsTidyMarkdown (t : List ℕ) : Type 0 where
  pub text : IsText t
  pub first : List ℕ
  pub more : List (List ℕ)
  pub cut : lines (encode_utf8_all t) ≡ first ∷ more
  pub whole : joined (first ∷ more) ≡ encode_utf8_all t
  pub all : AllByRecursion IsLine (first ∷ more)
  pub begin : is_blank first ≡ false
  pub end : drop_end is_blank (first ∷ more) ≡ first ∷ more
  pub closed : open_behind None (first ∷ more) ≡ None

pub record IsTidySaved (o : Saved) : Type 0 where
  pub info_text : IsText o.info
  pub info : IsInfo (encode_utf8_all o.info)
  pub line : IsLine (encode_utf8_all o.info)
  pub text : IsTidyFenced o.text

pub record IsTidyCode (source : List ℕ) (saved : List Saved) : Type 0 where
  pub source_text : IsTidyFenced source
  pub outputs : AllByRecursion IsTidySaved saved

pub record IsTidyText (source : List ℕ) (saved : List Saved) : Type 0 where
  pub source_text : IsTidyMarkdown source
  pub outputs : saved ≡ []

abbrev pub IsTidyOwn : Kind → List ℕ → List Saved → Type 0
IsTidyOwn cell.Markdown source saved = IsTidyText source saved
IsTidyOwn cell.Code source saved = IsTidyCode source saved
IsTidyOwn cell.Setup source saved = IsTidyCode source saved

-- a cell of a section, with its number
pub record IsTidyCell (number : ℕ) (c : Cell) : Type 0 where
  pub id : c.id ≡ number
  pub kinds : IsSectionKind c.kind
  pub before : AreTidyKept c.before
  pub own : IsTidyOwn c.kind c.source c.saved

abbrev pub AreTidyCells : ℕ → List Cell → Type 0
AreTidyCells next [] = Unit {0}
AreTidyCells next (c ∷ cs) = IsTidyCell next c × AreTidyCells (suc next) cs

-- a parent is found among the sections before, by its index among all
abbrev pub IsFound : List Section → List Section → Option ℕ → Type 0
IsFound all front None = Unit {0}
IsFound all front (Some parent) = (stem_at (number_from 0 parent all) front ≡ Some parent) × (number_from 0 parent all < 1000)

-- a section, with its number and that of its first cell, behind others
pub record IsTidySection (all front : List Section) (number next : ℕ) (s : Section) : Type 0 where
  pub id : s.id ≡ number
  pub name : IsTidyName s.name
  pub before : AreTidyKept s.before
  pub parent : IsFound all front s.parent
  pub cells : AreTidyCells next s.cells

abbrev pub AreTidySections : List Section → List Section → ℕ → ℕ → List Section → Type 0
AreTidySections all front number next [] = Unit {0}
AreTidySections all front number next (s ∷ ss) = IsTidySection all front number next s × AreTidySections all (front ++ s ∷ []) (suc number) (next + length s.cells) ss

pub record IsTidyBook (n : Parts) : Type 0 where
  pub name : IsTidyName n.name
  pub before : AreTidyKept n.before
  pub setup_number : n.setup.id ≡ 0
  pub setup_kind : n.setup.kind ≡ cell.Setup
  pub setup_before : AreTidyKept n.setup.before
  pub setup : IsTidyCode n.setup.source n.setup.saved
  pub sections : AreTidySections n.sections [] 1 1 n.sections
  pub after : AreTidyKept n.after
  pub last : EndsWithoutStamp n.after
  pub bin : n.bin ≡ []
  pub next_cell : n.next_cell ≡ length (section_cells n) + 1
  pub next_section : n.next_section ≡ length n.sections + 1
