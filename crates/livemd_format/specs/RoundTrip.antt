-- What is written is read as the tidy notebook.
use Rattle.std.specs.Prelude.{◌≡◌, ◌⊎◌, ℕ, ◌||◌, Bool, false, List, [], ◌∷◌, Some, encode_utf8_all}
use Rattle.std.specs.List.{AllByRecursion, list_any}
use Rattle.utf16_text.specs.Units.{AreScalars}
use Rattle.notebook.specs.declared.parts.Cell.{Cell}
use Rattle.notebook.specs.declared.parts.Saved.{Saved}
use Rattle.notebook.specs.declared.parts.Section.{Section}
use Rattle.notebook.specs.declared.parts.Parts.{Parts}
use Rattle.livemd_lines.specs.declared.metadata.Metadata.TheVariants.{Stamp, Unknown}
use Rattle.blanks.specs.Blanks.{drop_end, is_cr, is_space_or_tab}
use Rattle.livemd_lines.specs.Lines.{is_lf}
use Rattle.livemd_lines.specs.Meanings.{metadata_of}
use Rattle.livemd_lines.specs.Written.{HasNoFeed, IsInfo}
use Rattle.livemd_format.specs.Reads.{Reads}
use Rattle.livemd_format.specs.Tidy.{tidied}
use Rattle.livemd_format.specs.Write.{text_of}

-- ---- the premises

-- a space, a tab or a carriage return
abbrev pub is_outer : ℕ → Bool
is_outer b = is_space_or_tab b || is_cr b

-- a metadata line that is none of the four that are known, without line feed, and without spaces, tabs and carriage returns at
-- its end
pub record IsKeptLine (line : List ℕ) : Type 0 where
  pub unknown : (metadata_of (encode_utf8_all line) ≡ Some Unknown) ⊎ (metadata_of (encode_utf8_all line) ≡ Some Stamp)
  pub feed : HasNoFeed line
  pub end : drop_end is_outer line ≡ line

abbrev pub AreKeptLines : List (List ℕ) → Type 0
AreKeptLines ls = AllByRecursion IsKeptLine ls

-- the last of the lines has no member `stamp`
abbrev pub EndsWithoutStamp : List (List ℕ) → Type 0
EndsWithoutStamp [] = Unit {0}
EndsWithoutStamp (line ∷ []) = ¬ (metadata_of (encode_utf8_all line) ≡ Some Stamp)
EndsWithoutStamp (line ∷ next ∷ more) = EndsWithoutStamp (next ∷ more)

-- a saved output with an info without backtick, line feed, carriage return and outer spaces and tabs
pub record HasPlainInfo (o : Saved) : Type 0 where
  pub info : IsInfo o.info
  pub feed : list_any is_lf o.info ≡ false
  pub carriage : list_any is_cr o.info ≡ false

pub record IsPlainCell (c : Cell) : Type 0 where
  pub before : AreKeptLines c.before
  pub saved : AllByRecursion HasPlainInfo c.saved

pub record IsPlainSection (s : Section) : Type 0 where
  pub before : AreKeptLines s.before
  pub cells : AllByRecursion IsPlainCell s.cells

-- what a book can tell: each kept line is one, and each info is one
pub record IsPlain (n : Parts) : Type 0 where
  pub before : AreKeptLines n.before
  pub setup : IsPlainCell n.setup
  pub sections : AllByRecursion IsPlainSection n.sections
  pub after : AreKeptLines n.after
  pub last : EndsWithoutStamp n.after

-- ---- texts

-- each text consists of characters, as those of the type `Text` do
pub record AreOutputTexts (o : Saved) : Type 0 where
  pub info : AreScalars o.info
  pub text : AreScalars o.text

pub record AreCellTexts (c : Cell) : Type 0 where
  pub source : AreScalars c.source
  pub before : AllByRecursion AreScalars c.before
  pub saved : AllByRecursion AreOutputTexts c.saved

pub record AreSectionTexts (s : Section) : Type 0 where
  pub name : AreScalars s.name
  pub before : AllByRecursion AreScalars s.before
  pub cells : AllByRecursion AreCellTexts s.cells

pub record AreTexts (n : Parts) : Type 0 where
  pub name : AreScalars n.name
  pub before : AllByRecursion AreScalars n.before
  pub setup : AreCellTexts n.setup
  pub sections : AllByRecursion AreSectionTexts n.sections
  pub after : AllByRecursion AreScalars n.after

-- ---- the law

-- the text of the tidy notebook is read as the tidy notebook, without notices
abbrev pub ReadsBack : Parts → Type 0
ReadsBack n = Reads (text_of (tidied n)) (tidied n) []
