-- What is printed of replies and notebooks: lists of bytes, a line without its LF.
use Rattle.std.specs.Prelude.{ℕ, ◌==◌, if◌then◌else◌, List, [], ◌∷◌, ◌++◌, length, Option, Some, None, codes}
use Rattle.std.specs.Fmt.{decimal}
use Rattle.std.specs.Str.{encode_utf8_all}
use Rattle.std.specs.List.{flat_map}
use Rattle.json.specs.Print.{quoted}
use Rattle.notebook.specs.declared.parts.Cell.{Cell}
use Rattle.notebook.specs.declared.parts.Section.{Section}
use Rattle.notebook.specs.declared.parts.Parts.{Parts}
use Rattle.notebook.specs.declared.parts.Kind.{Kind}
use Rattle.notebook.specs.declared.parts.Kind.TheVariants.{Setup, Code, Markdown}
use Rattle.session_ops.specs.declared.entry.Refusal.{Refusal}
use Rattle.session_ops.specs.declared.entry.Refusal.TheVariants.{NotJoined, AlreadyJoined, NoCell, NoSection, NotCode, BadIndex, BadParent, HasBranches, TooManyCells, TooManySections, TooNew, TooOld, PastEnd, SplitsPair, AncestorFailed, NotQueued}
use Rattle.session_ops.specs.declared.entry.Reply.{Reply}
use Rattle.session_ops.specs.declared.entry.Reply.TheVariants.{Accepted, Applied, NewCell, NewSection, Started, Stored, Late, Refused}

-- a text as a compact JSON string
abbrev pub text_of : List ℕ → List ℕ
text_of t = quoted (encode_utf8_all t)

-- a refusal's name, with its number where it has one
abbrev pub refusal_text : Refusal → List ℕ
refusal_text NotJoined = codes "NotJoined"
refusal_text AlreadyJoined = codes "AlreadyJoined"
refusal_text NoCell = codes "NoCell"
refusal_text NoSection = codes "NoSection"
refusal_text NotCode = codes "NotCode"
refusal_text (BadIndex len) = codes "BadIndex " ++ decimal len
refusal_text BadParent = codes "BadParent"
refusal_text HasBranches = codes "HasBranches"
refusal_text TooManyCells = codes "TooManyCells"
refusal_text TooManySections = codes "TooManySections"
refusal_text (TooNew now) = codes "TooNew " ++ decimal now
refusal_text (TooOld kept) = codes "TooOld " ++ decimal kept
refusal_text (PastEnd len) = codes "PastEnd " ++ decimal len
refusal_text (SplitsPair at) = codes "SplitsPair " ++ decimal at
refusal_text (AncestorFailed cell) = codes "AncestorFailed " ++ decimal cell
refusal_text NotQueued = codes "NotQueued"

abbrev pub reply_text : Reply → List ℕ
reply_text Accepted = codes "ok"
reply_text (Applied rev x) = codes "accepted rev " ++ decimal rev
reply_text (NewCell cell) = codes "cell " ++ decimal cell
reply_text (NewSection section) = codes "section " ++ decimal section
reply_text (Started eval cell) = codes "eval " ++ (decimal eval ++ (codes " cell " ++ decimal cell))
reply_text (Stored eval) = codes "stored " ++ decimal eval
reply_text (Late eval) = codes "late " ++ decimal eval
reply_text (Refused why) = codes "refused " ++ refusal_text why

abbrev pub kind_text : Kind → List ℕ
kind_text Setup = codes "setup"
kind_text Code = codes "code"
kind_text Markdown = codes "markdown"

-- a cell with its revision and its source
abbrev pub cell_line : (ℕ → ℕ) → Cell → List ℕ
cell_line rev c = codes "cell " ++ (decimal c.id ++ (codes " " ++ (kind_text c.kind ++ (codes " rev " ++ (decimal (rev c.id) ++ (codes " " ++ text_of c.source))))))

abbrev pub cell_lines : (ℕ → ℕ) → List Cell → List (List ℕ)
cell_lines rev [] = []
cell_lines rev (c ∷ cs) = cell_line rev c ∷ cell_lines rev cs

abbrev pub from_text : Option ℕ → List ℕ
from_text None = []
from_text (Some id) = codes " from " ++ decimal id

abbrev pub section_line : Section → List ℕ
section_line s = codes "section " ++ (decimal s.id ++ (codes " " ++ (text_of s.name ++ from_text s.parent)))

abbrev pub section_lines : (ℕ → ℕ) → List Section → List (List ℕ)
section_lines rev [] = []
section_lines rev (s ∷ ss) = section_line s ∷ (cell_lines rev s.cells ++ section_lines rev ss)

-- the setup cell's line is left out where its source is empty
abbrev pub setup_lines : (ℕ → ℕ) → Cell → List (List ℕ)
setup_lines rev c = if length c.source == 0 then [] else cell_line rev c ∷ []

-- the lines of a notebook, with each cell's revision
abbrev pub book_lines : (ℕ → ℕ) → Parts → List (List ℕ)
book_lines rev n = (codes "notebook " ++ text_of n.name) ∷ (setup_lines rev n.setup ++ section_lines rev n.sections)

-- lines as bytes, each ended by a LF
abbrev pub ended_line : List ℕ → List ℕ
ended_line l = l ++ 10 ∷ []

abbrev pub as_text : List (List ℕ) → List ℕ
as_text ls = flat_map ended_line ls

-- the revision that a list of cells and their revisions gives a cell: 0 where it has none
abbrev pub rev_in : List (ℕ × ℕ) → ℕ → ℕ
rev_in [] cell = 0
rev_in (r ∷ rs) cell = if r.0 == cell then r.1 else rev_in rs cell
