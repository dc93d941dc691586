-- Worked books, by computation: a check of the definitions.
use Rattle.std.proofs.Common.{◌≡◌, ℕ, List, [], ◌∷◌, ◌++◌, Some, None, refl, codes}
use Rattle.std.specs.Fmt.{digits}
use Rattle.std.specs.Char.{encode_utf8}
use Rattle.std.specs.Str.{chars}
use Rattle.serde_json.proofs.OnLiterals.{serde_json_on_literals}
use Rattle.notebook.specs.declared.parts.Cell.{Cell}
use Rattle.notebook.specs.declared.parts.Saved.{Saved}
use Rattle.notebook.specs.declared.parts.Section.{Section}
use Rattle.notebook.specs.declared.parts.Parts.{Parts}
use Rattle.notebook.specs.declared.parts.Kind.TheVariants as cell
use Rattle.notebook.specs.Book.{untitled}
use Rattle.livemd_format.specs.declared.notices.Notice.{Notice}
use Rattle.livemd_format.specs.declared.notices.NoticeKind.TheVariants.{BadBranch, Misplaced}
use Rattle.livemd_format.specs.Made.{notebook_of, notices_of}
use Rattle.livemd_format.specs.Reads.{items_of}
use Rattle.livemd_format.specs.Tidy.{tidied, tidy_markdown, tidy_name, clean}
use Rattle.livemd_format.specs.Write.{break_line, branch_line, force_line, output_line, text_of}

-- lines, each ended by a line feed
abbrev text : List (List ℕ) → List ℕ
text [] = []
text (l ∷ ls) = l ++ 10 ∷ text ls

-- the notebook and the notices of lines
pub record Book : Type 0 where
  pub notebook : Parts
  pub notices : List Notice

abbrev reads : List (List ℕ) → Book
reads ls = record { notebook = notebook_of (items_of (text ls)); notices = notices_of (items_of (text ls)) }

abbrev misplaced : ℕ → Notice
misplaced line = record { line = line; kind = Misplaced }

abbrev bad_branch : ℕ → Notice
bad_branch line = record { line = line; kind = BadBranch }

-- cells and sections
abbrev code : ℕ → List ℕ → Cell
code id source = record { id = id; kind = cell.Code; source = source; before = []; saved = [] }

abbrev markdown : ℕ → List ℕ → Cell
markdown id source = record { id = id; kind = cell.Markdown; source = source; before = []; saved = [] }

abbrev setup : List ℕ → Cell
setup source = record untitled.setup { source = source }

abbrev saved : List ℕ → List ℕ → Saved
saved info text = record { info = info; text = text }

abbrev section : ℕ → List ℕ → List Cell → Section
section id name cells = record { id = id; name = name; before = []; parent = None; cells = cells }

abbrev branch : ℕ → List ℕ → ℕ → List Cell → Section
branch id name parent cells = record { id = id; name = name; before = []; parent = Some parent; cells = cells }

abbrev titled : List ℕ → List Section → ℕ → ℕ → Parts
titled name sections next_cell next_section = record untitled { name = name; sections = sections; next_cell = next_cell; next_section = next_section }

abbrev book : List Section → ℕ → ℕ → Parts
book sections next_cell next_section = titled untitled.name sections next_cell next_section

abbrev quiet : Parts → Book
quiet n = record { notebook = n; notices = [] }

-- lines that often stand
abbrev F : List ℕ
F = force_line

abbrev B : List ℕ
B = break_line

abbrev O : List ℕ
O = output_line

abbrev K : ℕ → List ℕ
K index = branch_line index

abbrev U : List ℕ
U = codes "<!-- livebook:{\"a\":1} -->"

abbrev V : List ℕ
V = codes "<!-- livebook:{\"b\":2} -->"

abbrev S : List ℕ
S = codes "<!-- livebook:{\"stamp\":1} -->"

abbrev E : List ℕ
E = codes "```elixir"

abbrev T : List ℕ
T = codes "```"

abbrev a : List ℕ
a = codes "a"

abbrev b : List ℕ
b = codes "b"

abbrev sA : List ℕ
sA = codes "## A"

abbrev sB : List ℕ
sB = codes "## B"

abbrev nA : List ℕ
nA = codes "A"

abbrev nB : List ℕ
nB = codes "B"

-- ---- names and sections

empty : reads [] ≡ quiet untitled
empty = refl

one_section : reads (codes "# T" ∷ [] ∷ codes "## S" ∷ [] ∷ codes "ab" ∷ []) ≡ quiet (titled (codes "T") (section 1 (codes "S") (markdown 1 (codes "ab") ∷ []) ∷ []) 2 2)
unfolding chars
one_section = refl

-- metadata before the name: a kept line is the name's, and a line that is ignored doesn't count
metadata_first : reads (B ∷ U ∷ [] ∷ O ∷ codes "# T" ∷ []) ≡ record { notebook = record (titled (codes "T") [] 1 1) { before = U ∷ [] }; notices = misplaced 4 ∷ [] }
unfolding chars digits serde_json_on_literals
metadata_first = refl

-- a forced heading 1 is text, and so is one after text, after a section, and after the name
forced_name : reads (F ∷ codes "# T" ∷ codes "# U" ∷ []) ≡ quiet (book (section 1 (codes "Section") (markdown 1 (codes "# T" ++ 10 ∷ codes "# U") ∷ []) ∷ []) 2 2)
unfolding chars digits serde_json_on_literals
forced_name = refl

later_heading : reads (codes "# T" ∷ codes "# U" ∷ sA ∷ codes "# V" ∷ []) ≡ quiet (titled (codes "T") (section 1 (codes "Section") (markdown 1 (codes "# U") ∷ []) ∷ section 2 nA (markdown 2 (codes "# V") ∷ []) ∷ []) 3 3)
unfolding chars
later_heading = refl

-- outer spaces of a name go, and tabs stay; a name may be empty
names : reads (codes "#   T  " ∷ (35 ∷ 35 ∷ 32 ∷ 9 ∷ 32 ∷ []) ∷ codes "## " ∷ codes "##x" ∷ []) ≡ quiet (titled (codes "T") (section 1 (9 ∷ []) [] ∷ section 2 [] (markdown 1 (codes "##x") ∷ []) ∷ []) 2 3)
unfolding chars
names = refl

-- characters, not bytes
letters : reads ((0xC3 ∷ 0xA9 ∷ []) ∷ []) ≡ quiet (book (section 1 (codes "Section") (markdown 1 (0xE9 ∷ []) ∷ []) ∷ []) 2 2)
unfolding chars
letters = refl

-- ---- Markdown text

-- outer blank lines go, and inner ones stay as they are
blank_lines : reads (sA ∷ [] ∷ a ∷ (9 ∷ []) ∷ [] ∷ b ∷ (32 ∷ []) ∷ [] ∷ sB ∷ []) ≡ quiet (book (section 1 nA (markdown 1 (97 ∷ 10 ∷ 9 ∷ 10 ∷ 10 ∷ 98 ∷ []) ∷ []) ∷ section 2 nB [] ∷ []) 2 3)
unfolding chars
blank_lines = refl

-- fences of other kinds are part of the text, with headings and metadata inside
other_fence : reads (sA ∷ a ∷ codes "~~~elixir" ∷ sB ∷ T ∷ B ∷ codes "~~~" ∷ b ∷ []) ≡ quiet (book (section 1 nA (markdown 1 (a ++ 10 ∷ codes "~~~elixir" ++ 10 ∷ sB ++ 10 ∷ T ++ 10 ∷ B ++ 10 ∷ codes "~~~" ++ 10 ∷ b) ∷ []) ∷ []) 2 2)
unfolding chars
other_fence = refl

-- blank lines at the end of a fence that isn't closed are outer ones
open_fence : reads (sA ∷ codes "~~~" ∷ a ∷ [] ∷ (32 ∷ []) ∷ []) ≡ quiet (book (section 1 nA (markdown 1 (codes "~~~" ++ 10 ∷ a) ∷ []) ∷ []) 2 2)
unfolding chars
open_fence = refl

-- a break ends a cell
breaks : reads (sA ∷ a ∷ [] ∷ B ∷ [] ∷ b ∷ []) ≡ quiet (book (section 1 nA (markdown 1 a ∷ markdown 2 b ∷ []) ∷ []) 3 2)
unfolding chars digits serde_json_on_literals
breaks = refl

-- so do a misplaced output, a misplaced branch line and an unknown line
ends : reads (sA ∷ a ∷ O ∷ a ∷ K 0 ∷ a ∷ U ∷ a ∷ []) ≡ record { notebook = book (section 1 nA (markdown 1 a ∷ markdown 2 a ∷ markdown 3 a ∷ record (markdown 4 a) { before = U ∷ [] } ∷ []) ∷ []) 5 2; notices = misplaced 3 ∷ misplaced 5 ∷ [] }
unfolding chars digits serde_json_on_literals
ends = refl

-- a forced line is text whatever it is, and the blank lines between go
forced : reads (sA ∷ a ∷ [] ∷ F ∷ [] ∷ (32 ∷ []) ∷ sB ∷ F ∷ B ∷ F ∷ b ∷ []) ≡ quiet (book (section 1 nA (markdown 1 (a ++ 10 ∷ 10 ∷ sB ++ 10 ∷ B ++ 10 ∷ b) ∷ []) ∷ []) 2 2)
unfolding chars digits serde_json_on_literals
forced = refl

-- with a forced fence its lines are text, but not the next fence
forced_fence : reads (sA ∷ F ∷ [] ∷ E ∷ sB ∷ T ∷ E ∷ b ∷ T ∷ []) ≡ quiet (book (section 1 nA (markdown 1 (E ++ 10 ∷ sB ++ 10 ∷ T) ∷ code 2 b ∷ []) ∷ []) 3 2)
unfolding chars digits serde_json_on_literals
forced_fence = refl

-- the line after a forcing line may be a forcing line, and then it is text
forced_force : reads (sA ∷ F ∷ F ∷ a ∷ []) ≡ quiet (book (section 1 nA (markdown 1 (F ++ 10 ∷ a) ∷ []) ∷ []) 2 2)
unfolding chars digits serde_json_on_literals
forced_force = refl

-- a forcing line with nothing after it is dropped, and makes no cell
forced_nothing : reads (sA ∷ a ∷ E ∷ T ∷ F ∷ [] ∷ []) ≡ quiet (book (section 1 nA (markdown 1 a ∷ code 2 [] ∷ []) ∷ []) 3 2)
unfolding chars digits serde_json_on_literals
forced_nothing = refl

-- ---- code

code_cell : reads (sA ∷ E ∷ codes "x" ∷ [] ∷ sB ∷ T ∷ []) ≡ quiet (book (section 1 nA (code 1 (codes "x" ++ 10 ∷ 10 ∷ sB) ∷ []) ∷ []) 2 2)
unfolding chars
code_cell = refl

-- a shorter run doesn't close a fence, nor does the other character; a longer run does
closing : reads (sA ∷ codes "````elixir" ∷ T ∷ codes "~~~~" ∷ codes "````` " ∷ b ∷ []) ≡ quiet (book (section 1 nA (code 1 (T ++ 10 ∷ codes "~~~~") ∷ markdown 2 b ∷ []) ∷ []) 3 2)
unfolding chars
closing = refl

unclosed : reads (sA ∷ E ∷ a ∷ [] ∷ []) ≡ quiet (book (section 1 nA (code 1 (a ++ 10 ∷ []) ∷ []) ∷ []) 2 2)
unfolding chars
unclosed = refl

-- the setup cell: metadata and blank lines before it don't count, and it keeps the unknown lines
setup_cell : reads (codes "# T" ∷ U ∷ K 0 ∷ [] ∷ O ∷ B ∷ E ∷ a ∷ T ∷ E ∷ b ∷ T ∷ [])
    ≡ record { notebook = record (titled (codes "T") (section 1 (codes "Section") (code 1 b ∷ []) ∷ []) 2 2) { setup = record (setup a) { before = U ∷ [] } }; notices = misplaced 3 ∷ misplaced 5 ∷ [] }
unfolding chars digits serde_json_on_literals
setup_cell = refl

setup_without_name : reads (E ∷ a ∷ T ∷ codes "# T" ∷ []) ≡ quiet (record (book (section 1 (codes "Section") (markdown 1 (codes "# T") ∷ []) ∷ []) 2 2) { setup = setup a })
unfolding chars
setup_without_name = refl

-- after a section and after text, code is no setup cell
no_setup : reads (a ∷ E ∷ b ∷ T ∷ []) ≡ quiet (book (section 1 (codes "Section") (markdown 1 a ∷ code 2 b ∷ []) ∷ []) 3 2)
unfolding chars
no_setup = refl

-- an unknown line before the first cell outside sections is the cell's
before_first : reads (U ∷ a ∷ []) ≡ quiet (book (section 1 (codes "Section") (record (markdown 1 a) { before = U ∷ [] } ∷ []) ∷ []) 2 2)
unfolding chars digits serde_json_on_literals
before_first = refl

-- ---- kept lines

-- they stand before the next name, section or cell, or behind all, without blanks at their end
kept_lines : reads (sA ∷ (U ++ 32 ∷ 9 ∷ []) ∷ [] ∷ V ∷ E ∷ T ∷ U ∷ sB ∷ V ∷ a ∷ U ∷ V ∷ [])
    ≡ quiet (record (book (section 1 nA (record (code 1 []) { before = U ∷ V ∷ [] } ∷ []) ∷ record (section 2 nB (record (markdown 2 a) { before = V ∷ [] } ∷ [])) { before = U ∷ [] } ∷ []) 3 3) { after = U ∷ V ∷ [] })
unfolding chars digits serde_json_on_literals
kept_lines = refl

-- a stamp is dropped where only blank lines follow, and kept elsewhere, also before a line that is dropped
stamps : reads (sA ∷ S ∷ a ∷ S ∷ B ∷ S ∷ [] ∷ []) ≡ quiet (record (book (section 1 nA (record (markdown 1 a) { before = S ∷ [] } ∷ []) ∷ []) 2 2) { after = S ∷ [] })
unfolding chars digits serde_json_on_literals
stamps = refl

stamp_before_force : reads (S ∷ F ∷ []) ≡ quiet (record untitled { after = S ∷ [] })
unfolding chars digits serde_json_on_literals
stamp_before_force = refl

-- ---- branches

branches : reads (sA ∷ sB ∷ K 0 ∷ [] ∷ U ∷ codes "## C" ∷ [])
    ≡ quiet (book (section 1 nA [] ∷ section 2 nB [] ∷ record (branch 3 (codes "C") 1 []) { before = U ∷ [] } ∷ []) 1 4)
unfolding chars digits serde_json_on_literals
branches = refl

-- the index counts the section that is made for cells before the first
branch_from_made : reads (a ∷ K 0 ∷ sA ∷ K 1 ∷ sB ∷ []) ≡ record { notebook = book (section 1 (codes "Section") (markdown 1 a ∷ []) ∷ branch 2 nA 1 [] ∷ section 3 nB [] ∷ []) 2 4; notices = bad_branch 4 ∷ [] }
unfolding chars digits serde_json_on_literals
branch_from_made = refl

-- no earlier section with the index, and one that branches itself
bad_branches : reads (K 0 ∷ sA ∷ K 0 ∷ sB ∷ K 1 ∷ codes "## C" ∷ [])
    ≡ record { notebook = book (section 1 nA [] ∷ branch 2 nB 1 [] ∷ section 3 (codes "C") [] ∷ []) 1 4; notices = bad_branch 1 ∷ bad_branch 5 ∷ [] }
unfolding chars digits serde_json_on_literals
bad_branches = refl

-- an output line between is looked through, whatever comes of the branch line, and the notices stand in the order of lines
output_between : reads (sA ∷ K 0 ∷ O ∷ sB ∷ K 7 ∷ O ∷ codes "## C" ∷ K 0 ∷ O ∷ a ∷ [])
    ≡ record { notebook = book (section 1 nA [] ∷ branch 2 nB 1 [] ∷ section 3 (codes "C") (markdown 1 a ∷ []) ∷ []) 2 4; notices = misplaced 3 ∷ bad_branch 5 ∷ misplaced 6 ∷ misplaced 8 ∷ misplaced 9 ∷ [] }
unfolding chars digits serde_json_on_literals
output_between = refl

-- a dropped line between is not
break_between : reads (sA ∷ K 0 ∷ B ∷ sB ∷ []) ≡ record { notebook = book (section 1 nA [] ∷ section 2 nB [] ∷ []) 1 3; notices = misplaced 2 ∷ [] }
unfolding chars digits serde_json_on_literals
break_between = refl

-- of two before one section the later one counts, even where it is ignored; before anything else both apply to nothing
two_branch_lines : reads (sA ∷ K 7 ∷ U ∷ K 0 ∷ sB ∷ K 0 ∷ K 7 ∷ codes "## C" ∷ K 0 ∷ K 0 ∷ a ∷ [])
    ≡ record { notebook = book (section 1 nA [] ∷ record (branch 2 nB 1 []) { before = U ∷ [] } ∷ section 3 (codes "C") (markdown 1 a ∷ []) ∷ []) 2 4; notices = bad_branch 7 ∷ misplaced 9 ∷ misplaced 10 ∷ [] }
unfolding chars digits serde_json_on_literals
two_branch_lines = refl

branch_at_end : reads (sA ∷ K 0 ∷ U ∷ []) ≡ record { notebook = record (book (section 1 nA [] ∷ []) 1 2) { after = U ∷ [] }; notices = misplaced 2 ∷ [] }
unfolding chars digits serde_json_on_literals
branch_at_end = refl

-- ---- saved outputs

outputs : reads (sA ∷ E ∷ a ∷ T ∷ [] ∷ O ∷ [] ∷ codes "```x y" ∷ b ∷ T ∷ O ∷ codes "~~~" ∷ codes "~~~" ∷ a ∷ [])
    ≡ quiet (book (section 1 nA (record (code 1 a) { saved = saved (codes "x y") b ∷ saved [] [] ∷ [] } ∷ markdown 2 a ∷ []) ∷ []) 3 2)
unfolding chars digits serde_json_on_literals
outputs = refl

-- also with the info of code, and at the setup cell
output_of_setup : reads (E ∷ a ∷ T ∷ O ∷ E ∷ b ∷ T ∷ E ∷ b ∷ T ∷ [])
    ≡ quiet (record (book (section 1 (codes "Section") (code 1 b ∷ []) ∷ []) 2 2) { setup = record (setup a) { saved = saved (codes "elixir") b ∷ [] } })
unfolding chars digits serde_json_on_literals
output_of_setup = refl

-- of two output lines the first applies to nothing and is looked through
two_outputs : reads (sA ∷ E ∷ T ∷ O ∷ [] ∷ O ∷ T ∷ a ∷ T ∷ []) ≡ record { notebook = book (section 1 nA (record (code 1 []) { saved = saved [] a ∷ [] } ∷ []) ∷ []) 2 2; notices = misplaced 4 ∷ [] }
unfolding chars digits serde_json_on_literals
two_outputs = refl

-- no fence behind it, a forced one, no code before it, and a branch line or a kept line between
output_alone : reads (O ∷ []) ≡ record { notebook = untitled; notices = misplaced 1 ∷ [] }
unfolding chars digits serde_json_on_literals
output_alone = refl

output_before_text : reads (sA ∷ E ∷ T ∷ O ∷ a ∷ T ∷ T ∷ []) ≡ record { notebook = book (section 1 nA (code 1 [] ∷ markdown 2 (a ++ 10 ∷ T ++ 10 ∷ T) ∷ []) ∷ []) 3 2; notices = misplaced 4 ∷ [] }
unfolding chars digits serde_json_on_literals
output_before_text = refl

output_before_force : reads (sA ∷ E ∷ T ∷ O ∷ F ∷ T ∷ T ∷ []) ≡ record { notebook = book (section 1 nA (code 1 [] ∷ markdown 2 (T ++ 10 ∷ T) ∷ []) ∷ []) 3 2; notices = misplaced 4 ∷ [] }
unfolding chars digits serde_json_on_literals
output_before_force = refl

output_after_text : reads (sA ∷ a ∷ O ∷ T ∷ T ∷ []) ≡ record { notebook = book (section 1 nA (markdown 1 a ∷ markdown 2 (T ++ 10 ∷ T) ∷ []) ∷ []) 3 2; notices = misplaced 3 ∷ [] }
unfolding chars digits serde_json_on_literals
output_after_text = refl

branch_before_output : reads (sA ∷ E ∷ T ∷ K 0 ∷ O ∷ T ∷ a ∷ T ∷ []) ≡ record { notebook = book (section 1 nA (code 1 [] ∷ markdown 2 (T ++ 10 ∷ a ++ 10 ∷ T) ∷ []) ∷ []) 3 2; notices = misplaced 4 ∷ misplaced 5 ∷ [] }
unfolding chars digits serde_json_on_literals
branch_before_output = refl

kept_before_output : reads (sA ∷ E ∷ T ∷ U ∷ O ∷ T ∷ a ∷ T ∷ []) ≡ record { notebook = book (section 1 nA (code 1 [] ∷ record (markdown 2 (T ++ 10 ∷ a ++ 10 ∷ T)) { before = U ∷ [] } ∷ []) ∷ []) 3 2; notices = misplaced 5 ∷ [] }
unfolding chars digits serde_json_on_literals
kept_before_output = refl

-- ---- tidy texts

cleaned : clean (97 ∷ 13 ∷ 98 ∷ 13 ∷ 13 ∷ 10 ∷ 13 ∷ 10 ∷ 99 ∷ 13 ∷ []) ≡ 97 ∷ 13 ∷ 98 ∷ 10 ∷ 10 ∷ 99 ∷ []
cleaned = refl

tidy_names : tidy_name (32 ∷ 13 ∷ 10 ∷ 97 ∷ 13 ∷ 98 ∷ 10 ∷ 9 ∷ 13 ∷ []) ≡ 97 ∷ 32 ∷ 98 ∷ 32 ∷ 9 ∷ []
tidy_names = refl

-- carriage returns go first, so a line of them alone is blank
outer_blanks : tidy_markdown (13 ∷ 10 ∷ 32 ∷ 9 ∷ 10 ∷ 97 ∷ 10 ∷ 10 ∷ 98 ∷ 10 ∷ 32 ∷ 13 ∷ []) ≡ 97 ∷ 10 ∷ 10 ∷ 98 ∷ []
outer_blanks = refl

nothing_left : tidy_markdown (32 ∷ 10 ∷ 13 ∷ []) ≡ []
nothing_left = refl

-- an open fence is closed by its opening characters, behind its last line that isn't blank
fence_closed : tidy_markdown (codes "~~~~ x" ++ 10 ∷ a ++ 10 ∷ 10 ∷ codes "~~~" ++ 10 ∷ []) ≡ codes "~~~~ x" ++ 10 ∷ a ++ 10 ∷ 10 ∷ codes "~~~" ++ 10 ∷ codes "~~~~"
fence_closed = refl

code_fence_closed : tidy_markdown E ≡ E ++ 10 ∷ T
code_fence_closed = refl

fence_was_closed : tidy_markdown (E ++ 10 ∷ T) ≡ E ++ 10 ∷ T
fence_was_closed = refl

-- ---- tidy notebooks

-- an empty Markdown cell goes, with its kept lines; numbers are given anew, also of parents; outputs of text and the bin go
untidy : Parts
untidy = record {
  name = 32 ∷ 84 ∷ 10 ∷ [];
  before = U ∷ [];
  setup = setup [];
  sections = section 7 nA (record (markdown 9 (32 ∷ [])) { before = V ∷ [] } ∷ record (markdown 3 a) { saved = saved [] b ∷ [] } ∷ []) ∷ branch 5 nB 7 (record (code 4 (b ++ 13 ∷ [])) { saved = saved [] (13 ∷ []) ∷ [] } ∷ []) ∷ [];
  bin = code 2 a ∷ [];
  after = [];
  next_cell = 10;
  next_section = 8;
}

tidy_book : Parts
tidy_book = record (titled (codes "T") (section 1 nA (markdown 1 a ∷ []) ∷ branch 2 nB 1 (record (code 2 b) { saved = saved [] [] ∷ [] } ∷ []) ∷ []) 3 3) { before = U ∷ [] }

tidy_is : tidied untidy ≡ tidy_book
unfolding chars encode_utf8 untidy tidy_book serde_json_on_literals
tidy_is = refl

-- ---- the text

written : text_of tidy_book ≡ text (U ∷ [] ∷ codes "# T" ∷ [] ∷ sA ∷ [] ∷ a ∷ [] ∷ K 0 ∷ [] ∷ sB ∷ [] ∷ E ∷ b ∷ T ∷ [] ∷ O ∷ [] ∷ T ∷ [] ∷ T ∷ [])
unfolding digits tidy_book serde_json_on_literals
written = refl

read_back : reads (U ∷ [] ∷ codes "# T" ∷ [] ∷ sA ∷ [] ∷ a ∷ [] ∷ K 0 ∷ [] ∷ sB ∷ [] ∷ E ∷ b ∷ T ∷ [] ∷ O ∷ [] ∷ T ∷ [] ∷ T ∷ []) ≡ quiet tidy_book
unfolding chars digits tidy_book serde_json_on_literals
read_back = refl

-- an empty notebook is its name
written_empty : text_of untitled ≡ text (codes "# Untitled notebook" ∷ [])
unfolding encode_utf8
written_empty = refl

-- between two Markdown cells stands a break, unless a kept line or code does
written_breaks : text_of (book (section 1 nA (markdown 1 a ∷ markdown 2 b ∷ record (markdown 3 a) { before = U ∷ [] } ∷ code 4 [] ∷ markdown 5 b ∷ []) ∷ section 2 nB (markdown 6 a ∷ []) ∷ []) 7 3)
    ≡ text (codes "# Untitled notebook" ∷ [] ∷ sA ∷ [] ∷ a ∷ [] ∷ B ∷ [] ∷ b ∷ [] ∷ U ∷ [] ∷ a ∷ [] ∷ E ∷ [] ∷ T ∷ [] ∷ b ∷ [] ∷ sB ∷ [] ∷ a ∷ [])
unfolding serde_json_on_literals
written_breaks = refl

-- what isn't text is forced, outside fences alone, and only what must be: a heading 1 and another fence are text
written_forced : text_of (book (section 1 nA (markdown 1 (sB ++ 10 ∷ codes "# x" ++ 10 ∷ B ++ 10 ∷ codes "~~~" ++ 10 ∷ sB ++ 10 ∷ codes "~~~" ++ 10 ∷ E ++ 10 ∷ sB ++ 10 ∷ T) ∷ []) ∷ []) 2 2)
    ≡ text (codes "# Untitled notebook" ∷ [] ∷ sA ∷ [] ∷ F ∷ [] ∷ sB ∷ codes "# x" ∷ F ∷ [] ∷ B ∷ codes "~~~" ∷ sB ∷ codes "~~~" ∷ F ∷ [] ∷ E ∷ sB ∷ T ∷ [])
unfolding serde_json_on_literals
written_forced = refl

-- a fence is longer than each run of backticks in it; the setup cell is written where anything of it is
written_setup : text_of (record untitled { setup = record untitled.setup { saved = saved (codes "x") (codes "````") ∷ [] }; after = U ∷ V ∷ [] })
    ≡ text (codes "# Untitled notebook" ∷ [] ∷ E ∷ [] ∷ T ∷ [] ∷ O ∷ [] ∷ codes "`````x" ∷ codes "````" ∷ codes "`````" ∷ [] ∷ U ∷ [] ∷ V ∷ [])
unfolding serde_json_on_literals
written_setup = refl

-- ---- written and read back

-- what the text of a notebook's tidy form is read as
abbrev again : Parts → Book
again n = record { notebook = notebook_of (items_of (text_of (tidied n))); notices = notices_of (items_of (text_of (tidied n))) }

empty_again : again untitled ≡ quiet (tidied untitled)
unfolding chars encode_utf8 digits serde_json_on_literals
empty_again = refl

-- Markdown cells beside each other, with a heading, a metadata line, forced code and an open fence in them, and one of blank lines
texts_book : Parts
texts_book = book (section 4 nA (markdown 3 (10 ∷ sB ++ 10 ∷ 10 ∷ codes "# x" ++ 10 ∷ U ++ 10 ∷ 32 ∷ 10 ∷ []) ∷ markdown 9 (E ++ 10 ∷ sB ++ 10 ∷ T ++ 10 ∷ codes "~~~~ x" ++ 10 ∷ F ++ 10 ∷ 10 ∷ []) ∷ record (markdown 1 (32 ∷ 13 ∷ 10 ∷ [])) { before = U ∷ [] } ∷ markdown 2 F ∷ []) ∷ []) 10 5

texts_again : again texts_book ≡ quiet (tidied texts_book)
unfolding chars encode_utf8 digits serde_json_on_literals texts_book
texts_again = refl

-- kept lines everywhere, with stamps among them
kept_book : Parts
kept_book = record untitled {
  before = S ∷ U ∷ S ∷ [];
  setup = record untitled.setup { before = S ∷ [] };
  sections = record (section 1 nA (record (markdown 1 a) { before = U ∷ S ∷ [] } ∷ record (code 2 []) { before = S ∷ [] } ∷ record (markdown 3 a) { before = S ∷ [] } ∷ [])) { before = S ∷ V ∷ [] } ∷ [];
  after = S ∷ V ∷ [];
}

kept_again : again kept_book ≡ quiet (tidied kept_book)
unfolding chars encode_utf8 digits serde_json_on_literals kept_book
kept_again = refl

-- branches from sections that aren't the first, with kept lines before them, and outputs, of the setup cell too
branched_book : Parts
branched_book = record (book (section 8 [] [] ∷ section 5 nA [] ∷ record (branch 9 nB 5 (record (code 7 (codes "```" ++ 10 ∷ codes "a````")) { saved = saved (codes "elixir") [] ∷ saved [] (codes "``" ++ 10 ∷ codes "`````") ∷ [] } ∷ markdown 6 (a ++ 13 ∷ 10 ∷ b ++ 13 ∷ 98 ∷ 13 ∷ 13 ∷ []) ∷ [])) { before = U ∷ S ∷ [] } ∷ branch 2 nA 8 [] ∷ []) 8 10) {
  name = 13 ∷ 10 ∷ 0xE9 ∷ 9 ∷ 32 ∷ [];
  setup = record (setup (10 ∷ 13 ∷ [])) { before = U ∷ []; saved = saved (codes "x y") (10 ∷ []) ∷ [] };
}

branched_again : again branched_book ≡ quiet (tidied branched_book)
unfolding chars encode_utf8 digits serde_json_on_literals branched_book
branched_again = refl
