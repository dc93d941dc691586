-- Worked lists of items, by computation: a check of what they make.
use Rattle.std.proofs.Common.{◌≡◌, ℕ, List, [], ◌∷◌, Some, None, refl, codes}
use Rattle.std.specs.Str.{chars}
use Rattle.notebook.specs.declared.parts.Cell.{Cell}
use Rattle.notebook.specs.declared.parts.Saved.{Saved}
use Rattle.notebook.specs.declared.parts.Section.{Section}
use Rattle.notebook.specs.declared.parts.Parts.{Parts}
use Rattle.notebook.specs.declared.parts.Kind.TheVariants as cell
use Rattle.notebook.specs.Book.{empty_setup, untitled}
use Rattle.livemd_format.specs.declared.notices.Notice.{Notice}
use Rattle.livemd_format.specs.declared.notices.NoticeKind.TheVariants as notice
use Rattle.livemd_format.specs.Items.{Item, Name, Setup, Code, Markdown, Kept, Branch, Dropped, Misplaced}
use Rattle.livemd_format.specs.Items as item
use Rattle.livemd_format.specs.Made.{notebook_of, notices_of}

abbrev a : List ℕ
a = codes "a"

abbrev b : List ℕ
b = codes "b"

abbrev c : List ℕ
c = codes "c"

abbrev d : List ℕ
d = codes "d"

abbrev e : List ℕ
e = codes "e"

abbrev x : List ℕ
x = codes "x"

abbrev y : List ℕ
y = codes "y"

abbrev saved : List ℕ → Saved
saved text = record { info = []; text = text }

abbrev code : ℕ → List ℕ → List (List ℕ) → List Saved → Cell
code id source before outputs = record { id = id; kind = cell.Code; source = source; before = before; saved = outputs }

abbrev markdown : ℕ → List ℕ → List (List ℕ) → Cell
markdown id source before = record { id = id; kind = cell.Markdown; source = source; before = before; saved = [] }

abbrev section : ℕ → List ℕ → List (List ℕ) → List Cell → Section
section id name before cells = record { id = id; name = name; before = before; parent = None; cells = cells }

abbrev branch : ℕ → List ℕ → List (List ℕ) → ℕ → Section
branch id name before parent = record { id = id; name = name; before = before; parent = Some parent; cells = [] }

abbrev book : List Section → ℕ → ℕ → Parts
book sections next_cell next_section = record untitled { sections = sections; next_cell = next_cell; next_section = next_section }

abbrev bad_branch : ℕ → Notice
bad_branch line = record { line = line; kind = notice.BadBranch }

abbrev misplaced : ℕ → Notice
misplaced line = record { line = line; kind = notice.Misplaced }

-- each takes the kept lines directly before it; outputs, dropped lines and lines that apply to nothing leave them
kept_lines : notebook_of (Kept a ∷ Dropped ∷ Name x ∷ Kept b ∷ Setup y ∷ item.Saved [] x ∷ Kept c ∷ Misplaced 9 ∷ Kept d ∷ Code x ∷ item.Saved [] y ∷ Kept e ∷ item.Section a ∷ Kept a ∷ []) ≡ record untitled {
  name = x;
  before = a ∷ [];
  setup = record empty_setup { source = y; before = b ∷ []; saved = saved x ∷ [] };
  sections = section 1 (codes "Section") [] (code 1 x (c ∷ d ∷ []) (saved y ∷ []) ∷ []) ∷ section 2 a (e ∷ []) [] ∷ [];
  after = a ∷ [];
  next_cell = 2;
  next_section = 3;
}
unfolding chars
kept_lines = refl

-- the section of cells before the first section item takes no lines
own_section : notebook_of (Kept a ∷ Markdown x ∷ Kept b ∷ item.Section y ∷ Markdown y ∷ []) ≡ book (section 1 (codes "Section") [] (markdown 1 x (a ∷ []) ∷ []) ∷ section 2 y (b ∷ []) (markdown 2 y [] ∷ []) ∷ []) 3 3
unfolding chars
own_section = refl

-- an output goes to the last cell of the last section
outputs : notebook_of (item.Section a ∷ Code x ∷ item.Saved [] a ∷ item.Saved [] b ∷ Markdown y ∷ item.Saved [] c ∷ item.Section b ∷ item.Saved [] d ∷ Code y ∷ []) ≡ book (
    section 1 a [] (code 1 x [] (saved a ∷ saved b ∷ []) ∷ record (markdown 2 y []) { saved = saved c ∷ [] } ∷ []) ∷ section 2 b [] (code 3 y [] [] ∷ []) ∷ []
    ) 4 3
unfolding chars
outputs = refl

-- a branch line gives the parent of the section that comes next; kept lines between the two are the section's
branches : notebook_of (item.Section a ∷ item.Section b ∷ Branch 3 1 ∷ Kept x ∷ item.Section c ∷ Branch 6 0 ∷ item.Section d ∷ item.Section e ∷ []) ≡ book (section 1 a [] [] ∷ section 2 b [] [] ∷ branch 3 c (x ∷ []) 2 ∷ branch 4 d [] 1 ∷ section 5 e [] [] ∷ []) 1 6
unfolding chars
branches = refl

-- the section of cells before the first section item has an index, once a cell stands there
from_own_section : notebook_of (Markdown x ∷ Branch 2 0 ∷ item.Section a ∷ []) ≡ book (section 1 (codes "Section") [] (markdown 1 x [] ∷ []) ∷ branch 2 a [] 1 ∷ []) 2 3
unfolding chars
from_own_section = refl

-- nothing to branch from yet, from a branch, and past the end; then a line that no section follows
bad_branches : notebook_of (Branch 1 0 ∷ item.Section a ∷ Branch 3 0 ∷ item.Section b ∷ Branch 5 1 ∷ item.Section c ∷ Branch 7 3 ∷ item.Section d ∷ Branch 9 0 ∷ []) ≡ book (section 1 a [] [] ∷ branch 2 b [] 1 ∷ section 3 c [] [] ∷ section 4 d [] [] ∷ []) 1 5
unfolding chars
bad_branches = refl

bad_branch_notices : notices_of (Branch 1 0 ∷ item.Section a ∷ Branch 3 0 ∷ item.Section b ∷ Branch 5 1 ∷ item.Section c ∷ Branch 7 3 ∷ Misplaced 8 ∷ item.Section d ∷ Branch 10 0 ∷ []) ≡ bad_branch 1 ∷ bad_branch 5 ∷ bad_branch 7 ∷ misplaced 8 ∷ misplaced 10 ∷ []
unfolding chars
bad_branch_notices = refl
