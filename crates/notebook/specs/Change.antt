-- What a change makes of a notebook, or the first refusal that applies.
use Rattle.std.specs.Prelude.{◌≡◌, ℕ, ◌+◌, ◌==◌, ◌&&◌, ◌||◌, not, nat_lt, Bool, true, false, if◌then◌else◌, List, [], ◌∷◌, ◌++◌, length, insert, find, Option, Some, None, Result, Ok, Err}
use Rattle.std.specs.List.{list_any}
use Rattle.limits.specs.Limits.{most_sections, most_cells, most_code_cells}
use Rattle.notebook.specs.declared.parts.Cell.{Cell}
use Rattle.notebook.specs.declared.parts.Section.{Section}
use Rattle.notebook.specs.declared.parts.Parts.{Parts}
use Rattle.notebook.specs.declared.parts.Kind.{Kind}
use Rattle.notebook.specs.declared.parts.Kind.TheVariants as kinds
use Rattle.notebook.specs.declared.change.CellKind.{CellKind}
use Rattle.notebook.specs.declared.change.CellKind.TheVariants.{Code, Markdown}
use Rattle.notebook.specs.declared.change.Change.{Change}
use Rattle.notebook.specs.declared.change.Change.TheVariants.{SetName, InsertSection, SetSectionName, DeleteSection, MoveSection, SetParent, InsertCell, DeleteCell, RestoreCell, MoveCell}
use Rattle.notebook.specs.declared.change.Changed.{Changed}
use Rattle.notebook.specs.declared.change.Changed.TheVariants.{Plain, NewCell, NewSection}
use Rattle.notebook.specs.declared.change.NoteError.{NoteError}
use Rattle.notebook.specs.declared.change.NoteError.TheVariants.{NoCell, NoSection, BadIndex, BadParent, HasBranches, TooManyCells, TooManySections, OutOfMemory}
use Rattle.notebook.specs.Book.{found, section_cells}
use Rattle.notebook.specs.Flow.{is_section, is_main}
use Rattle.notebook.specs.Rules.{code_weight, code_count}

-- what a change comes to: the notebook after it with what was made, or a refusal
pub data Attempt : Type 0 where
  Makes : Parts → Changed → Attempt
  Fails : NoteError → Attempt

-- no section has the number
abbrev pub lacks : ℕ → List Section → Bool
lacks id ss = not (list_any (is_section id) ss)

-- the sections but that of the number
abbrev pub but_section : ℕ → List Section → List Section
but_section id [] = []
but_section id (s ∷ ss) = if s.id == id then but_section id ss else s ∷ but_section id ss

-- the sections, that of the number changed by f
abbrev pub with_section : ℕ → (Section → Section) → List Section → List Section
with_section id f [] = []
with_section id f (s ∷ ss) = (if s.id == id then f s else s) ∷ with_section id f ss

-- the cells of the section of the number
abbrev pub cells_in : ℕ → List Section → List Cell
cells_in id [] = []
cells_in id (s ∷ ss) = if s.id == id then s.cells else cells_in id ss

-- the cells but that of the number
abbrev pub but_cell : ℕ → List Cell → List Cell
but_cell id [] = []
but_cell id (c ∷ cs) = if c.id == id then but_cell id cs else c ∷ but_cell id cs

-- the sections without the cell of the number
abbrev pub cut_cell : ℕ → List Section → List Section
cut_cell id [] = []
cut_cell id (s ∷ ss) = record s { cells = but_cell id s.cells } ∷ cut_cell id ss

-- a section with a cell put at the index
abbrev pub with_cell : ℕ → Cell → Section → Section
with_cell index c s = record s { cells = insert s.cells index c }

-- the sections with a cell put at the index of that of the number
abbrev pub put_cell : ℕ → ℕ → Cell → List Section → List Section
put_cell section index c ss = with_section section (with_cell index c) ss

-- a section with another name, and with another parent
abbrev pub named : List ℕ → Section → Section
named name s = record s { name = name }

abbrev pub branching : Option ℕ → Section → Section
branching parent s = record s { parent = parent }

-- whether a section branches from that of the number
abbrev pub is_that : ℕ → Option ℕ → Bool
is_that id None = false
is_that id (Some parent) = parent == id

abbrev pub branches_from : ℕ → Section → Bool
branches_from id s = is_that id s.parent

-- whether some section branches from that of the number
abbrev pub has_branches : ℕ → List Section → Bool
has_branches id ss = list_any (branches_from id) ss

-- whether the section of the number branches from another
abbrev pub is_branch_numbered : ℕ → Section → Bool
is_branch_numbered id s = is_section id s && not (is_main s)

abbrev pub is_branch : ℕ → List Section → Bool
is_branch id ss = list_any (is_branch_numbered id) ss

-- whether each branch stands after its parent, where the sections `before` stand before
abbrev pub stands_after : List Section → Option ℕ → Bool
stands_after before None = true
stands_after before (Some parent) = list_any (is_section parent) before

abbrev pub parents_first_after : List Section → List Section → Bool
parents_first_after before [] = true
parents_first_after before (s ∷ ss) = stands_after before s.parent && parents_first_after (before ++ s ∷ []) ss

-- whether each branch stands after its parent
abbrev pub parents_first : List Section → Bool
parents_first ss = parents_first_after [] ss

-- whether one cell more of the kind would pass a limit: that of the cells, or of the code cells among them
abbrev pub is_full : Parts → Kind → Bool
is_full n kind = nat_lt most_cells (length (section_cells n) + 1) || nat_lt most_code_cells (code_count (section_cells n) + code_weight kind)

-- what a new cell and a new section are
abbrev pub kind_of : CellKind → Kind
kind_of Code = kinds.Code
kind_of Markdown = kinds.Markdown

abbrev pub new_cell : ℕ → Kind → Cell
new_cell id kind = record { id = id; kind = kind; source = []; before = []; saved = [] }

abbrev pub new_section : ℕ → List ℕ → Section
new_section id name = record { id = id; name = name; before = []; parent = None; cells = [] }

-- a new section at an index
abbrev pub insert_section : Parts → ℕ → List ℕ → Attempt
insert_section n index name =
    if nat_lt (length n.sections) index then Fails (BadIndex (length n.sections)) else (if nat_lt most_sections (length n.sections + 1) then Fails TooManySections else Makes (record n { sections = insert n.sections index (new_section n.next_section name); next_section = n.next_section + 1 }) (NewSection n.next_section))

-- a section with another name
abbrev pub set_section_name : Parts → ℕ → List ℕ → Attempt
set_section_name n section name =
    if lacks section n.sections then Fails NoSection else Makes (record n { sections = with_section section (named name) n.sections }) Plain

-- a section from which none branches is taken out; its cells go to the bin in order
abbrev pub delete_section : Parts → ℕ → Attempt
delete_section n section =
    if lacks section n.sections then Fails NoSection else (if has_branches section n.sections then Fails HasBranches else Makes (record n { sections = but_section section n.sections; bin = n.bin ++ cells_in section n.sections }) Plain)

-- a section is put at the index of the others, where each branch then stands after its parent
abbrev pub put_section : Parts → List Section → ℕ → Section → Attempt
put_section n others index s =
    if nat_lt (length others) index then Fails (BadIndex (length others)) else (if not (parents_first (insert others index s)) then Fails BadParent else Makes (record n { sections = insert others index s }) Plain)

abbrev pub move_section : Parts → ℕ → Option Section → Attempt
move_section n index None = Fails NoSection
move_section n index (Some s) = put_section n (but_section s.id n.sections) index s

-- a section branches from none, or from a section before it that branches from none; then none branches from it
abbrev pub set_parent : Parts → ℕ → Option ℕ → Attempt
set_parent n section None = if lacks section n.sections then Fails NoSection else Makes (record n { sections = with_section section (branching None) n.sections }) Plain
set_parent n section (Some parent) =
    if lacks section n.sections || lacks parent n.sections then Fails NoSection else (if not (parents_first (with_section section (branching (Some parent)) n.sections)) || is_branch parent n.sections then Fails BadParent else (if has_branches section n.sections then Fails HasBranches else Makes (record n { sections = with_section section (branching (Some parent)) n.sections }) Plain))

-- a cell is put at the index of a section of these, the rest of the notebook being n
abbrev pub place_cell : Parts → List Section → ℕ → ℕ → Cell → Changed → Attempt
place_cell n ss section index c made =
    if lacks section ss then Fails NoSection else (if nat_lt (length (cells_in section ss)) index then Fails (BadIndex (length (cells_in section ss))) else Makes (record n { sections = put_cell section index c ss }) made)

-- one cell more: it has the next number, unless a limit would be passed
abbrev pub if_room : Bool → Attempt → Attempt
if_room full (Makes n made) = if full then Fails TooManyCells else Makes n made
if_room full (Fails e) = Fails e

-- the notebook whose next cell number is the one after
abbrev pub counted : Parts → Parts
counted n = record n { next_cell = n.next_cell + 1 }

-- a new cell without source
abbrev pub insert_cell : Parts → ℕ → ℕ → Kind → Attempt
insert_cell n section index kind =
    if_room (is_full n kind) (place_cell (counted n) n.sections section index (new_cell n.next_cell kind) (NewCell n.next_cell))

-- a cell of a section is taken out, to the bin's end
abbrev pub delete_cell : Parts → Option Cell → Attempt
delete_cell n None = Fails NoCell
delete_cell n (Some c) = Makes (record n { sections = cut_cell c.id n.sections; bin = n.bin ++ c ∷ [] }) Plain

-- a cell of the bin is taken out, and put under the next number
abbrev pub renumbered : ℕ → Cell → Cell
renumbered id c = record c { id = id }

abbrev pub restore_cell : Parts → ℕ → ℕ → Option Cell → Attempt
restore_cell n section index None = Fails NoCell
restore_cell n section index (Some c) =
    if_room (is_full n c.kind) (place_cell (record n { bin = but_cell c.id n.bin; next_cell = n.next_cell + 1 }) n.sections section index (renumbered n.next_cell c) (NewCell n.next_cell))

-- a cell of a section is taken out, and put
abbrev pub move_cell : Parts → ℕ → ℕ → Option Cell → Attempt
move_cell n section index None = Fails NoCell
move_cell n section index (Some c) = place_cell n (cut_cell c.id n.sections) section index c Plain

-- the changed notebook with what the change made, or the first refusal that applies
abbrev pub change : Parts → Change → Attempt
change n (SetName name) = Makes (record n { name = name }) Plain
change n (InsertSection index name) = insert_section n index name
change n (SetSectionName section name) = set_section_name n section name
change n (DeleteSection section) = delete_section n section
change n (MoveSection section index) = move_section n index (find (is_section section) n.sections)
change n (SetParent section parent) = set_parent n section parent
change n (InsertCell section index kind) = insert_cell n section index (kind_of kind)
change n (DeleteCell cell) = delete_cell n (found cell (section_cells n))
change n (RestoreCell cell section index) = restore_cell n section index (found cell n.bin)
change n (MoveCell cell section index) = move_cell n section index (found cell (section_cells n))

-- the refusal is that of the definition; want of memory may always come
abbrev pub Refuses : Parts → Change → NoteError → Type 0
Refuses n asked OutOfMemory = Unit {0}
Refuses n asked e = change n asked ≡ Fails e

-- how an answer, and the notebook after it, stand to the change
abbrev pub IsAnswered : Parts → Change → Parts → Result Changed NoteError → Type 0
IsAnswered old asked new (Ok made) = change old asked ≡ Makes new made
IsAnswered old asked new (Err e) = Refuses old asked e × (new ≡ old)
