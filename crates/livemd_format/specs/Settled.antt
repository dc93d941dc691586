-- What branch lines and stamps are, by the items after them.
use Rattle.std.specs.Prelude.{ℕ, Bool, true, false, if◌then◌else◌, List, [], ◌∷◌}
use Rattle.blanks.specs.Blanks.{is_empty}
use Rattle.livemd_format.specs.Items.{Item, Section, Kept, Stamp, Branch, Dropped, Misplaced}

-- what may stand between a branch line and its section: unknown metadata, other branch lines, and lines that are as if they
-- weren't there
abbrev pub is_between : Item → Bool
is_between (Kept line) = true
is_between (Stamp line) = true
is_between (Branch number index) = true
is_between (Misplaced number) = true
is_between other = false

abbrev pub is_section : Item → Bool
is_section (Section name) = true
is_section other = false

abbrev pub is_branch : Item → Bool
is_branch (Branch number index) = true
is_branch other = false

-- whether a section comes next, and whether another branch line stands before what comes next
abbrev pub section_next : List Item → Bool
section_next [] = false
section_next (i ∷ is) = if is_between i then section_next is else is_section i

abbrev pub branch_next : List Item → Bool
branch_next [] = false
branch_next (i ∷ is) = if is_branch i then true else (if is_between i then branch_next is else false)

-- a branch line stays where a section comes next and no later branch line stands before that; the earlier of two before one
-- section is dropped; and where no section comes next, the line applies to nothing
abbrev pub settled_branch : ℕ → ℕ → List Item → Item
settled_branch number index is = if section_next is then (if branch_next is then Dropped else Branch number index) else Misplaced number

-- a stamp is dropped where nothing but blank lines follows; otherwise it is an unknown metadata line like others
abbrev pub settled_stamp : List ℕ → List Item → Item
settled_stamp line is = if is_empty is then Dropped else Kept line

-- an item, by the items after it
abbrev pub settle : Item → List Item → Item
settle (Branch number index) is = settled_branch number index is
settle (Stamp line) is = settled_stamp line is
settle other is = other

abbrev pub settled : List Item → List Item
settled [] = []
settled (i ∷ is) = settle i is ∷ settled is
