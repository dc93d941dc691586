-- The cell that a change makes, if it makes one.
use Rattle.std.proofs.Common.{◌≡◌, ℕ, ◌+◌, ◌<◌, ◌==◌, not, Bool, true, false, if◌then◌else◌, List, [], ◌∷◌, ◌++◌, length, Option, Some, None, refl, ap, subst, ◌∙◌, arith}
use Rattle.std.specs.Prelude.{◌||◌, find, insert, nat_lt}
use Rattle.std.proofs.lemmas.Bool.Decides.{nat_tests}
use Rattle.notebook.specs.declared.parts.Cell.{Cell}
use Rattle.notebook.specs.declared.parts.Section.{Section}
use Rattle.notebook.specs.declared.parts.Parts.{Parts}
use Rattle.notebook.specs.declared.change.Change.{Change}
use Rattle.notebook.specs.declared.change.Change.TheVariants.{SetName, InsertSection, SetSectionName, DeleteSection, MoveSection, SetParent, InsertCell, DeleteCell, RestoreCell, MoveCell}
use Rattle.notebook.specs.declared.change.Changed.{Changed}
use Rattle.notebook.specs.declared.change.Changed.TheVariants.{Plain, NewCell, NewSection}
use Rattle.notebook.specs.Book.{found, section_cells}
use Rattle.notebook.specs.declared.change.NoteError.{NoteError}
use Rattle.notebook.specs.declared.change.NoteError.TheVariants.{NoSection, BadIndex, BadParent, HasBranches, TooManySections}
use Rattle.notebook.specs.Change.{Attempt, Makes, Fails, change, counted, if_room, is_full, lacks, cells_in, but_section, but_cell, cut_cell, put_cell, with_section, named, branching, has_branches, is_branch, parents_first, insert_section, delete_section, new_section, place_cell, move_section, set_parent, delete_cell, restore_cell, move_cell, kind_of, new_cell, renumbered}
use Rattle.notebook.specs.Flow.{is_section}
use Rattle.notebook.specs.Living.{gone_cells, made_cells, restored}

-- where no new cell is told, none is made; the one that is told has the next number, and no cell is taken away
abbrev pub IsMadeBy : Parts → Change → Changed → Type 0
IsMadeBy n asked Plain = made_cells n asked ≡ []
IsMadeBy n asked (NewCell id) = (gone_cells n asked ≡ []) × ((id ≡ n.next_cell) × ((c : Cell) × ((made_cells n asked ≡ c ∷ []) × (c.id ≡ id))))
IsMadeBy n asked (NewSection id) = made_cells n asked ≡ []

-- what holds of what a change tells, unless it is refused
abbrev Tells : (Changed → Type 0) → Attempt → Type 0
Tells P (Makes n made) = P made
Tells P (Fails why) = Unit {0}

tells-else : (P : Changed → Type 0) (b : Bool) (why : NoteError) (y : Attempt) → Tells P y → Tells P (if b then Fails why else y)
tells-else P true why y h = tt
tells-else P false why y h = h

tells-room : (P : Changed → Type 0) (full : Bool) (x : Attempt) → Tells P x → Tells P (if_room full x)
tells-room P true (Makes n made) h = tt
tells-room P false (Makes n made) h = h
tells-room P full (Fails why) h = tt

tells-placed : (P : Changed → Type 0) (n : Parts) (ss : List Section) (section index : ℕ) (c : Cell) (made : Changed) → P made → Tells P (place_cell n ss section index c made)
tells-placed P n ss section index c made h =
    let last : Attempt = Makes (record n { sections = put_cell section index c ss }) made in
    let fits : Attempt = if nat_lt (length (cells_in section ss)) index then Fails (BadIndex (length (cells_in section ss))) else last in
    tells-else P (lacks section ss) NoSection fits (tells-else P (nat_lt (length (cells_in section ss)) index) (BadIndex (length (cells_in section ss))) last h)

tells-put : (P : Changed → Type 0) (n : Parts) (index : ℕ) (o : Option Section) → P Plain → Tells P (move_section n index o)
tells-put P n index None h = tt
tells-put P n index (Some s) h =
    let others : List Section = but_section s.id n.sections in
    let last : Attempt = Makes (record n { sections = insert others index s }) Plain in
    let stands : Attempt = if not (parents_first (insert others index s)) then Fails BadParent else last in
    tells-else P (nat_lt (length others) index) (BadIndex (length others)) stands (tells-else P (not (parents_first (insert others index s))) BadParent last h)

tells-parent : (P : Changed → Type 0) (n : Parts) (section : ℕ) (parent : Option ℕ) → P Plain → Tells P (set_parent n section parent)
tells-parent P n section None h = tells-else P (lacks section n.sections) NoSection (Makes (record n { sections = with_section section (branching None) n.sections }) Plain) h
tells-parent P n section (Some parent) h =
    let last : Attempt = Makes (record n { sections = with_section section (branching (Some parent)) n.sections }) Plain in
    let free : Attempt = if has_branches section n.sections then Fails HasBranches else last in
    let bad : Bool = not (parents_first (with_section section (branching (Some parent)) n.sections)) || is_branch parent n.sections in
    let stands : Attempt = if bad then Fails BadParent else free in
    tells-else P (lacks section n.sections || lacks parent n.sections) NoSection stands (tells-else P bad BadParent free (tells-else P (has_branches section n.sections) HasBranches last h))

tells-section : (P : Changed → Type 0) (n : Parts) (index : ℕ) (name : List ℕ) → P (NewSection n.next_section) → Tells P (insert_section n index name)
tells-section P n index name h =
    let last : Attempt = Makes (record n { sections = insert n.sections index (new_section n.next_section name); next_section = n.next_section + 1 }) (NewSection n.next_section) in
    let room : Attempt = if nat_lt 1000 (length n.sections + 1) then Fails TooManySections else last in
    tells-else P (nat_lt (length n.sections) index) (BadIndex (length n.sections)) room (tells-else P (nat_lt 1000 (length n.sections + 1)) TooManySections last h)

tells-gone : (P : Changed → Type 0) (n : Parts) (section : ℕ) → P Plain → Tells P (delete_section n section)
tells-gone P n section h =
    let last : Attempt = Makes (record n { sections = but_section section n.sections; bin = n.bin ++ cells_in section n.sections }) Plain in
    let free : Attempt = if has_branches section n.sections then Fails HasBranches else last in
    tells-else P (lacks section n.sections) NoSection free (tells-else P (has_branches section n.sections) HasBranches last h)

tells-deleted : (P : Changed → Type 0) (n : Parts) (o : Option Cell) → P Plain → Tells P (delete_cell n o)
tells-deleted P n None h = tt
tells-deleted P n (Some c) h = h

tells-moved : (P : Changed → Type 0) (n : Parts) (section index : ℕ) (o : Option Cell) → P Plain → Tells P (move_cell n section index o)
tells-moved P n section index None h = tt
tells-moved P n section index (Some c) h = tells-placed P n (cut_cell c.id n.sections) section index c Plain h

tells-restored : (n : Parts) (cell section index : ℕ) (o : Option Cell) → found cell n.bin ≡ o → Tells (IsMadeBy n (RestoreCell cell section index)) (restore_cell n section index o)
tells-restored n cell section index None e = tt
tells-restored n cell section index (Some c) e =
    let P : Changed → Type 0 = IsMadeBy n (RestoreCell cell section index) in
    let bare : Parts = record n { bin = but_cell c.id n.bin; next_cell = n.next_cell + 1 } in
    let put : Attempt = place_cell bare n.sections section index (renumbered n.next_cell c) (NewCell n.next_cell) in
    tells-room P (is_full n c.kind) put (tells-placed P bare n.sections section index (renumbered n.next_cell c) (NewCell n.next_cell) (refl, (refl, (renumbered n.next_cell c, (ap (restored n.next_cell) e, refl)))))

tells-made : (n : Parts) (asked : Change) → Tells (IsMadeBy n asked) (change n asked)
tells-made n (SetName name) = refl
tells-made n (InsertSection index name) = tells-section (IsMadeBy n (InsertSection index name)) n index name refl
tells-made n (SetSectionName section name) = tells-else (IsMadeBy n (SetSectionName section name)) (lacks section n.sections) NoSection (Makes (record n { sections = with_section section (named name) n.sections }) Plain) refl
tells-made n (DeleteSection section) = tells-gone (IsMadeBy n (DeleteSection section)) n section refl
tells-made n (MoveSection section index) = tells-put (IsMadeBy n (MoveSection section index)) n index (find (is_section section) n.sections) refl
tells-made n (SetParent section parent) = tells-parent (IsMadeBy n (SetParent section parent)) n section parent refl
tells-made n (InsertCell section index kind) =
    let P : Changed → Type 0 = IsMadeBy n (InsertCell section index kind) in
    let put : Attempt = place_cell (counted n) n.sections section index (new_cell n.next_cell (kind_of kind)) (NewCell n.next_cell) in
    tells-room P (is_full n (kind_of kind)) put (tells-placed P (counted n) n.sections section index (new_cell n.next_cell (kind_of kind)) (NewCell n.next_cell) (refl, (refl, (new_cell n.next_cell (kind_of kind), (refl, refl)))))
tells-made n (DeleteCell cell) = tells-deleted (IsMadeBy n (DeleteCell cell)) n (found cell (section_cells n)) refl
tells-made n (RestoreCell cell section index) = tells-restored n cell section index (found cell n.bin) refl
tells-made n (MoveCell cell section index) = tells-moved (IsMadeBy n (MoveCell cell section index)) n section index (found cell (section_cells n)) refl

pub made-by : (n n' : Parts) (asked : Change) (made : Changed) → change n asked ≡ Makes n' made → IsMadeBy n asked made
made-by n n' asked made e = subst (Tells (IsMadeBy n asked)) e (tells-made n asked)

-- no number that was given before is that of the cell that is made
pub unmade : (n : Parts) (asked : Change) (made : Changed) (k : ℕ) → IsMadeBy n asked made → k < n.next_cell → found k (made_cells n asked) ≡ None
unmade n asked Plain k h below = ap (found k) h
unmade n asked (NewSection id) k h below = ap (found k) h
unmade n asked (NewCell id) k (gone, (next, (c, (only, number)))) below =
    let other : (c.id == k) ≡ false = grind (arith, nat_tests, number, next, below) in
    ap (found k) only ∙ ap (λ b. if b then Some c else None) other
