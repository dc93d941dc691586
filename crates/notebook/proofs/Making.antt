-- What each change makes, by the places where the code finds its sections and cells.
use Rattle.std.proofs.Common.{◌≡◌, ℕ, ◌+◌, ◌-◌, ◌<◌, ◌≤◌, true, false, Bool, List, [], ◌∷◌, ◌++◌, Some, None, length, get_or, set, map, refl, sym, ap, ◌∙◌, arith, subst}
use Rattle.std.specs.Prelude.{not, nat_lt, find, slice_get, slice_set, insert, remove, if◌then◌else◌}
use Rattle.std.specs.List.{list_any}
use Rattle.std.proofs.lemmas.Bool.{le-ltb, lt-ltb}
use Rattle.std.proofs.lemmas.List.{set-get_or}
use Rattle.std.proofs.lemmas.List.Edits.{insert_end, length-remove}
use Rattle.std.proofs.lemmas.Option.{get_or_from_slice_get, slice_get_read}
use Rattle.notebook.specs.declared.parts.Cell.{Cell}
use Rattle.notebook.specs.declared.parts.Section.{Section}
use Rattle.notebook.specs.declared.parts.Parts.{Parts}
use Rattle.notebook.specs.declared.parts.Kind.{Kind}
use Rattle.notebook.specs.declared.change.Changed.{Changed}
use Rattle.notebook.specs.declared.change.Changed.TheVariants.{Plain, NewCell}
use Rattle.notebook.specs.declared.change.NoteError.TheVariants.{NoSection, BadIndex, BadParent, HasBranches, TooManyCells}
use Rattle.notebook.specs.Book.{found, section_cells}
use Rattle.notebook.specs.Flow.{is_section}
use Rattle.notebook.specs.Lists.{IsShifted, IsTransferred}
use Rattle.notebook.specs.Places.{IsPlace, IsSectionAt}
use Rattle.notebook.specs.Rules.{IsNotebook, AreDistinct, section_number}
use Rattle.notebook.specs.Change.{Makes, Fails, lacks, with_section, but_section, cells_in, cut_cell, with_cell, put_cell, named, branching, has_branches, parents_first, is_full, new_cell, set_section_name, delete_section, put_section, move_section, set_parent, place_cell, if_room, counted, insert_cell, delete_cell}
use Rattle.notebook.proofs.Spots.{spot-there, spot-within, spot-home, spot-lacks, spot-cells, spot-find, spot-but, spot-set, set-with, remove-but, remove-seam, find-none}
use Rattle.notebook.proofs.Finding.{found-place}
use Rattle.notebook.proofs.Cuts.{cut-set, cell-home, place-home}

-- writing back what stands there changes nothing
pub set-same : {X : Type 0} (xs : List X) (i : ℕ) (x : X) → slice_get xs i ≡ Some x → slice_set xs i x ≡ xs
set-same xs i x there = ap (λ y. set xs i y) (sym (get_or_from_slice_get xs i x x there)) ∙ set-get_or xs i x

-- names
pub made-section_name : (n : Parts) (section at : ℕ) (name : List ℕ) (s : Section) → IsNotebook n → IsSectionAt n.sections section at → slice_get n.sections at ≡ Some s → set_section_name n section name ≡ Makes (record n { sections = slice_set n.sections at (record s { name = name }) }) Plain
made-section_name n section at name s h p there =
    let new : slice_set n.sections at (named name s) ≡ with_section section (named name) n.sections =
    set-with n.sections section at (named name) s p h.section_numbers.1 there in
    ap (λ b. if b then Fails NoSection else Makes (record n { sections = with_section section (named name) n.sections }) Plain) (spot-lacks n.sections section at p)
    ∙ ap (λ ss. Makes (record n { sections = ss }) Plain) (sym new)

-- deleted sections
pub no-deleted : (n : Parts) (section at : ℕ) → IsSectionAt n.sections section at → has_branches section n.sections ≡ true → delete_section n section ≡ Fails HasBranches
no-deleted n section at p branches = let there : lacks section n.sections ≡ false = spot-lacks n.sections section at p in rw (there, branches) refl

pub made-delete_section : (n : Parts) (section at : ℕ) (s : Section) → IsNotebook n → IsSectionAt n.sections section at → slice_get n.sections at ≡ Some s → has_branches section n.sections ≡ false → delete_section n section ≡ Makes (record n { sections = remove (slice_set n.sections at (record s { cells = [] })) at; bin = n.bin ++ s.cells }) Plain
made-delete_section n section at s h p there branches =
    let e : Section = record s { cells = [] } in
    let left : remove (slice_set n.sections at e) at ≡ p.front ++ p.back =
    ap (λ (ss : List Section). remove ss at) (spot-set n.sections section at e p)
    ∙ (ap (λ (i : ℕ). remove (p.front ++ e ∷ p.back) i) p.place ∙ remove-seam p.front e p.back) in
    let sections : remove (slice_set n.sections at e) at ≡ but_section section n.sections = left ∙ sym (spot-but n.sections section at p h.section_numbers.1) in
    let cells : cells_in section n.sections ≡ s.cells =
    spot-cells n.sections section at p ∙ ap (λ (t : Section). t.cells) (sym (spot-home n.sections section at p s there)) in
    ap (λ b. if b then Fails NoSection else (if has_branches section n.sections then Fails HasBranches else Makes (record n { sections = but_section section n.sections; bin = n.bin ++ cells_in section n.sections }) Plain)) (spot-lacks n.sections section at p)
    ∙ (ap (λ b. if b then Fails HasBranches else Makes (record n { sections = but_section section n.sections; bin = n.bin ++ cells_in section n.sections }) Plain) branches
    ∙ (ap (λ ss. Makes (record n { sections = ss; bin = n.bin ++ cells_in section n.sections }) Plain) (sym sections)
    ∙ ap (λ cs. Makes (record n { sections = remove (slice_set n.sections at e) at; bin = n.bin ++ cs }) Plain) cells))

-- moved sections
pub move-is : (n : Parts) (section at index : ℕ) → IsNotebook n → (p : IsSectionAt n.sections section at) → move_section n index (find (is_section section) n.sections) ≡ put_section n (remove n.sections at) index p.home
move-is n section at index h p =
    ap (move_section n index) (spot-find n.sections section at p)
    ∙ (ap (λ (k : ℕ). put_section n (but_section k n.sections) index p.home) p.number
    ∙ ap (λ ss. put_section n ss index p.home) (sym (remove-but n.sections section at p h.section_numbers.1)))

others : (n : Parts) (section at : ℕ) → IsSectionAt n.sections section at → length (remove n.sections at) ≡ length n.sections - 1
others n section at p = omega (arith, length-remove n.sections at (spot-within n.sections section at p), spot-within n.sections section at p)

pub none-moved : (n : Parts) (section index : ℕ) → lacks section n.sections ≡ true → move_section n index (find (is_section section) n.sections) ≡ Fails NoSection
none-moved n section index none =
    let b : list_any (is_section section) n.sections ≡ false =
    elim (list_any (is_section section) n.sections) as (λ b. not b ≡ true → b ≡ false) [ true ↦ λ e. absurd (cc e) | false ↦ λ e. refl ] none in
    ap (move_section n index) (find-none section n.sections b)

pub past-moved : (n : Parts) (section at index count : ℕ) → IsNotebook n → IsSectionAt n.sections section at → count ≡ length n.sections → count - 1 < index → move_section n index (find (is_section section) n.sections) ≡ Fails (BadIndex (count - 1))
past-moved n section at index count h p is past =
    let len : length (remove n.sections at) ≡ count - 1 = others n section at p ∙ ap (λ k. k - 1) (sym is) in
    let test : nat_lt (count - 1) index ≡ true = lt-ltb _ _ past in
    move-is n section at index h p ∙ rw (len, test) refl

pub bad-moved : (n : Parts) (section at index count : ℕ) (stands : Bool) → IsNotebook n → IsSectionAt n.sections section at → count ≡ length n.sections → index ≤ count - 1 → ((s : Section) → slice_get n.sections at ≡ Some s → stands ≡ parents_first (insert (remove n.sections at) index s)) → stands ≡ false → move_section n index (find (is_section section) n.sections) ≡ Fails BadParent
bad-moved n section at index count stands h p is within told lost =
    let len : length (remove n.sections at) ≡ count - 1 = others n section at p ∙ ap (λ k. k - 1) (sym is) in
    let test : nat_lt (count - 1) index ≡ false = le-ltb _ _ within in
    let bad : parents_first (insert (remove n.sections at) index p.home) ≡ false = sym (told p.home (spot-there n.sections section at p)) ∙ lost in
    move-is n section at index h p ∙ rw (len, test, bad) refl

pub made-moved : (n : Parts) (section at index count : ℕ) (stands : Bool) (new : List Section) → IsNotebook n → IsSectionAt n.sections section at → count ≡ length n.sections → index ≤ count - 1 → ((s : Section) → slice_get n.sections at ≡ Some s → stands ≡ parents_first (insert (remove n.sections at) index s)) → stands ≡ true → IsShifted n.sections at index new → move_section n index (find (is_section section) n.sections) ≡ Makes (record n { sections = new }) Plain
made-moved n section at index count stands new h p is within told good x =
    let len : length (remove n.sections at) ≡ count - 1 = others n section at p ∙ ap (λ k. k - 1) (sym is) in
    let test : nat_lt (count - 1) index ≡ false = le-ltb _ _ within in
    let first : parents_first (insert (remove n.sections at) index x.item) ≡ true = sym (told x.item x.there) ∙ good in
    move-is n section at index h p
    ∙ (ap (put_section n (remove n.sections at) index) (sym (spot-home n.sections section at p x.item x.there))
    ∙ (rw (len, test, first) refl ∙ ap (λ ss. Makes (record n { sections = ss }) Plain) (sym x.after)))

-- a section that branches from none
pub made-no-parent : (n : Parts) (section at : ℕ) (s : Section) → IsNotebook n → IsSectionAt n.sections section at → slice_get n.sections at ≡ Some s → set_parent n section None ≡ Makes (record n { sections = slice_set n.sections at (record s { parent = None }) }) Plain
made-no-parent n section at s h p there =
    let new : slice_set n.sections at (branching None s) ≡ with_section section (branching None) n.sections =
    set-with n.sections section at (branching None) s p h.section_numbers.1 there in
    ap (λ b. if b then Fails NoSection else Makes (record n { sections = with_section section (branching None) n.sections }) Plain) (spot-lacks n.sections section at p)
    ∙ ap (λ ss. Makes (record n { sections = ss }) Plain) (sym new)

-- cells that are put
pub place-none : (n : Parts) (ss : List Section) (section index : ℕ) (c : Cell) (made : Changed) → lacks section ss ≡ true → place_cell n ss section index c made ≡ Fails NoSection
place-none n ss section index c made none = rw none refl

pub place-past : (n : Parts) (ss : List Section) (section at index : ℕ) (c : Cell) (made : Changed) (s : Section) → IsSectionAt ss section at → slice_get ss at ≡ Some s → length s.cells < index → place_cell n ss section index c made ≡ Fails (BadIndex (length s.cells))
place-past n ss section at index c made s p there past =
    let cells : cells_in section ss ≡ s.cells = spot-cells ss section at p ∙ ap (λ (t : Section). t.cells) (sym (spot-home ss section at p s there)) in
    let test : nat_lt (length s.cells) index ≡ true = lt-ltb _ _ past in
    let has : lacks section ss ≡ false = spot-lacks ss section at p in
    rw (has, cells, test) refl

pub place-made : (n : Parts) (ss : List Section) (section at index : ℕ) (c : Cell) (made : Changed) (s : Section) → AreDistinct (map section_number ss) → IsSectionAt ss section at → slice_get ss at ≡ Some s → index ≤ length s.cells → place_cell n ss section index c made ≡ Makes (record n { sections = slice_set ss at (with_cell index c s) }) made
place-made n ss section at index c made s apart p there within =
    let cells : cells_in section ss ≡ s.cells = spot-cells ss section at p ∙ ap (λ (t : Section). t.cells) (sym (spot-home ss section at p s there)) in
    let test : nat_lt (length s.cells) index ≡ false = le-ltb _ _ within in
    let has : lacks section ss ≡ false = spot-lacks ss section at p in
    let new : slice_set ss at (with_cell index c s) ≡ put_cell section index c ss = set-with ss section at (with_cell index c) s p apart there in
    rw (has, cells, test, new) refl

-- the code's last state before a section is taken out
pub deleted : (n : Parts) (section at : ℕ) (s : Section) (cells bin : List Cell) (left : List Section) → IsNotebook n → IsSectionAt n.sections section at → slice_get n.sections at ≡ Some s → has_branches section n.sections ≡ false → cells ≡ [] → bin ≡ n.bin ++ s.cells → left ≡ remove (slice_set n.sections at (record s { cells = cells })) at → delete_section n section ≡ Makes (record n { sections = left; bin = bin }) Plain
deleted n section at s cells bin left h p there branches none poured rest =
    let sections : left ≡ remove (slice_set n.sections at (record s { cells = [] })) at = rest ∙ ap (λ cs. remove (slice_set n.sections at (record s { cells = cs })) at) none in
    made-delete_section n section at s h p there branches
    ∙ (ap (λ (ss : List Section). Makes (record n { sections = ss; bin = n.bin ++ s.cells }) Plain) (sym sections)
    ∙ ap (λ (cs : List Cell). Makes (record n { sections = left; bin = cs }) Plain) (sym poured))

-- what the code gives back after want of memory
pub as-before : (n : Parts) (at : ℕ) (s : Section) (cells bin : List Cell) → slice_get n.sections at ≡ Some s → cells ≡ s.cells → bin ≡ n.bin → record n { sections = slice_set n.sections at (record s { cells = cells }); bin = bin } ≡ n
as-before n at s cells bin there same kept =
    ap (λ (cs : List Cell). record n { sections = slice_set n.sections at (record s { cells = cs }); bin = bin }) same
    ∙ (ap (λ (ss : List Section). record n { sections = ss; bin = bin }) (set-same n.sections at s there) ∙ ap (λ (cs : List Cell). record n { bin = cs }) kept)

-- a section that the code reads
pub read-in : (ss ms : List Section) (at : ℕ) (x : Section) → ss ≡ ms → x ≡ get_or ss at x → x ≡ get_or ms at x
read-in ss ms at x same read = read ∙ ap (λ (ts : List Section). get_or ts at x) same

pub read-len : (ss : List Section) (at : ℕ) (x : Section) (len : ℕ) → x ≡ get_or ss at x → len ≡ length (get_or ss at x).cells → len ≡ length x.cells
read-len ss at x len read is = is ∙ ap (λ (t : Section). length t.cells) (sym read)

-- new cells
read-same : (ss : List Section) (at : ℕ) (x s : Section) → x ≡ get_or ss at x → slice_get ss at ≡ Some s → x ≡ s
read-same ss at x s read there = read ∙ get_or_from_slice_get ss at s x there

pub read-home : (ss : List Section) (section at : ℕ) (x : Section) (p : IsSectionAt ss section at) → x ≡ get_or ss at x → x ≡ p.home
read-home ss section at x p read = spot-home ss section at p x (slice_get_read ss (length ss) at x refl (spot-within ss section at p) read)

pub read-there : (ss : List Section) (section at : ℕ) (x : Section) → IsSectionAt ss section at → x ≡ get_or ss at x → slice_get ss at ≡ Some x
read-there ss section at x p read = slice_get_read ss (length ss) at x refl (spot-within ss section at p) read

pub no-section-for-new : (n : Parts) (section index : ℕ) (kind : Kind) → lacks section n.sections ≡ true → insert_cell n section index kind ≡ Fails NoSection
no-section-for-new n section index kind none =
    ap (if_room (is_full n kind)) (place-none (counted n) n.sections section index (new_cell n.next_cell kind) (NewCell n.next_cell) none)

pub past-new : (n : Parts) (section at index : ℕ) (kind : Kind) (x : Section) (len : ℕ) → IsSectionAt n.sections section at → x ≡ get_or n.sections at x → len ≡ length x.cells → len < index → insert_cell n section index kind ≡ Fails (BadIndex len)
past-new n section at index kind x len p read is past =
    ap (if_room (is_full n kind))
    (place-past (counted n) n.sections section at index (new_cell n.next_cell kind) (NewCell n.next_cell) x p (read-there n.sections section at x p read) (subst (λ (k : ℕ). k < index) is past)
    ∙ ap (λ k. Fails (BadIndex k)) (sym is))

new-placed : (n : Parts) (section at index : ℕ) (kind : Kind) (x : Section) (len : ℕ) → IsNotebook n → IsSectionAt n.sections section at → x ≡ get_or n.sections at x → len ≡ length x.cells → index ≤ len → place_cell (counted n) n.sections section index (new_cell n.next_cell kind) (NewCell n.next_cell) ≡ Makes (record n { sections = slice_set n.sections at (with_cell index (new_cell n.next_cell kind) x); next_cell = n.next_cell + 1 }) (NewCell n.next_cell)
new-placed n section at index kind x len h p read is within =
    place-made (counted n) n.sections section at index (new_cell n.next_cell kind) (NewCell n.next_cell) x h.section_numbers.1 p (read-there n.sections section at x p read) (subst (λ (k : ℕ). index ≤ k) is within)

pub full-new : (n : Parts) (section at index : ℕ) (kind : Kind) (x : Section) (len : ℕ) (full : Bool) → IsNotebook n → IsSectionAt n.sections section at → x ≡ get_or n.sections at x → len ≡ length x.cells → index ≤ len → full ≡ is_full n kind → full ≡ true → insert_cell n section index kind ≡ Fails TooManyCells
full-new n section at index kind x len full h p read is within told yes_full =
    ap (if_room (is_full n kind)) (new-placed n section at index kind x len h p read is within)
    ∙ ap (λ b. if b then Fails TooManyCells else Makes (record n { sections = slice_set n.sections at (with_cell index (new_cell n.next_cell kind) x); next_cell = n.next_cell + 1 }) (NewCell n.next_cell)) (sym told ∙ yes_full)

pub made-new : (n : Parts) (section at index : ℕ) (kind : Kind) (x s : Section) (len : ℕ) (full : Bool) (c : Cell) (cells : List Cell) → IsNotebook n → IsSectionAt n.sections section at → x ≡ get_or n.sections at x → len ≡ length x.cells → index ≤ len → full ≡ is_full n kind → full ≡ false → slice_get n.sections at ≡ Some s → c ≡ new_cell n.next_cell kind → cells ≡ insert s.cells index c → insert_cell n section index kind ≡ Makes (record n { sections = slice_set n.sections at (record s { cells = cells }); next_cell = n.next_cell + 1 }) (NewCell n.next_cell)
made-new n section at index kind x s len full c cells h p read is within told room there is_new put =
    let same : x ≡ s = read-same n.sections at x s read there in
    let all : cells ≡ insert s.cells index (new_cell n.next_cell kind) = put ∙ ap (insert s.cells index) is_new in
    ap (if_room (is_full n kind)) (new-placed n section at index kind x len h p read is within)
    ∙ (ap (λ b. if b then Fails TooManyCells else Makes (record n { sections = slice_set n.sections at (with_cell index (new_cell n.next_cell kind) x); next_cell = n.next_cell + 1 }) (NewCell n.next_cell)) (sym told ∙ room)
    ∙ (ap (λ (t : Section). Makes (record n { sections = slice_set n.sections at (with_cell index (new_cell n.next_cell kind) t); next_cell = n.next_cell + 1 }) (NewCell n.next_cell)) same
    ∙ ap (λ (cs : List Cell). Makes (record n { sections = slice_set n.sections at (record s { cells = cs }); next_cell = n.next_cell + 1 }) (NewCell n.next_cell)) (sym all)))

-- deleted cells
taken : (n : Parts) (id i j : ℕ) (s : Section) (p : IsPlace n.sections id i j) (c : Cell) → slice_get n.sections i ≡ Some s → slice_get s.cells j ≡ Some c → c ≡ p.inside.cell
taken n id i j s p c there inner =
    cell-home p.home.cells id j p.inside c (subst (λ (t : Section). slice_get t.cells j ≡ Some c) (place-home n.sections id i j p s there) inner)

pub made-deleted : (n : Parts) (id i j end : ℕ) (s : Section) (left bin : List Cell) → IsNotebook n → IsPlace n.sections id i j → slice_get n.sections i ≡ Some s → end ≡ length n.bin → IsTransferred s.cells j left n.bin end bin → delete_cell n (found id (section_cells n)) ≡ Makes (record n { sections = slice_set n.sections i (record s { cells = left }); bin = bin }) Plain
made-deleted n id i j end s left bin h p there last x =
    let item : x.item ≡ p.inside.cell = taken n id i j s p x.item there x.there in
    let cut : slice_set n.sections i (record s { cells = left }) ≡ cut_cell id n.sections =
    ap (λ (cs : List Cell). slice_set n.sections i (record s { cells = cs })) x.rest ∙ cut-set n id i j s h p there in
    let more : bin ≡ n.bin ++ p.inside.cell ∷ [] =
    x.after ∙ (ap (λ k. insert n.bin k x.item) last ∙ (insert_end n.bin x.item ∙ ap (λ (c : Cell). n.bin ++ c ∷ []) item)) in
    ap (delete_cell n) (found-place n.sections id i j p)
    ∙ (ap (λ (k : ℕ). Makes (record n { sections = cut_cell k n.sections; bin = n.bin ++ p.inside.cell ∷ [] }) Plain) p.inside.number
    ∙ (ap (λ (ss : List Section). Makes (record n { sections = ss; bin = n.bin ++ p.inside.cell ∷ [] }) Plain) (sym cut)
    ∙ ap (λ (cs : List Cell). Makes (record n { sections = slice_set n.sections i (record s { cells = left }); bin = cs }) Plain) (sym more)))
