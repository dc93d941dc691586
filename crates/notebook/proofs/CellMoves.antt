-- What restoring and moving a cell make, by the places where the code finds them.
use Rattle.std.proofs.Common.{◌≡◌, ◌≢◌, suc, inl, inr, ℕ, ◌+◌, ◌-◌, ◌<◌, ◌≤◌, true, false, Bool, List, [], ◌∷◌, ◌++◌, Some, None, length, take, drop, get_or, map, refl, sym, ap, ◌∙◌, arith, subst}
use Rattle.std.specs.Prelude.{not, slice_get, slice_set, insert, remove, if◌then◌else◌, ◌||◌}
use Rattle.std.specs.List.{list_any}
use Rattle.std.proofs.lemmas.List.{set-set, set_comm, set_at, length-set, length-take-le, get_or-set_same, get_or-set_other}
use Rattle.std.proofs.lemmas.List.Edits.{length-remove, length-insert, get_or-insert_at}
use Rattle.std.proofs.lemmas.Option.{get_or_from_slice_get, slice_get_read, slice_get_cases}
use Rattle.notebook.specs.declared.parts.Cell.{Cell}
use Rattle.notebook.specs.declared.parts.Section.{Section}
use Rattle.notebook.specs.declared.parts.Parts.{Parts}
use Rattle.notebook.specs.declared.change.Changed.TheVariants.{Plain, NewCell}
use Rattle.notebook.specs.declared.change.NoteError.TheVariants.{NoSection, BadIndex, TooManyCells}
use Rattle.notebook.specs.Book.{found, section_cells}
use Rattle.notebook.specs.Flow.{is_section}
use Rattle.notebook.specs.Lists.{IsTransferred, IsShifted}
use Rattle.notebook.specs.Places.{IsCellAt, IsPlace, IsSectionAt}
use Rattle.notebook.specs.Rules.{IsNotebook, AreDistinct, section_number}
use Rattle.notebook.specs.Change.{Makes, Fails, lacks, cut_cell, but_cell, with_cell, is_full, place_cell, if_room, renumbered, restore_cell, move_cell}
use Rattle.notebook.proofs.Finding.{found-place, found-cell, here-cell, here-section}
use Rattle.notebook.proofs.Setting.{within-home, within-sections}
use Rattle.notebook.proofs.Cuts.{cut-set, bin-remove, cell-home, place-home}
use Rattle.notebook.proofs.Making.{set-same, read-there, place-none, place-past, place-made}

-- the notebook from which a cell of the bin was taken, with its next number used
abbrev left_bin : Parts → Cell → Parts
left_bin n c = record n { bin = but_cell c.id n.bin; next_cell = n.next_cell + 1 }

pub no-section-again : (n : Parts) (id section index from : ℕ) → IsCellAt n.bin id from → lacks section n.sections ≡ true → restore_cell n section index (found id n.bin) ≡ Fails NoSection
no-section-again n id section index from p none =
    ap (restore_cell n section index) (found-cell n.bin id from p)
    ∙ ap (if_room (is_full n p.cell.kind)) (place-none (left_bin n p.cell) n.sections section index (renumbered n.next_cell p.cell) (NewCell n.next_cell) none)

pub past-again : (n : Parts) (id section at index from : ℕ) (x : Section) (len : ℕ) → IsCellAt n.bin id from → IsSectionAt n.sections section at → x ≡ get_or n.sections at x → len ≡ length x.cells → len < index → restore_cell n section index (found id n.bin) ≡ Fails (BadIndex len)
past-again n id section at index from x len p q read is past =
    ap (restore_cell n section index) (found-cell n.bin id from p)
    ∙ ap (if_room (is_full n p.cell.kind))
    (place-past (left_bin n p.cell) n.sections section at index (renumbered n.next_cell p.cell) (NewCell n.next_cell) x q (read-there n.sections section at x q read) (subst (λ (k : ℕ). k < index) is past)
    ∙ ap (λ k. Fails (BadIndex k)) (sym is))

again-placed : (n : Parts) (id section at index from : ℕ) (x : Section) (len : ℕ) → IsNotebook n → (p : IsCellAt n.bin id from) → IsSectionAt n.sections section at → x ≡ get_or n.sections at x → len ≡ length x.cells → index ≤ len → place_cell (left_bin n p.cell) n.sections section index (renumbered n.next_cell p.cell) (NewCell n.next_cell) ≡ Makes (record n { sections = slice_set n.sections at (with_cell index (renumbered n.next_cell p.cell) x); bin = but_cell p.cell.id n.bin; next_cell = n.next_cell + 1 }) (NewCell n.next_cell)
again-placed n id section at index from x len h p q read is within =
    place-made (left_bin n p.cell) n.sections section at index (renumbered n.next_cell p.cell) (NewCell n.next_cell) x h.section_numbers.1 q (read-there n.sections section at x q read) (subst (λ (k : ℕ). index ≤ k) is within)

in-bin : (n : Parts) (id from : ℕ) (y : Cell) (p : IsCellAt n.bin id from) → y ≡ get_or n.bin from y → y ≡ p.cell
in-bin n id from y p read = read ∙ here-cell n.bin id from p y

pub full-again : (n : Parts) (id section at index from : ℕ) (x : Section) (y : Cell) (len : ℕ) (full : Bool) → IsNotebook n → IsCellAt n.bin id from → IsSectionAt n.sections section at → x ≡ get_or n.sections at x → len ≡ length x.cells → index ≤ len → y ≡ get_or n.bin from y → full ≡ is_full n y.kind → full ≡ true → restore_cell n section index (found id n.bin) ≡ Fails TooManyCells
full-again n id section at index from x y len full h p q read is within there told yes_full =
    let test : is_full n p.cell.kind ≡ true = ap (λ (c : Cell). is_full n c.kind) (sym (in-bin n id from y p there)) ∙ (sym told ∙ yes_full) in
    ap (restore_cell n section index) (found-cell n.bin id from p)
    ∙ (ap (if_room (is_full n p.cell.kind)) (again-placed n id section at index from x len h p q read is within)
    ∙ ap (λ b. if b then Fails TooManyCells else Makes (record n { sections = slice_set n.sections at (with_cell index (renumbered n.next_cell p.cell) x); bin = but_cell p.cell.id n.bin; next_cell = n.next_cell + 1 }) (NewCell n.next_cell)) test)

-- the number written into the cell that was put
got : {X : Type 0} (xs : List X) (i : ℕ) (x : X) → slice_get xs i ≡ Some x → i < length xs
got xs i x there =
    elim (slice_get_cases xs i).1 [
      | inl h ↦ h.1
      | inr h ↦ let e : Some x ≡ None = sym there ∙ h.1 in absurd (cc e)
    ]

set-again : (ss : List Section) (at index : ℕ) (s s2 : Section) (c c2 : Cell) (to : List Cell) (id : ℕ) → slice_get ss at ≡ Some s → index ≤ length s.cells → to ≡ insert s.cells index c → slice_get (slice_set ss at (record s { cells = to })) at ≡ Some s2 → slice_get s2.cells index ≡ Some c2 → slice_set (slice_set ss at (record s { cells = to })) at (record s2 { cells = slice_set s2.cells index (record c2 { id = id }) }) ≡ slice_set ss at (with_cell index (renumbered id c) s)
set-again ss at index s s2 c c2 to id there within put again inner =
    let new : Section = record s { cells = to } in
    let second : s2 ≡ new = sym (get_or_from_slice_get (slice_set ss at new) at s2 s2 again) ∙ get_or-set_same ss at new s2 (got ss at s there) in
    let cells : s2.cells ≡ insert s.cells index c = ap (λ (t : Section). t.cells) second ∙ put in
    let cell : c2 ≡ c = sym (get_or_from_slice_get s2.cells index c2 c2 inner) ∙ (ap (λ (cs : List Cell). get_or cs index c2) cells ∙ get_or-insert_at s.cells index c c2 within) in
    let one : slice_set (insert s.cells index c) index (renumbered id c) ≡ insert s.cells index (renumbered id c) =
    set_at (take index s.cells) c (drop index s.cells) (renumbered id c) index (length-take-le index s.cells within) in
    set-set ss at new (record s2 { cells = slice_set s2.cells index (record c2 { id = id }) })
    ∙ (ap (λ (t : Section). slice_set ss at (record t { cells = slice_set s2.cells index (record c2 { id = id }) })) second
    ∙ (ap (λ (cs : List Cell). slice_set ss at (record s { cells = slice_set cs index (record c2 { id = id }) })) cells
    ∙ (ap (λ (d : Cell). slice_set ss at (record s { cells = slice_set (insert s.cells index c) index (record d { id = id }) })) cell
    ∙ ap (λ (cs : List Cell). slice_set ss at (record s { cells = cs })) one)))

pub made-again : (n : Parts) (id section at index from : ℕ) (x : Section) (y : Cell) (len : ℕ) (full : Bool) (s s2 : Section) (c2 : Cell) (left to : List Cell) → IsNotebook n → IsCellAt n.bin id from → IsSectionAt n.sections section at → x ≡ get_or n.sections at x → len ≡ length x.cells → index ≤ len → y ≡ get_or n.bin from y → full ≡ is_full n y.kind → full ≡ false → slice_get n.sections at ≡ Some s → IsTransferred n.bin from left s.cells index to → slice_get (slice_set n.sections at (record s { cells = to })) at ≡ Some s2 → slice_get s2.cells index ≡ Some c2 → restore_cell n section index (found id n.bin) ≡ Makes (record n { sections = slice_set (slice_set n.sections at (record s { cells = to })) at (record s2 { cells = slice_set s2.cells index (record c2 { id = n.next_cell }) }); bin = left; next_cell = n.next_cell + 1 }) (NewCell n.next_cell)
made-again n id section at index from x y len full s s2 c2 left to h p q read is within there told room here t again inner =
    let test : is_full n p.cell.kind ≡ false = ap (λ (c : Cell). is_full n c.kind) (sym (in-bin n id from y p there)) ∙ (sym told ∙ room) in
    let same : x ≡ s = read ∙ get_or_from_slice_get n.sections at s x here in
    let item : t.item ≡ p.cell = cell-home n.bin id from p t.item t.there in
    let fits : index ≤ length s.cells = subst (λ (k : ℕ). index ≤ k) (is ∙ ap (λ (u : Section). length u.cells) same) within in
    let sections : slice_set (slice_set n.sections at (record s { cells = to })) at (record s2 { cells = slice_set s2.cells index (record c2 { id = n.next_cell }) }) ≡ slice_set n.sections at (with_cell index (renumbered n.next_cell p.cell) x) =
    set-again n.sections at index s s2 t.item c2 to n.next_cell here fits t.after again inner
    ∙ (ap (λ (c : Cell). slice_set n.sections at (with_cell index (renumbered n.next_cell c) s)) item
    ∙ ap (λ (u : Section). slice_set n.sections at (with_cell index (renumbered n.next_cell p.cell) u)) (sym same)) in
    let bin : left ≡ but_cell p.cell.id n.bin = t.rest ∙ (bin-remove n id from h p ∙ ap (λ (k : ℕ). but_cell k n.bin) (sym p.number)) in
    ap (restore_cell n section index) (found-cell n.bin id from p)
    ∙ (ap (if_room (is_full n p.cell.kind)) (again-placed n id section at index from x len h p q read is within)
    ∙ (ap (λ b. if b then Fails TooManyCells else Makes (record n { sections = slice_set n.sections at (with_cell index (renumbered n.next_cell p.cell) x); bin = but_cell p.cell.id n.bin; next_cell = n.next_cell + 1 }) (NewCell n.next_cell)) test
    ∙ (ap (λ (ss : List Section). Makes (record n { sections = ss; bin = but_cell p.cell.id n.bin; next_cell = n.next_cell + 1 }) (NewCell n.next_cell)) (sym sections)
    ∙ ap (λ (cs : List Cell). Makes (record n { sections = slice_set (slice_set n.sections at (record s { cells = to })) at (record s2 { cells = slice_set s2.cells index (record c2 { id = n.next_cell }) }); bin = cs; next_cell = n.next_cell + 1 }) (NewCell n.next_cell)) (sym bin))))

-- what the code needs on its way
pub fits-read : (ss : List Section) (at index : ℕ) (x s : Section) (len : ℕ) → x ≡ get_or ss at x → len ≡ length x.cells → index ≤ len → slice_get ss at ≡ Some s → index ≤ length s.cells
fits-read ss at index x s len read is within there =
    let same : x ≡ s = read ∙ get_or_from_slice_get ss at s x there in
    subst (λ (k : ℕ). index ≤ k) (is ∙ ap (λ (u : Section). length u.cells) same) within

pub fits-again : (ss : List Section) (at index : ℕ) (s s2 : Section) (bin left to : List Cell) (from : ℕ) → slice_get ss at ≡ Some s → index ≤ length s.cells → IsTransferred bin from left s.cells index to → slice_get (slice_set ss at (record s { cells = to })) at ≡ Some s2 → index < length s2.cells
fits-again ss at index s s2 bin left to from there within t again =
    let new : Section = record s { cells = to } in
    let second : s2 ≡ new = sym (get_or_from_slice_get (slice_set ss at new) at s2 s2 again) ∙ get_or-set_same ss at new s2 (got ss at s there) in
    let cells : s2.cells ≡ insert s.cells index t.item = ap (λ (u : Section). u.cells) second ∙ t.after in
    let long : length (insert s.cells index t.item) ≡ length s.cells + 1 = length-insert s.cells index t.item within in
    rw cells (omega (arith, long, within))

-- the code gives both lists back after want of memory
pub both-before : (n : Parts) (at : ℕ) (s : Section) (cells bin : List Cell) → slice_get n.sections at ≡ Some s → bin ≡ n.bin → cells ≡ s.cells → record n { sections = slice_set n.sections at (record s { cells = cells }); bin = bin } ≡ n
both-before n at s cells bin there kept same =
    ap (λ (cs : List Cell). record n { sections = slice_set n.sections at (record s { cells = cs }); bin = bin }) same
    ∙ (ap (λ (ss : List Section). record n { sections = ss; bin = bin }) (set-same n.sections at s there) ∙ ap (λ (cs : List Cell). record n { bin = cs }) kept)

-- a section's place, where a cell was taken out
pub cut-numbers : (id : ℕ) (ss : List Section) → map section_number (cut_cell id ss) ≡ map section_number ss
cut-numbers id [] = refl
cut-numbers id (s ∷ ss) = ap (λ ns. s.id ∷ ns) (cut-numbers id ss)

pub cut-any : (section id : ℕ) (ss : List Section) → list_any (is_section section) (cut_cell id ss) ≡ list_any (is_section section) ss
cut-any section id [] = refl
cut-any section id (s ∷ ss) = ap (λ b. is_section section s || b) (cut-any section id ss)

cut-append : (id : ℕ) (xs ys : List Section) → cut_cell id (xs ++ ys) ≡ cut_cell id xs ++ cut_cell id ys
cut-append id [] ys = refl
cut-append id (x ∷ xs) ys = ap (λ ss. record x { cells = but_cell id x.cells } ∷ ss) (cut-append id xs ys)

pub cut-length : (id : ℕ) (ss : List Section) → length (cut_cell id ss) ≡ length ss
cut-length id [] = refl
cut-length id (s ∷ ss) = ap (λ n. suc n) (cut-length id ss)

pub spot-cut : (ss : List Section) (section id at : ℕ) → IsSectionAt ss section at → IsSectionAt (cut_cell id ss) section at
spot-cut ss section id at p = record {
  front = cut_cell id p.front;
  home = record p.home { cells = but_cell id p.home.cells };
  back = cut_cell id p.back;
  parts = ap (cut_cell id) p.parts ∙ cut-append id p.front (p.home ∷ p.back);
  number = p.number;
  place = p.place ∙ sym (cut-length id p.front);
  first = cut-any section id p.front ∙ p.first;
}

cut-apart : (n : Parts) (id : ℕ) → IsNotebook n → AreDistinct (map section_number (cut_cell id n.sections))
cut-apart n id h = subst (λ (ns : List ℕ). AreDistinct ns) (sym (cut-numbers id n.sections)) h.section_numbers.1

-- moved cells
pub move-cell-is : (n : Parts) (id section index i j : ℕ) (p : IsPlace n.sections id i j) → move_cell n section index (found id (section_cells n)) ≡ place_cell n (cut_cell id n.sections) section index p.inside.cell Plain
move-cell-is n id section index i j p =
    ap (move_cell n section index) (found-place n.sections id i j p)
    ∙ ap (λ (k : ℕ). place_cell n (cut_cell k n.sections) section index p.inside.cell Plain) p.inside.number

pub no-section-moved : (n : Parts) (id section index i j : ℕ) → IsPlace n.sections id i j → lacks section n.sections ≡ true → move_cell n section index (found id (section_cells n)) ≡ Fails NoSection
no-section-moved n id section index i j p none =
    move-cell-is n id section index i j p
    ∙ place-none n (cut_cell id n.sections) section index p.inside.cell Plain (ap not (cut-any section id n.sections) ∙ none)

-- within its section
cut-here : (n : Parts) (id i j : ℕ) (s : Section) → IsNotebook n → IsPlace n.sections id i j → slice_get n.sections i ≡ Some s → slice_get (cut_cell id n.sections) i ≡ Some (record s { cells = remove s.cells j })
cut-here n id i j s h p there =
    let new : Section = record s { cells = remove s.cells j } in
    let cut : slice_set n.sections i new ≡ cut_cell id n.sections = cut-set n id i j s h p there in
    let read : new ≡ get_or (cut_cell id n.sections) i new = sym (ap (λ (ss : List Section). get_or ss i new) (sym cut) ∙ get_or-set_same n.sections i new new (got n.sections i s there)) in
    slice_get_read (cut_cell id n.sections) (length (cut_cell id n.sections)) i new refl (subst (λ (k : ℕ). i < k) (sym (cut-length id n.sections)) (got n.sections i s there)) read

pub past-within : (n : Parts) (id section index i j : ℕ) (x : Section) (len : ℕ) → IsNotebook n → IsPlace n.sections id i j → IsSectionAt n.sections section i → x ≡ get_or n.sections i x → len ≡ length x.cells → len - 1 < index → move_cell n section index (found id (section_cells n)) ≡ Fails (BadIndex (len - 1))
past-within n id section index i j x len h p q read is past =
    let there : slice_get n.sections i ≡ Some x = read-there n.sections section i x q read in
    let fewer : length (remove x.cells j) ≡ len - 1 = omega (arith, length-remove x.cells j (within-home n.sections id i j x p there), within-home n.sections id i j x p there, is) in
    move-cell-is n id section index i j p
    ∙ (place-past n (cut_cell id n.sections) section i index p.inside.cell Plain (record x { cells = remove x.cells j }) (spot-cut n.sections section id i q) (cut-here n id i j x h p there) (subst (λ (k : ℕ). k < index) (sym fewer) past)
    ∙ ap (λ k. Fails (BadIndex k)) fewer)

pub made-within : (n : Parts) (id section index i j : ℕ) (x s : Section) (len : ℕ) (new : List Cell) → IsNotebook n → IsPlace n.sections id i j → IsSectionAt n.sections section i → x ≡ get_or n.sections i x → len ≡ length x.cells → index ≤ len - 1 → slice_get n.sections i ≡ Some s → IsShifted s.cells j index new → move_cell n section index (found id (section_cells n)) ≡ Makes (record n { sections = slice_set n.sections i (record s { cells = new }) }) Plain
made-within n id section index i j x s len new h p q read is within there t =
    let same : x ≡ s = read ∙ get_or_from_slice_get n.sections i s x there in
    let size : len ≡ length s.cells = is ∙ ap (λ (u : Section). length u.cells) same in
    let inside : j < length s.cells = within-home n.sections id i j s p there in
    let fewer : length (remove s.cells j) ≡ len - 1 = omega (arith, length-remove s.cells j inside, inside, size) in
    let item : t.item ≡ p.inside.cell = cell-home p.home.cells id j p.inside t.item (subst (λ (u : Section). slice_get u.cells j ≡ Some t.item) (place-home n.sections id i j p s there) t.there) in
    let less : Section = record s { cells = remove s.cells j } in
    let all : with_cell index p.inside.cell less ≡ record s { cells = new } =
    ap (λ (c : Cell). record s { cells = insert (remove s.cells j) index c }) (sym item) ∙ ap (λ (cs : List Cell). record s { cells = cs }) (sym t.after) in
    let sections : slice_set (cut_cell id n.sections) i (with_cell index p.inside.cell less) ≡ slice_set n.sections i (record s { cells = new }) =
    ap (slice_set (cut_cell id n.sections) i) all
    ∙ (ap (λ (ss : List Section). slice_set ss i (record s { cells = new })) (sym (cut-set n id i j s h p there)) ∙ set-set n.sections i less (record s { cells = new })) in
    move-cell-is n id section index i j p
    ∙ (place-made n (cut_cell id n.sections) section i index p.inside.cell Plain less (cut-apart n id h) (spot-cut n.sections section id i q) (cut-here n id i j s h p there) (subst (λ (k : ℕ). index ≤ k) (sym fewer) within)
    ∙ ap (λ (ss : List Section). Makes (record n { sections = ss }) Plain) sections)

-- to another section
cut-there : (n : Parts) (id at i j : ℕ) (s t : Section) → IsNotebook n → IsPlace n.sections id i j → slice_get n.sections i ≡ Some s → at ≢ i → slice_get n.sections at ≡ Some t → slice_get (cut_cell id n.sections) at ≡ Some t
cut-there n id at i j s t h p there other target =
    let new : Section = record s { cells = remove s.cells j } in
    let cut : slice_set n.sections i new ≡ cut_cell id n.sections = cut-set n id i j s h p there in
    let read : t ≡ get_or (cut_cell id n.sections) at t =
    sym (ap (λ (ss : List Section). get_or ss at t) (sym cut) ∙ (get_or-set_other n.sections i at new t other ∙ get_or_from_slice_get n.sections at t t target)) in
    slice_get_read (cut_cell id n.sections) (length (cut_cell id n.sections)) at t refl (subst (λ (k : ℕ). at < k) (sym (cut-length id n.sections)) (got n.sections at t target)) read

home-there : (ss : List Section) (id i j : ℕ) (p : IsPlace ss id i j) → slice_get ss i ≡ Some p.home
home-there ss id i j p =
    slice_get_read ss (length ss) i p.home refl (within-sections ss id i j p) (sym (here-section ss id i j p p.home))

pub past-across : (n : Parts) (id section at index i j : ℕ) (x : Section) (len : ℕ) → IsNotebook n → IsPlace n.sections id i j → IsSectionAt n.sections section at → (i ≡ at → ⊥) → x ≡ get_or n.sections at x → len ≡ length x.cells → len < index → move_cell n section index (found id (section_cells n)) ≡ Fails (BadIndex len)
past-across n id section at index i j x len h p q apart read is past =
    let other : at ≢ i = λ e. apart (sym e) in
    move-cell-is n id section index i j p
    ∙ (place-past n (cut_cell id n.sections) section at index p.inside.cell Plain x (spot-cut n.sections section id at q) (cut-there n id at i j p.home x h p (home-there n.sections id i j p) other (read-there n.sections section at x q read)) (subst (λ (k : ℕ). k < index) is past)
    ∙ ap (λ k. Fails (BadIndex k)) (sym is))

-- the sections after both lists were written back
record AreWritten (ss : List Section) (i at : ℕ) (s t : Section) (from to : List Cell) (new : List Section) : Type 0 where
  pub target : slice_get ss at ≡ Some t
  pub all : new ≡ slice_set (slice_set ss i (record s { cells = from })) at (record t { cells = to })

written : (ss : List Section) (i at : ℕ) (s t u : Section) (none from to : List Cell) → (i ≡ at → ⊥) → slice_get ss i ≡ Some s → slice_get (slice_set ss i (record s { cells = none })) at ≡ Some t → slice_get (slice_set (slice_set ss i (record s { cells = none })) at (record t { cells = to })) i ≡ Some u → AreWritten ss i at s t from to (slice_set (slice_set (slice_set ss i (record s { cells = none })) at (record t { cells = to })) i (record u { cells = from }))
written ss i at s t u none from to apart here there again =
    let other : at ≢ i = λ e. apart (sym e) in
    let a : Section = record s { cells = none } in
    let b : Section = record t { cells = to } in
    let within : at < length ss = subst (λ (k : ℕ). at < k) (length-set ss i a) (got (slice_set ss i a) at t there) in
    let read : t ≡ get_or ss at t = sym (get_or_from_slice_get (slice_set ss i a) at t t there) ∙ get_or-set_other ss i at a t other in
    let first : i < length (slice_set ss i a) = subst (λ (k : ℕ). i < k) (sym (length-set ss i a)) (got ss i s here) in
    let back : u ≡ a =
    sym (get_or_from_slice_get (slice_set (slice_set ss i a) at b) i u u again)
    ∙ (get_or-set_other (slice_set ss i a) at i b u apart ∙ get_or-set_same ss i a u (got ss i s here)) in
    let c : Section = record s { cells = from } in
    record {
      target = slice_get_read ss (length ss) at t refl within read;
      all = ap (λ (v : Section). slice_set (slice_set (slice_set ss i a) at b) i (record v { cells = from })) back
          ∙ (set_comm (slice_set ss i a) at i b c other ∙ ap (λ (ts : List Section). slice_set ts at b) (set-set ss i a c));
    }

pub fits-across : (ss : List Section) (i at index : ℕ) (x s t : Section) (none : List Cell) (len : ℕ) → (i ≡ at → ⊥) → x ≡ get_or ss at x → len ≡ length x.cells → index ≤ len → slice_get (slice_set ss i (record s { cells = none })) at ≡ Some t → index ≤ length t.cells
fits-across ss i at index x s t none len apart read is within there =
    let other : at ≢ i = λ e. apart (sym e) in
    let a : Section = record s { cells = none } in
    let same : x ≡ t = read ∙ (sym (get_or-set_other ss i at a x other) ∙ get_or_from_slice_get (slice_set ss i a) at t x there) in
    subst (λ (k : ℕ). index ≤ k) (is ∙ ap (λ (u : Section). length u.cells) same) within

pub across-before : (n : Parts) (i at : ℕ) (s t u : Section) (none from to : List Cell) → (i ≡ at → ⊥) → slice_get n.sections i ≡ Some s → slice_get (slice_set n.sections i (record s { cells = none })) at ≡ Some t → slice_get (slice_set (slice_set n.sections i (record s { cells = none })) at (record t { cells = to })) i ≡ Some u → from ≡ s.cells → to ≡ t.cells → record n { sections = slice_set (slice_set (slice_set n.sections i (record s { cells = none })) at (record t { cells = to })) i (record u { cells = from }) } ≡ n
across-before n i at s t u none from to apart here there again kept same =
    let w = written n.sections i at s t u none from to apart here there again in
    ap (λ (ss : List Section). record n { sections = ss })
    (w.all
    ∙ (ap (λ (cs : List Cell). slice_set (slice_set n.sections i (record s { cells = cs })) at (record t { cells = to })) kept
    ∙ (ap (λ (ss : List Section). slice_set ss at (record t { cells = to })) (set-same n.sections i s here)
    ∙ (ap (λ (cs : List Cell). slice_set n.sections at (record t { cells = cs })) same ∙ set-same n.sections at t w.target))))

pub made-across : (n : Parts) (id section at index i j : ℕ) (x s t u : Section) (len : ℕ) (none from to : List Cell) → IsNotebook n → IsPlace n.sections id i j → IsSectionAt n.sections section at → (i ≡ at → ⊥) → x ≡ get_or n.sections at x → len ≡ length x.cells → index ≤ len → slice_get n.sections i ≡ Some s → slice_get (slice_set n.sections i (record s { cells = none })) at ≡ Some t → slice_get (slice_set (slice_set n.sections i (record s { cells = none })) at (record t { cells = to })) i ≡ Some u → IsTransferred s.cells j from t.cells index to → move_cell n section index (found id (section_cells n)) ≡ Makes (record n { sections = slice_set (slice_set (slice_set n.sections i (record s { cells = none })) at (record t { cells = to })) i (record u { cells = from }) }) Plain
made-across n id section at index i j x s t u len none from to h p q apart read is within here there again m =
    let other : at ≢ i = λ e. apart (sym e) in
    let w = written n.sections i at s t u none from to apart here there again in
    let same : x ≡ t = read ∙ get_or_from_slice_get n.sections at t x w.target in
    let fits : index ≤ length t.cells = subst (λ (k : ℕ). index ≤ k) (is ∙ ap (λ (v : Section). length v.cells) same) within in
    let item : m.item ≡ p.inside.cell = cell-home p.home.cells id j p.inside m.item (subst (λ (v : Section). slice_get v.cells j ≡ Some m.item) (place-home n.sections id i j p s here) m.there) in
    let put : with_cell index p.inside.cell t ≡ record t { cells = to } =
    ap (λ (c : Cell). record t { cells = insert t.cells index c }) (sym item) ∙ ap (λ (cs : List Cell). record t { cells = cs }) (sym m.after) in
    let left : cut_cell id n.sections ≡ slice_set n.sections i (record s { cells = from }) =
    sym (cut-set n id i j s h p here) ∙ ap (λ (cs : List Cell). slice_set n.sections i (record s { cells = cs })) (sym m.rest) in
    let sections : slice_set (cut_cell id n.sections) at (with_cell index p.inside.cell t) ≡ slice_set (slice_set (slice_set n.sections i (record s { cells = none })) at (record t { cells = to })) i (record u { cells = from }) =
    ap (slice_set (cut_cell id n.sections) at) put ∙ (ap (λ (ss : List Section). slice_set ss at (record t { cells = to })) left ∙ sym w.all) in
    move-cell-is n id section index i j p
    ∙ (place-made n (cut_cell id n.sections) section at index p.inside.cell Plain t (cut-apart n id h) (spot-cut n.sections section id at q) (cut-there n id at i j s t h p here other w.target) fits
    ∙ ap (λ (ss : List Section). Makes (record n { sections = ss }) Plain) sections)
