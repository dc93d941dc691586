-- Which live cells there are after each change.
use Rattle.std.proofs.Common.{◌≡◌, ℕ, ◌+◌, ◌≤◌, true, false, Bool, List, [], ◌∷◌, ◌++◌, Option, Some, None, length, take, drop, map, refl, sym, ap, ◌∙◌, arith, subst, eqb-true, append_assoc}
use Rattle.std.specs.Prelude.{◌==◌, ◌||◌, not, nat_lt, find, if◌then◌else◌, insert, is_some}
use Rattle.std.specs.List.{flat_map}
use Rattle.std.proofs.lemmas.List.{take-append-drop}
use Rattle.std.proofs.lemmas.Grind.{flat_map-append}
use Rattle.notebook.specs.declared.parts.Cell.{Cell}
use Rattle.notebook.specs.declared.parts.Section.{Section}
use Rattle.notebook.specs.declared.parts.Parts.{Parts}
use Rattle.notebook.specs.declared.change.CellKind.{CellKind}
use Rattle.notebook.specs.declared.change.Change.{Change}
use Rattle.notebook.specs.declared.change.Change.TheVariants.{SetName, InsertSection, SetSectionName, DeleteSection, MoveSection, SetParent, InsertCell, DeleteCell, RestoreCell, MoveCell}
use Rattle.notebook.specs.declared.change.Changed.{Changed}
use Rattle.notebook.specs.declared.change.NoteError.{NoteError}
use Rattle.notebook.specs.declared.change.NoteError.TheVariants.{NoSection, BadIndex, BadParent, HasBranches, TooManyCells, TooManySections}
use Rattle.notebook.specs.Book.{cells_of, found, cells, section_cells}
use Rattle.notebook.specs.Flow.{is_section}
use Rattle.notebook.specs.Rules.{IsNotebook, AreDistinct, numbered_cells, cell_number, section_number}
use Rattle.notebook.specs.Living.{listed, first_or, restored, lives_on}
use Rattle.notebook.specs.Change.{Attempt, Makes, Fails, lacks, with_section, but_section, cells_in, but_cell, cut_cell, with_cell, put_cell, named, branching, has_branches, is_branch, parents_first, is_full, kind_of, new_cell, new_section, insert_section, set_section_name, delete_section, move_section, set_parent, if_room, insert_cell, delete_cell, renumbered, restore_cell, move_cell, change}
use Rattle.notebook.proofs.Spots.{spot-but, spot-with, spot-cells}
use Rattle.notebook.proofs.Sources.{unfound-after}
use Rattle.notebook.proofs.Finding.{none-front}
use Rattle.notebook.proofs.Sums.{total, total-append, total-map, same, distinct-sum}
use Rattle.notebook.proofs.Totals.{spot-of, find-spot, found-split, cut-cells, with-cells}
use Rattle.notebook.proofs.Keeping.{Keeps, change-kept, distinct-cells}
use Rattle.notebook.proofs.CellMoves.{cut-numbers}

-- how often a number stands
abbrev hit : ℕ → Cell → ℕ
hit id c = same id c.id

found-hit : (id : ℕ) (cs : List Cell) (c : Cell) → found id cs ≡ Some c → 1 ≤ total (hit id) cs
found-hit id [] c h = absurd (cc h)
found-hit id (d ∷ cs) c h =
    elim (d.id == id)
    as (λ b. (if b then Some d else found id cs) ≡ Some c → 1 ≤ (if b then 1 else 0) + total (hit id) cs)
    [ true ↦ λ e. omega arith | false ↦ λ e. omega (arith, found-hit id cs c e) ]
    h

found-miss : (id : ℕ) (cs : List Cell) → total (hit id) cs ≡ 0 → found id cs ≡ None
found-miss id [] h = refl
found-miss id (d ∷ cs) h =
    elim (d.id == id)
    as (λ b. ◌≡◌ {A = ℕ} ((if b then 1 else 0) + total (hit id) cs) 0 → (if b then Some d else found id cs) ≡ None)
    [ true ↦ λ e. absurd (omega (arith, e)) | false ↦ λ e. found-miss id cs (omega (arith, e)) ]
    h

found-append : (id : ℕ) (xs ys : List Cell) → found id (xs ++ ys) ≡ first_or (found id xs) (found id ys)
found-append id [] ys = refl
found-append id (x ∷ xs) ys =
    elim (x.id == id)
    as (λ b. (if b then Some x else found id (xs ++ ys)) ≡ first_or (if b then Some x else found id xs) (found id ys))
    [ true ↦ refl | false ↦ found-append id xs ys ]

-- some cells amid others, where the number stands at most once
found-middle : (id : ℕ) (xs ms ys : List Cell) → total (hit id) (xs ++ (ms ++ ys)) ≤ 1 → found id (xs ++ (ms ++ ys)) ≡ first_or (found id ms) (found id (xs ++ ys))
found-middle id xs ms ys few =
    let whole : found id (xs ++ (ms ++ ys)) ≡ first_or (found id xs) (first_or (found id ms) (found id ys)) =
    found-append id xs (ms ++ ys) ∙ ap (λ o. first_or (found id xs) o) (found-append id ms ys) in
    whole
    ∙ elim (found id ms)
    as (λ o. found id ms ≡ o → first_or (found id xs) (first_or o (found id ys)) ≡ first_or o (found id (xs ++ ys))) [
      | None ↦ λ e. sym (found-append id xs ys)
      | Some c ↦ λ e.
          let a = total-append (hit id) xs (ms ++ ys) in
          let b = total-append (hit id) ms ys in
          let one = found-hit id ms c e in
          let none : found id xs ≡ None = found-miss id xs (omega (arith, a, b, one, few)) in
          ap (λ o. first_or o (Some c)) none
    ]
    refl

none-beside : (id : ℕ) (xs ms ys : List Cell) (c : Cell) → total (hit id) (xs ++ (ms ++ ys)) ≤ 1 → found id ms ≡ Some c → found id (xs ++ ys) ≡ None
none-beside id xs ms ys c few e =
    let a = total-append (hit id) xs (ms ++ ys) in
    let b = total-append (hit id) ms ys in
    let d = total-append (hit id) xs ys in
    let one = found-hit id ms c e in
    found-miss id (xs ++ ys) (omega (arith, a, b, d, one, few))

once : (id : ℕ) (n : Parts) → IsNotebook n → total (hit id) (section_cells n) ≤ 1
once id n h =
    let few = distinct-sum (map cell_number (section_cells n)) id (distinct-cells n h) in
    let e : total (same id) (map cell_number (section_cells n)) ≡ total (hit id) (section_cells n) = total-map (same id) cell_number (section_cells n) in
    omega (arith, few, e)

flat-seam : (xs : List Section) (s : Section) (ys : List Section) → flat_map cells_of (xs ++ s ∷ ys) ≡ flat_map cells_of xs ++ (s.cells ++ flat_map cells_of ys)
flat-seam xs s ys = flat_map-append cells_of xs (s ∷ ys)

found-section : (id : ℕ) (xs : List Section) (s : Section) (ys : List Section) → total (hit id) (flat_map cells_of (xs ++ s ∷ ys)) ≤ 1 → found id (flat_map cells_of (xs ++ s ∷ ys)) ≡ first_or (found id s.cells) (found id (flat_map cells_of (xs ++ ys)))
found-section id xs s ys few =
    ap (found id) (flat-seam xs s ys)
    ∙ (found-middle id (flat_map cells_of xs) s.cells (flat_map cells_of ys) (subst (λ (cs : List Cell). total (hit id) cs ≤ 1) (flat-seam xs s ys) few)
    ∙ ap (λ cs. first_or (found id s.cells) (found id cs)) (sym (flat_map-append cells_of xs ys)))

-- the setup cell's number is no other's
setup-alone : (n : Parts) (id : ℕ) → IsNotebook n → (n.setup.id == id) ≡ true → found id (numbered_cells n) ≡ None
setup-alone n id h e =
    let apart : AreDistinct (map cell_number (n.setup ∷ numbered_cells n)) = subst (λ (k : ℕ). AreDistinct (k ∷ map cell_number (numbered_cells n))) (sym h.setup_number) h.cell_numbers in
    unfound-after [] (numbered_cells n) n.setup id (eqb-true n.setup.id id e) apart

setup-sections : (n : Parts) (id : ℕ) → IsNotebook n → (n.setup.id == id) ≡ true → found id (section_cells n) ≡ None
setup-sections n id h e = none-front id (section_cells n) n.bin (setup-alone n id h e)

-- from the sections to all live cells
abbrev after : List Cell → List Cell → ℕ → Option Cell → Option Cell
after gone made id o = if is_some (found id gone) then None else first_or (found id made) o

lift : (n m : Parts) (gone made : List Cell) (id : ℕ) → m.setup ≡ n.setup → ((n.setup.id == id) ≡ true → found id gone ≡ None) → ((n.setup.id == id) ≡ true → found id made ≡ None) → found id (section_cells m) ≡ after gone made id (found id (section_cells n)) → found id (cells m) ≡ after gone made id (found id (cells n))
lift n m gone made id setup none nothing sections =
    ap (λ (s : Cell). if s.id == id then Some s else found id (section_cells m)) setup
    ∙ elim (n.setup.id == id)
    as (λ b. (n.setup.id == id) ≡ b → (if b then Some n.setup else found id (section_cells m)) ≡ after gone made id (if b then Some n.setup else found id (section_cells n))) [
      | true ↦ λ e.
          sym
          (ap (λ o. if is_some o then None else first_or (found id made) (Some n.setup)) (none e)
          ∙ ap (λ o. first_or o (Some n.setup)) (nothing e))
      | false ↦ λ e. sections
    ]
    refl

plain : (n m : Parts) (id : ℕ) → m.setup ≡ n.setup → found id (section_cells m) ≡ found id (section_cells n) → found id (cells m) ≡ found id (cells n)
plain n m id setup e = lift n m [] [] id setup (λ _. refl) (λ _. refl) e

-- a part of what has none has none
none-in-whole : (id : ℕ) (all ms rest : List Cell) → found id all ≡ first_or (found id ms) (found id rest) → found id all ≡ None → found id ms ≡ None
none-in-whole id all ms rest whole none =
    elim (found id ms)
    as (λ o. found id all ≡ first_or o (found id rest) → o ≡ None)
    [ None ↦ λ w. refl | Some c ↦ λ w. absurd (let no : Some c ≡ None = sym w ∙ none in cc) ]
    whole

-- lists in another grouping
put-flat : (a b : List Cell) (c : Cell) (d e : List Cell) → a ++ ((b ++ c ∷ d) ++ e) ≡ (a ++ b) ++ ((c ∷ []) ++ (d ++ e))
put-flat a b c d e = ap (λ x. a ++ x) (append_assoc b (c ∷ d) e) ∙ sym (append_assoc a b (c ∷ (d ++ e)))

join-flat : (a b d e : List Cell) → a ++ ((b ++ d) ++ e) ≡ (a ++ b) ++ (d ++ e)
join-flat a b d e = ap (λ x. a ++ x) (append_assoc b d e) ∙ sym (append_assoc a b (d ++ e))

-- what is told of an attempt
abbrev Lives : Parts → Change → Attempt → Type 0
Lives n asked (Makes m made) = (id : ℕ) → found id (cells m) ≡ lives_on n asked id
Lives n asked (Fails e) = Unit {0}

live-if : (n : Parts) (asked : Change) (b : Bool) (e : NoteError) (a : Attempt) → Keeps n (if b then Fails e else a) → (b ≡ false → Keeps n a → Lives n asked a) → Lives n asked (if b then Fails e else a)
live-if n asked b e a k f = elim b as (λ x. b ≡ x → Keeps n (if x then Fails e else a) → Lives n asked (if x then Fails e else a)) [ true ↦ λ _ _. tt | false ↦ λ p q. f p q ] refl k

live-room : (n : Parts) (asked : Change) (full b : Bool) (e : NoteError) (a : Attempt) → Keeps n (if_room full (if b then Fails e else a)) → (b ≡ false → Keeps n (if_room full a) → Lives n asked (if_room full a)) → Lives n asked (if_room full (if b then Fails e else a))
live-room n asked full b e a k f = elim b as (λ x. b ≡ x → Keeps n (if_room full (if x then Fails e else a)) → Lives n asked (if_room full (if x then Fails e else a))) [ true ↦ λ _ _. tt | false ↦ λ p q. f p q ] refl k

same-flat : (n : Parts) (ss : List Section) (id : ℕ) → flat_map cells_of ss ≡ section_cells n → found id (flat_map cells_of ss) ≡ found id (section_cells n)
same-flat n ss id e = ap (found id) e

live-insert_section : (n : Parts) (index : ℕ) (name : List ℕ) → Keeps n (insert_section n index name) → Lives n (InsertSection index name) (insert_section n index name)
live-insert_section n index name k =
    let s : Section = new_section n.next_section name in
    let m : Parts = record n { sections = insert n.sections index s; next_section = n.next_section + 1 } in
    live-if n (InsertSection index name) (nat_lt (length n.sections) index) (BadIndex (length n.sections)) _ k (λ past k2.
    live-if n (InsertSection index name) (nat_lt 1000 (length n.sections + 1)) TooManySections (Makes m _) k2 (λ room k3. λ id.
    plain n m id refl (same-flat n (insert n.sections index s) id (flat-seam (take index n.sections) s (drop index n.sections) ∙ (sym (flat_map-append cells_of (take index n.sections) (drop index n.sections)) ∙ ap (flat_map cells_of) (take-append-drop index n.sections))))))

live-set_section_name : (n : Parts) (section : ℕ) (name : List ℕ) → Keeps n (set_section_name n section name) → Lives n (SetSectionName section name) (set_section_name n section name)
live-set_section_name n section name k =
    let ss : List Section = with_section section (named name) n.sections in
    live-if n (SetSectionName section name) (lacks section n.sections) NoSection (Makes (record n { sections = ss }) _) k (λ there k2. λ id.
    plain n (record n { sections = ss }) id refl (same-flat n ss id (with-cells section (named name) n.sections (λ s. refl))))

live-delete_section : (n : Parts) (section : ℕ) → IsNotebook n → Keeps n (delete_section n section) → Lives n (DeleteSection section) (delete_section n section)
live-delete_section n section h k =
    let m : Parts = record n { sections = but_section section n.sections; bin = n.bin ++ cells_in section n.sections } in
    live-if n (DeleteSection section) (lacks section n.sections) NoSection _ k (λ there k2.
    live-if n (DeleteSection section) (has_branches section n.sections) HasBranches (Makes m _) k2 (λ alone k3. λ id.
    let q = spot-of section n.sections there in
    let p = q.1 in
    let gone : List Cell = cells_in section n.sections in
    let is : gone ≡ p.home.cells = spot-cells n.sections section q.0 p in
    let left : section_cells m ≡ flat_map cells_of (p.front ++ p.back) = ap (flat_map cells_of) (spot-but n.sections section q.0 p h.section_numbers.1) in
    let all : section_cells n ≡ flat_map cells_of (p.front ++ p.home ∷ p.back) = ap (flat_map cells_of) p.parts in
    let few : total (hit id) (flat_map cells_of (p.front ++ p.home ∷ p.back)) ≤ 1 = subst (λ (cs : List Cell). total (hit id) cs ≤ 1) all (once id n h) in
    let whole : found id (section_cells n) ≡ first_or (found id gone) (found id (section_cells m)) =
    ap (found id) all
    ∙ (found-section id p.front p.home p.back few
    ∙ (ap (λ cs. first_or (found id cs) (found id (flat_map cells_of (p.front ++ p.back)))) (sym is) ∙ ap (λ cs. first_or (found id gone) (found id cs)) (sym left))) in
    lift n m gone [] id refl (λ e. none-in-whole id (section_cells n) gone (section_cells m) whole (setup-sections n id h e)) (λ _. refl)
    (elim (found id gone)
    as (λ o. found id gone ≡ o → found id (section_cells n) ≡ first_or o (found id (section_cells m)) → found id (section_cells m) ≡ (if is_some o then None else found id (section_cells n))) [
      | None ↦ λ e w. sym w
      | Some c ↦ λ e w.
          ap (found id) (left ∙ flat_map-append cells_of p.front p.back)
          ∙ none-beside id (flat_map cells_of p.front) p.home.cells (flat_map cells_of p.back) c (subst (λ (cs : List Cell). total (hit id) cs ≤ 1) (flat-seam p.front p.home p.back) few) (ap (found id) (sym is) ∙ e)
    ]
    refl
    whole)))

live-move_section : (n : Parts) (section index : ℕ) (o : Option Section) → find (is_section section) n.sections ≡ o → IsNotebook n → Keeps n (move_section n index o) → Lives n (MoveSection section index) (move_section n index o)
live-move_section n section index None e h k = tt
live-move_section n section index (Some s) e h k =
    let q = find-spot section n.sections s e in
    let p = q.0.1 in
    let others : List Section = but_section s.id n.sections in
    let ss : List Section = insert others index s in
    let m : Parts = record n { sections = ss } in
    live-if n (MoveSection section index) (nat_lt (length others) index) (BadIndex (length others)) _ k (λ past k2.
    live-if n (MoveSection section index) (not (parents_first ss)) BadParent (Makes m _) k2 (λ bad k3. λ id.
    let number : s.id ≡ section = ap (λ (t : Section). t.id) (sym q.1) ∙ p.number in
    let left : others ≡ p.front ++ p.back = ap (λ (j : ℕ). but_section j n.sections) number ∙ spot-but n.sections section q.0.0 p h.section_numbers.1 in
    let all : section_cells n ≡ flat_map cells_of (p.front ++ s ∷ p.back) = ap (flat_map cells_of) (p.parts ∙ ap (λ (t : Section). p.front ++ t ∷ p.back) q.1) in
    let before : found id (section_cells n) ≡ first_or (found id s.cells) (found id (flat_map cells_of (p.front ++ p.back))) =
    ap (found id) all ∙ found-section id p.front s p.back (subst (λ (cs : List Cell). total (hit id) cs ≤ 1) all (once id n h)) in
    let now : found id (section_cells m) ≡ first_or (found id s.cells) (found id (flat_map cells_of (take index others ++ drop index others))) =
    found-section id (take index others) s (drop index others) (once id m k3.rules) in
    plain n m id refl (now ∙ (ap (λ (ts : List Section). first_or (found id s.cells) (found id (flat_map cells_of ts))) (take-append-drop index others ∙ left) ∙ sym before))))

live-set_parent : (n : Parts) (section : ℕ) (parent : Option ℕ) → Keeps n (set_parent n section parent) → Lives n (SetParent section parent) (set_parent n section parent)
live-set_parent n section None k =
    let ss : List Section = with_section section (branching None) n.sections in
    live-if n (SetParent section None) (lacks section n.sections) NoSection (Makes (record n { sections = ss }) _) k (λ there k2. λ id.
    plain n (record n { sections = ss }) id refl (same-flat n ss id (with-cells section (branching None) n.sections (λ s. refl))))
live-set_parent n section (Some parent) k =
    let ss : List Section = with_section section (branching (Some parent)) n.sections in
    live-if n (SetParent section (Some parent)) (lacks section n.sections || lacks parent n.sections) NoSection _ k (λ there k2.
    live-if n (SetParent section (Some parent)) (not (parents_first ss) || is_branch parent n.sections) BadParent _ k2 (λ good k3.
    live-if n (SetParent section (Some parent)) (has_branches section n.sections) HasBranches (Makes (record n { sections = ss }) _) k3 (λ alone k4. λ id.
    plain n (record n { sections = ss }) id refl (same-flat n ss id (with-cells section (branching (Some parent)) n.sections (λ s. refl))))))

-- a cell that was put
found-put : (section index : ℕ) (c : Cell) (ss : List Section) (id : ℕ) → AreDistinct (map section_number ss) → lacks section ss ≡ false → total (hit id) (flat_map cells_of (put_cell section index c ss)) ≤ 1 → found id (flat_map cells_of (put_cell section index c ss)) ≡ first_or (found id (c ∷ [])) (found id (flat_map cells_of ss))
found-put section index c ss id apart has few =
    let q = spot-of section ss has in
    let p = q.1 in
    let xs : List Cell = flat_map cells_of p.front ++ take index p.home.cells in
    let ys : List Cell = drop index p.home.cells ++ flat_map cells_of p.back in
    let new : flat_map cells_of (put_cell section index c ss) ≡ xs ++ ((c ∷ []) ++ ys) =
    ap (flat_map cells_of) (spot-with ss section q.0 (with_cell index c) p apart)
    ∙ (flat-seam p.front (with_cell index c p.home) p.back ∙ put-flat (flat_map cells_of p.front) (take index p.home.cells) c (drop index p.home.cells) (flat_map cells_of p.back)) in
    let old : flat_map cells_of ss ≡ xs ++ ys =
    ap (flat_map cells_of) p.parts
    ∙ (flat-seam p.front p.home p.back
    ∙ (ap (λ cs. flat_map cells_of p.front ++ (cs ++ flat_map cells_of p.back)) (sym (take-append-drop index p.home.cells))
    ∙ join-flat (flat_map cells_of p.front) (take index p.home.cells) (drop index p.home.cells) (flat_map cells_of p.back))) in
    ap (found id) new
    ∙ (found-middle id xs (c ∷ []) ys (subst (λ (cs : List Cell). total (hit id) cs ≤ 1) new few) ∙ ap (λ cs. first_or (found id (c ∷ [])) (found id cs)) (sym old))

next-none : (n : Parts) (id : ℕ) (c : Cell) → IsNotebook n → c.id ≡ n.next_cell → (n.setup.id == id) ≡ true → found id (c ∷ []) ≡ None
next-none n id c h number e =
    let zero_id : n.setup.id ≡ id = eqb-true n.setup.id id e in
    elim (c.id == id)
    as (λ b. (c.id == id) ≡ b → (if b then Some c else None) ≡ None)
    [ true ↦ λ x. absurd (let same_id : c.id ≡ id = eqb-true c.id id x in omega (arith, same_id, number, zero_id, h.setup_number, h.next_cell.0)) | false ↦ λ x. refl ]
    refl

live-insert_cell : (n : Parts) (section index : ℕ) (kind : CellKind) → IsNotebook n → Keeps n (insert_cell n section index (kind_of kind)) → Lives n (InsertCell section index kind) (insert_cell n section index (kind_of kind))
live-insert_cell n section index kind h k =
    let c : Cell = new_cell n.next_cell (kind_of kind) in
    let m : Parts = record n { sections = put_cell section index c n.sections; next_cell = n.next_cell + 1 } in
    let full : Bool = is_full n (kind_of kind) in
    live-room n (InsertCell section index kind) full (lacks section n.sections) NoSection _ k (λ there k2.
    live-room n (InsertCell section index kind) full (nat_lt (length (cells_in section n.sections)) index) (BadIndex (length (cells_in section n.sections))) _ k2 (λ past k3.
    live-if n (InsertCell section index kind) full TooManyCells (Makes m _) k3 (λ room k4. λ id.
    lift n m [] (c ∷ []) id refl (λ _. refl) (λ e. next-none n id c h refl e) (found-put section index c n.sections id h.section_numbers.1 there (once id m k4.rules)))))

live-restore_cell : (n : Parts) (cell section index : ℕ) (o : Option Cell) → found cell n.bin ≡ o → IsNotebook n → Keeps n (restore_cell n section index o) → Lives n (RestoreCell cell section index) (restore_cell n section index o)
live-restore_cell n cell section index None e h k = tt
live-restore_cell n cell section index (Some c) e h k =
    let asked : Change = RestoreCell cell section index in
    let r : Cell = renumbered n.next_cell c in
    let m : Parts = record n { sections = put_cell section index r n.sections; bin = but_cell c.id n.bin; next_cell = n.next_cell + 1 } in
    live-room n asked (is_full n c.kind) (lacks section n.sections) NoSection _ k (λ there k2.
    live-room n asked (is_full n c.kind) (nat_lt (length (cells_in section n.sections)) index) (BadIndex (length (cells_in section n.sections))) _ k2 (λ past k3.
    live-if n asked (is_full n c.kind) TooManyCells (Makes m _) k3 (λ room k4. λ id.
    lift n m [] (r ∷ []) id refl (λ _. refl) (λ x. next-none n id r h refl x) (found-put section index r n.sections id h.section_numbers.1 there (once id m k4.rules))
    ∙ ap (λ o. first_or (found id (restored n.next_cell o)) (found id (cells n))) (sym e))))

-- a cell that was taken out
but-own : (d : Cell) (k id : ℕ) (cs : List Cell) → d.id ≡ k → (if k == id then None else found id cs) ≡ (if k == id then None else (if d.id == id then Some d else found id cs))
but-own d k id cs e =
    elim (k == id)
    as (λ b. (k == id) ≡ b → (if b then None else found id cs) ≡ (if b then None else (if d.id == id then Some d else found id cs)))
    [ true ↦ λ _. refl | false ↦ λ x. sym (ap (λ b. if b then Some d else found id cs) (ap (λ (j : ℕ). j == id) e ∙ x)) ]
    refl

but-other : (d : Cell) (k id : ℕ) (cs : List Cell) → (d.id == k) ≡ false → (if d.id == id then Some d else (if k == id then None else found id cs)) ≡ (if k == id then None else (if d.id == id then Some d else found id cs))
but-other d k id cs e =
    elim (k == id)
    as (λ b. (k == id) ≡ b → (if d.id == id then Some d else (if b then None else found id cs)) ≡ (if b then None else (if d.id == id then Some d else found id cs)))
    [ true ↦ λ x. ap (λ b. if b then Some d else None) (ap (λ (j : ℕ). d.id == j) (sym (eqb-true k id x)) ∙ e) | false ↦ λ x. refl ]
    refl

found-but : (k id : ℕ) (cs : List Cell) → found id (but_cell k cs) ≡ (if k == id then None else found id cs)
found-but k id [] = elim (k == id) as (λ b. ◌≡◌ {A = Option Cell} None (if b then None else None)) [ true ↦ refl | false ↦ refl ]
found-but k id (d ∷ cs) =
    elim (d.id == k)
    as (λ b. (d.id == k) ≡ b → found id (if b then but_cell k cs else d ∷ but_cell k cs) ≡ (if k == id then None else (if d.id == id then Some d else found id cs))) [
      | true ↦ λ e. found-but k id cs ∙ but-own d k id cs (eqb-true d.id k e)
      | false ↦ λ e. ap (λ o. if d.id == id then Some d else o) (found-but k id cs) ∙ but-other d k id cs e
    ]
    refl

gone-if : (c : Cell) (id : ℕ) (o : Option Cell) → (if c.id == id then None else o) ≡ (if is_some (found id (c ∷ [])) then None else o)
gone-if c id o = elim (c.id == id) as (λ b. (if b then None else o) ≡ (if is_some (if b then Some c else None) then None else o)) [ true ↦ refl | false ↦ refl ]

gone-none : (n : Parts) (cell id : ℕ) (c : Cell) → found cell (section_cells n) ≡ Some c → found id (section_cells n) ≡ None → found id (c ∷ []) ≡ None
gone-none n cell id c e none =
    let p = found-split cell (section_cells n) c e in
    elim (c.id == id)
    as (λ b. (c.id == id) ≡ b → (if b then Some c else None) ≡ None) [
      | true ↦ λ x.
          let same_id : cell ≡ id = sym p.number ∙ eqb-true c.id id x in
          absurd (let no : Some c ≡ None = sym e ∙ (ap (λ (j : ℕ). found j (section_cells n)) same_id ∙ none) in cc)
      | false ↦ λ x. refl
    ]
    refl

back-again : (n : Parts) (cell id : ℕ) (c : Cell) → found cell (section_cells n) ≡ Some c → c.id ≡ cell → first_or (found id (c ∷ [])) (if c.id == id then None else found id (section_cells n)) ≡ found id (section_cells n)
back-again n cell id c e number =
    elim (c.id == id)
    as (λ b. (c.id == id) ≡ b → first_or (if b then Some c else None) (if b then None else found id (section_cells n)) ≡ found id (section_cells n)) [
      | true ↦ λ x. sym (ap (λ (j : ℕ). found j (section_cells n)) (sym (sym number ∙ eqb-true c.id id x)) ∙ e)
      | false ↦ λ x. refl
    ]
    refl

live-delete_cell : (n : Parts) (cell : ℕ) (o : Option Cell) → found cell (section_cells n) ≡ o → IsNotebook n → Keeps n (delete_cell n o) → Lives n (DeleteCell cell) (delete_cell n o)
live-delete_cell n cell None e h k = tt
live-delete_cell n cell (Some c) e h k = λ id.
    let m : Parts = record n { sections = cut_cell c.id n.sections; bin = n.bin ++ c ∷ [] } in
    let left : found id (section_cells m) ≡ (if c.id == id then None else found id (section_cells n)) = ap (found id) (cut-cells c.id n.sections) ∙ found-but c.id id (section_cells n) in
    lift n m (c ∷ []) [] id refl (λ x. gone-none n cell id c e (setup-sections n id h x)) (λ _. refl) (left ∙ gone-if c id (found id (section_cells n)))
    ∙ ap (λ o. if is_some (found id (listed o)) then None else found id (cells n)) (sym e)

live-move_cell : (n : Parts) (cell section index : ℕ) (o : Option Cell) → found cell (section_cells n) ≡ o → IsNotebook n → Keeps n (move_cell n section index o) → Lives n (MoveCell cell section index) (move_cell n section index o)
live-move_cell n cell section index None e h k = tt
live-move_cell n cell section index (Some c) e h k =
    let asked : Change = MoveCell cell section index in
    let others : List Section = cut_cell c.id n.sections in
    let m : Parts = record n { sections = put_cell section index c others } in
    let p = found-split cell (section_cells n) c e in
    live-if n asked (lacks section others) NoSection _ k (λ there k2.
    live-if n asked (nat_lt (length (cells_in section others)) index) (BadIndex (length (cells_in section others))) (Makes m _) k2 (λ past k3. λ id.
    let apart : AreDistinct (map section_number others) = subst (λ (ns : List ℕ). AreDistinct ns) (sym (cut-numbers c.id n.sections)) h.section_numbers.1 in
    let put : found id (section_cells m) ≡ first_or (found id (c ∷ [])) (found id (flat_map cells_of others)) = found-put section index c others id apart there (once id m k3.rules) in
    let cut : found id (flat_map cells_of others) ≡ (if c.id == id then None else found id (section_cells n)) = ap (found id) (cut-cells c.id n.sections) ∙ found-but c.id id (section_cells n) in
    plain n m id refl (put ∙ (ap (λ o. first_or (found id (c ∷ [])) o) cut ∙ back-again n cell id c e p.number))))

change-lives : (n : Parts) (asked : Change) → IsNotebook n → Keeps n (change n asked) → Lives n asked (change n asked)
change-lives n (SetName name) h k = λ id. refl
change-lives n (InsertSection index name) h k = live-insert_section n index name k
change-lives n (SetSectionName section name) h k = live-set_section_name n section name k
change-lives n (DeleteSection section) h k = live-delete_section n section h k
change-lives n (MoveSection section index) h k = live-move_section n section index (find (is_section section) n.sections) refl h k
change-lives n (SetParent section parent) h k = live-set_parent n section parent k
change-lives n (InsertCell section index kind) h k = live-insert_cell n section index kind h k
change-lives n (DeleteCell cell) h k = live-delete_cell n cell (found cell (section_cells n)) refl h k
change-lives n (RestoreCell cell section index) h k = live-restore_cell n cell section index (found cell n.bin) refl h k
change-lives n (MoveCell cell section index) h k = live-move_cell n cell section index (found cell (section_cells n)) refl h k

-- the live cell of a number after a change: gone, new, or the same
pub change-found : (n m : Parts) (asked : Change) (made : Changed) (id : ℕ) → IsNotebook n → change n asked ≡ Makes m made → found id (cells m) ≡ lives_on n asked id
change-found n m asked made id h e = subst (λ (a : Attempt). Lives n asked a) e (change-lives n asked h (change-kept n asked h)) id
