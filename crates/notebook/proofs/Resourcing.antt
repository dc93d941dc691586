-- Changes commute with giving the cells sources.
use Rattle.std.proofs.Common.{◌≡◌, ℕ, ◌+◌, true, false, Bool, List, [], ◌∷◌, ◌++◌, Option, Some, None, length, take, drop, refl, sym, ap, ◌∙◌, subst, suc, zero}
use Rattle.std.specs.Prelude.{◌==◌, ◌||◌, ◌&&◌, not, nat_lt, find, if◌then◌else◌, insert}
use Rattle.std.specs.List.{list_any}
use Rattle.std.specs.Option.{option_map}
use Rattle.notebook.specs.declared.parts.Cell.{Cell}
use Rattle.notebook.specs.declared.parts.Section.{Section}
use Rattle.notebook.specs.declared.parts.Parts.{Parts}
use Rattle.notebook.specs.declared.parts.Kind.{Kind}
use Rattle.notebook.specs.declared.change.Change.{Change}
use Rattle.notebook.specs.declared.change.Change.TheVariants.{SetName, InsertSection, SetSectionName, DeleteSection, MoveSection, SetParent, InsertCell, DeleteCell, RestoreCell, MoveCell}
use Rattle.notebook.specs.declared.change.Changed.{Changed}
use Rattle.notebook.specs.declared.change.Changed.TheVariants.{Plain, NewCell, NewSection}
use Rattle.notebook.specs.declared.change.NoteError.{NoteError}
use Rattle.notebook.specs.declared.change.NoteError.TheVariants.{BadIndex, TooManyCells}
use Rattle.notebook.specs.Book.{found, section_cells, resourced_cell, resourced_cells, resourced_sections, resourced}
use Rattle.notebook.specs.Flow.{is_section}
use Rattle.notebook.specs.Rules.{code_count, code_weight}
use Rattle.notebook.specs.Living.{listed, gone_cells, restored, made_cells, HaveSourcesOf}
use Rattle.notebook.specs.Change.{Attempt, Makes, Fails, lacks, with_section, but_section, cells_in, but_cell, cut_cell, with_cell, put_cell, named, branching, branches_from, has_branches, is_branch, is_branch_numbered, stands_after, parents_first_after, parents_first, is_full, kind_of, new_cell, new_section, insert_section, set_section_name, delete_section, put_section, move_section, set_parent, place_cell, if_room, counted, insert_cell, delete_cell, renumbered, restore_cell, move_cell, change}
use Rattle.notebook.proofs.Sources.{resourced_cells-append, resourced_sections-append, section_cells-resourced, found-resourced_cells, length-resourced, length-resourced_sections, code_count-resourced}

abbrev rs : (Cell → List ℕ) → Section → Section
rs f s = record s { cells = resourced_cells f s.cells }

-- lists that are cut
cells-take : (f : Cell → List ℕ) (i : ℕ) (cs : List Cell) → take i (resourced_cells f cs) ≡ resourced_cells f (take i cs)
cells-take f zero cs = elim cs as (λ xs. take zero (resourced_cells f xs) ≡ resourced_cells f (take zero xs)) [ [] ↦ refl | c ∷ rest ↦ refl ]
cells-take f (suc i) [] = refl
cells-take f (suc i) (c ∷ cs) = ap (λ ds. resourced_cell f c ∷ ds) (cells-take f i cs)

cells-drop : (f : Cell → List ℕ) (i : ℕ) (cs : List Cell) → drop i (resourced_cells f cs) ≡ resourced_cells f (drop i cs)
cells-drop f zero cs = elim cs as (λ xs. drop zero (resourced_cells f xs) ≡ resourced_cells f (drop zero xs)) [ [] ↦ refl | c ∷ rest ↦ refl ]
cells-drop f (suc i) [] = refl
cells-drop f (suc i) (c ∷ cs) = cells-drop f i cs

sections-take : (f : Cell → List ℕ) (i : ℕ) (ss : List Section) → take i (resourced_sections f ss) ≡ resourced_sections f (take i ss)
sections-take f zero ss = elim ss as (λ xs. take zero (resourced_sections f xs) ≡ resourced_sections f (take zero xs)) [ [] ↦ refl | s ∷ rest ↦ refl ]
sections-take f (suc i) [] = refl
sections-take f (suc i) (s ∷ ss) = ap (λ ts. rs f s ∷ ts) (sections-take f i ss)

sections-drop : (f : Cell → List ℕ) (i : ℕ) (ss : List Section) → drop i (resourced_sections f ss) ≡ resourced_sections f (drop i ss)
sections-drop f zero ss = elim ss as (λ xs. drop zero (resourced_sections f xs) ≡ resourced_sections f (drop zero xs)) [ [] ↦ refl | s ∷ rest ↦ refl ]
sections-drop f (suc i) [] = refl
sections-drop f (suc i) (s ∷ ss) = sections-drop f i ss

cells-insert : (f : Cell → List ℕ) (cs : List Cell) (i : ℕ) (c : Cell) → insert (resourced_cells f cs) i (resourced_cell f c) ≡ resourced_cells f (insert cs i c)
cells-insert f cs i c =
    ap (λ xs. xs ++ resourced_cell f c ∷ drop i (resourced_cells f cs)) (cells-take f i cs)
    ∙ (ap (λ ys. resourced_cells f (take i cs) ++ resourced_cell f c ∷ ys) (cells-drop f i cs) ∙ sym (resourced_cells-append f (take i cs) (c ∷ drop i cs)))

sections-insert : (f : Cell → List ℕ) (ss : List Section) (i : ℕ) (s : Section) → insert (resourced_sections f ss) i (rs f s) ≡ resourced_sections f (insert ss i s)
sections-insert f ss i s =
    ap (λ xs. xs ++ rs f s ∷ drop i (resourced_sections f ss)) (sections-take f i ss)
    ∙ (ap (λ ys. resourced_sections f (take i ss) ++ rs f s ∷ ys) (sections-drop f i ss) ∙ sym (resourced_sections-append f (take i ss) (s ∷ drop i ss)))

-- tests that look at no cells
any-same : (f : Cell → List ℕ) (t : Section → Bool) (ss : List Section) → ((s : Section) → t (rs f s) ≡ t s) → list_any t (resourced_sections f ss) ≡ list_any t ss
any-same f t [] h = refl
any-same f t (s ∷ ss) h = ap (λ b. b || list_any t (resourced_sections f ss)) (h s) ∙ ap (λ b. t s || b) (any-same f t ss h)

lacks-same : (f : Cell → List ℕ) (id : ℕ) (ss : List Section) → lacks id (resourced_sections f ss) ≡ lacks id ss
lacks-same f id ss = ap not (any-same f (is_section id) ss (λ s. refl))

branches-same : (f : Cell → List ℕ) (id : ℕ) (ss : List Section) → has_branches id (resourced_sections f ss) ≡ has_branches id ss
branches-same f id ss = any-same f (branches_from id) ss (λ s. refl)

branch-same : (f : Cell → List ℕ) (id : ℕ) (ss : List Section) → is_branch id (resourced_sections f ss) ≡ is_branch id ss
branch-same f id ss = any-same f (is_branch_numbered id) ss (λ s. refl)

stands-same : (f : Cell → List ℕ) (before : List Section) (o : Option ℕ) → stands_after (resourced_sections f before) o ≡ stands_after before o
stands-same f before None = refl
stands-same f before (Some k) = any-same f (is_section k) before (λ s. refl)

first-same : (f : Cell → List ℕ) (before ss : List Section) → parents_first_after (resourced_sections f before) (resourced_sections f ss) ≡ parents_first_after before ss
first-same f before [] = refl
first-same f before (s ∷ ss) =
    ap (λ b. b && parents_first_after (resourced_sections f before ++ rs f s ∷ []) (resourced_sections f ss)) (stands-same f before s.parent)
    ∙ (ap (λ ts. stands_after before s.parent && parents_first_after ts (resourced_sections f ss)) (sym (resourced_sections-append f before (s ∷ [])))
    ∙ ap (λ b. stands_after before s.parent && b) (first-same f (before ++ s ∷ []) ss))

full-same : (f : Cell → List ℕ) (n : Parts) (kind : Kind) → is_full (resourced f n) kind ≡ is_full n kind
full-same f n kind =
    let all : section_cells (resourced f n) ≡ resourced_cells f (section_cells n) = section_cells-resourced f n.sections in
    let many : length (section_cells (resourced f n)) ≡ length (section_cells n) = ap (λ cs. length cs) all ∙ length-resourced f (section_cells n) in
    let code : code_count (section_cells (resourced f n)) ≡ code_count (section_cells n) = ap code_count all ∙ code_count-resourced f (section_cells n) in
    ap (λ k. nat_lt 4000 (k + 1) || nat_lt 1000 (code_count (section_cells (resourced f n)) + code_weight kind)) many
    ∙ ap (λ k. nat_lt 4000 (length (section_cells n) + 1) || nat_lt 1000 (k + code_weight kind)) code

-- changes of the sections
with-same : (f : Cell → List ℕ) (id : ℕ) (g h : Section → Section) (ss : List Section) → ((s : Section) → g (rs f s) ≡ rs f (h s)) → with_section id g (resourced_sections f ss) ≡ resourced_sections f (with_section id h ss)
with-same f id g h [] e = refl
with-same f id g h (s ∷ ss) e =
    let here : (if s.id == id then g (rs f s) else rs f s) ≡ rs f (if s.id == id then h s else s) = elim (s.id == id) as (λ b. (if b then g (rs f s) else rs f s) ≡ rs f (if b then h s else s)) [ true ↦ e s | false ↦ refl ] in
    ap (λ t. t ∷ with_section id g (resourced_sections f ss)) here ∙ ap (λ ts. rs f (if s.id == id then h s else s) ∷ ts) (with-same f id g h ss e)

but-same : (f : Cell → List ℕ) (id : ℕ) (ss : List Section) → but_section id (resourced_sections f ss) ≡ resourced_sections f (but_section id ss)
but-same f id [] = refl
but-same f id (s ∷ ss) =
    elim (s.id == id)
    as (λ b. (if b then but_section id (resourced_sections f ss) else rs f s ∷ but_section id (resourced_sections f ss)) ≡ resourced_sections f (if b then but_section id ss else s ∷ but_section id ss))
    [ true ↦ but-same f id ss | false ↦ ap (λ ts. rs f s ∷ ts) (but-same f id ss) ]

cells_in-same : (f : Cell → List ℕ) (id : ℕ) (ss : List Section) → cells_in id (resourced_sections f ss) ≡ resourced_cells f (cells_in id ss)
cells_in-same f id [] = refl
cells_in-same f id (s ∷ ss) =
    elim (s.id == id)
    as (λ b. (if b then resourced_cells f s.cells else cells_in id (resourced_sections f ss)) ≡ resourced_cells f (if b then s.cells else cells_in id ss))
    [ true ↦ refl | false ↦ cells_in-same f id ss ]

find-same : (f : Cell → List ℕ) (id : ℕ) (ss : List Section) → find (is_section id) (resourced_sections f ss) ≡ option_map (rs f) (find (is_section id) ss)
find-same f id [] = refl
find-same f id (s ∷ ss) =
    elim (s.id == id)
    as (λ b. (if b then Some (rs f s) else find (is_section id) (resourced_sections f ss)) ≡ option_map (rs f) (if b then Some s else find (is_section id) ss))
    [ true ↦ refl | false ↦ find-same f id ss ]

but_cell-same : (f : Cell → List ℕ) (id : ℕ) (cs : List Cell) → but_cell id (resourced_cells f cs) ≡ resourced_cells f (but_cell id cs)
but_cell-same f id [] = refl
but_cell-same f id (c ∷ cs) =
    elim (c.id == id)
    as (λ b. (if b then but_cell id (resourced_cells f cs) else resourced_cell f c ∷ but_cell id (resourced_cells f cs)) ≡ resourced_cells f (if b then but_cell id cs else c ∷ but_cell id cs))
    [ true ↦ but_cell-same f id cs | false ↦ ap (λ ds. resourced_cell f c ∷ ds) (but_cell-same f id cs) ]

cut-same : (f : Cell → List ℕ) (id : ℕ) (ss : List Section) → cut_cell id (resourced_sections f ss) ≡ resourced_sections f (cut_cell id ss)
cut-same f id [] = refl
cut-same f id (s ∷ ss) =
    ap (λ cs. record s { cells = cs } ∷ cut_cell id (resourced_sections f ss)) (but_cell-same f id s.cells)
    ∙ ap (λ ts. record s { cells = resourced_cells f (but_cell id s.cells) } ∷ ts) (cut-same f id ss)

put-same : (f : Cell → List ℕ) (section index : ℕ) (c : Cell) (ss : List Section) → put_cell section index (resourced_cell f c) (resourced_sections f ss) ≡ resourced_sections f (put_cell section index c ss)
put-same f section index c ss =
    with-same f section (with_cell index (resourced_cell f c)) (with_cell index c) ss (λ s. ap (λ cs. record s { cells = cs }) (cells-insert f s.cells index c))

-- a cell whose own source is given
own : (f : Cell → List ℕ) (c : Cell) → f c ≡ c.source → resourced_cell f c ≡ c
own f c e = ap (λ t. record c { source = t }) e

owns : (f : Cell → List ℕ) (cs : List Cell) → HaveSourcesOf f cs → resourced_cells f cs ≡ cs
owns f [] h = refl
owns f (c ∷ cs) h = ap (λ d. d ∷ resourced_cells f cs) (own f c h.0) ∙ ap (λ ds. c ∷ ds) (owns f cs h.1)

-- the same attempt over cells that were given sources: a refusal as it is, and what is made with the sources, where P holds
abbrev Matches : (Cell → List ℕ) → Type 0 → Attempt → Attempt → Type 0
Matches f P (Makes m made) b = (m' : Parts) × ((b ≡ Makes m' made) × (P → m' ≡ resourced f m))
Matches f P (Fails e) b = b ≡ Fails e

match-if : (f : Cell → List ℕ) (P : Type 0) (x y : Bool) (e e' : NoteError) (a b : Attempt) → y ≡ x → e' ≡ e → Matches f P a b → Matches f P (if x then Fails e else a) (if y then Fails e' else b)
match-if f P x y e e' a b same told m =
    subst (λ (z : Bool). Matches f P (if x then Fails e else a) (if z then Fails e' else b)) (sym same)
    (elim x as (λ z. Matches f P (if z then Fails e else a) (if z then Fails e' else b)) [ true ↦ ap (λ k. Fails k) told | false ↦ m ])

match-room : (f : Cell → List ℕ) (P : Type 0) (full full' : Bool) (a b : Attempt) → full' ≡ full → Matches f P a b → Matches f P (if_room full a) (if_room full' b)
match-room f P full full' (Fails e) b same m = ap (λ z. if_room full' z) m
match-room f P full full' (Makes n made) b same (m', (is, p)) =
    subst (λ (z : Bool). Matches f P (if full then Fails TooManyCells else Makes n made) (if_room z b)) (sym same)
    (subst (λ (t : Attempt). Matches f P (if full then Fails TooManyCells else Makes n made) (if_room full t)) (sym is)
    (elim full
    as (λ z. Matches f P (if z then Fails TooManyCells else Makes n made) (if z then Fails TooManyCells else Makes m' made))
    [ true ↦ refl | false ↦ (m', (refl, p)) ]))

-- one change after the other
match-insert_section : (f : Cell → List ℕ) (P : Type 0) (n : Parts) (index : ℕ) (name : List ℕ) → Matches f P (insert_section n index name) (insert_section (resourced f n) index name)
match-insert_section f P n index name =
    let s : Section = new_section n.next_section name in
    let len : length (resourced_sections f n.sections) ≡ length n.sections = length-resourced_sections f n.sections in
    match-if f P _ _ _ _ _ _ (ap (λ k. nat_lt k index) len) (ap (λ k. BadIndex k) len)
    (match-if f P _ _ _ _ (Makes (record n { sections = insert n.sections index s; next_section = n.next_section + 1 }) (NewSection n.next_section)) _ (ap (λ k. nat_lt 1000 (k + 1)) len) refl
    (record (resourced f n) { sections = insert (resourced_sections f n.sections) index s; next_section = n.next_section + 1 }, (refl, λ _. ap (λ ss. record (resourced f n) { sections = ss; next_section = n.next_section + 1 }) (sections-insert f n.sections index s))))

match-set_section_name : (f : Cell → List ℕ) (P : Type 0) (n : Parts) (section : ℕ) (name : List ℕ) → Matches f P (set_section_name n section name) (set_section_name (resourced f n) section name)
match-set_section_name f P n section name =
    match-if f P _ _ _ _ (Makes (record n { sections = with_section section (named name) n.sections }) Plain) _ (lacks-same f section n.sections) refl
    (record (resourced f n) { sections = with_section section (named name) (resourced_sections f n.sections) }, (refl, λ _. ap (λ ss. record (resourced f n) { sections = ss }) (with-same f section (named name) (named name) n.sections (λ s. refl))))

match-delete_section : (f : Cell → List ℕ) (n : Parts) (section : ℕ) (Q : Type 0) → Matches f (HaveSourcesOf f (cells_in section n.sections) × Q) (delete_section n section) (delete_section (resourced f n) section)
match-delete_section f n section Q =
    let P : Type 0 = HaveSourcesOf f (cells_in section n.sections) × Q in
    match-if f P _ _ _ _ _ _ (lacks-same f section n.sections) refl
    (match-if f P _ _ _ _ (Makes (record n { sections = but_section section n.sections; bin = n.bin ++ cells_in section n.sections }) Plain) _ (branches-same f section n.sections) refl (
      record (resourced f n) { sections = but_section section (resourced_sections f n.sections); bin = n.bin ++ cells_in section (resourced_sections f n.sections) },
      (
        refl,
        λ p.
            ap (λ ss. record (resourced f n) { sections = ss; bin = n.bin ++ cells_in section (resourced_sections f n.sections) }) (but-same f section n.sections)
            ∙ ap (λ cs. record (resourced f n) { sections = resourced_sections f (but_section section n.sections); bin = n.bin ++ cs }) (cells_in-same f section n.sections ∙ owns f (cells_in section n.sections) p.0),
      ),
    ))

match-put_section : (f : Cell → List ℕ) (P : Type 0) (n : Parts) (others : List Section) (index : ℕ) (s : Section) → Matches f P (put_section n others index s) (put_section (resourced f n) (resourced_sections f others) index (rs f s))
match-put_section f P n others index s =
    let len : length (resourced_sections f others) ≡ length others = length-resourced_sections f others in
    let new : insert (resourced_sections f others) index (rs f s) ≡ resourced_sections f (insert others index s) = sections-insert f others index s in
    match-if f P _ _ _ _ _ _ (ap (λ k. nat_lt k index) len) (ap (λ k. BadIndex k) len)
    (match-if f P _ _ _ _ (Makes (record n { sections = insert others index s }) Plain) _ (ap (λ ss. not (parents_first ss)) new ∙ ap not (first-same f [] (insert others index s))) refl
    (record (resourced f n) { sections = insert (resourced_sections f others) index (rs f s) }, (refl, λ _. ap (λ ss. record (resourced f n) { sections = ss }) new)))

match-move_section : (f : Cell → List ℕ) (P : Type 0) (n : Parts) (index : ℕ) (o : Option Section) → Matches f P (move_section n index o) (move_section (resourced f n) index (option_map (rs f) o))
match-move_section f P n index None = refl
match-move_section f P n index (Some s) =
    subst (λ (ss : List Section). Matches f P (put_section n (but_section s.id n.sections) index s) (put_section (resourced f n) ss index (rs f s))) (sym (but-same f s.id n.sections)) (match-put_section f P n (but_section s.id n.sections) index s)

match-set_parent : (f : Cell → List ℕ) (P : Type 0) (n : Parts) (section : ℕ) (parent : Option ℕ) → Matches f P (set_parent n section parent) (set_parent (resourced f n) section parent)
match-set_parent f P n section None =
    match-if f P _ _ _ _ (Makes (record n { sections = with_section section (branching None) n.sections }) Plain) _ (lacks-same f section n.sections) refl
    (record (resourced f n) { sections = with_section section (branching None) (resourced_sections f n.sections) }, (refl, λ _. ap (λ ss. record (resourced f n) { sections = ss }) (with-same f section (branching None) (branching None) n.sections (λ s. refl))))
match-set_parent f P n section (Some parent) =
    let g : Section → Section = branching (Some parent) in
    let new : with_section section g (resourced_sections f n.sections) ≡ resourced_sections f (with_section section g n.sections) = with-same f section g g n.sections (λ s. refl) in
    match-if f P _ _ _ _ _ _ (ap (λ b. b || lacks parent (resourced_sections f n.sections)) (lacks-same f section n.sections) ∙ ap (λ b. lacks section n.sections || b) (lacks-same f parent n.sections)) refl
    (match-if f P _ _ _ _ _ _ (ap (λ ss. not (parents_first ss) || is_branch parent (resourced_sections f n.sections)) new ∙ (ap (λ b. not b || is_branch parent (resourced_sections f n.sections)) (first-same f [] (with_section section g n.sections)) ∙ ap (λ b. not (parents_first (with_section section g n.sections)) || b) (branch-same f parent n.sections))) refl
    (match-if f P _ _ _ _ (Makes (record n { sections = with_section section g n.sections }) Plain) _ (branches-same f section n.sections) refl
    (record (resourced f n) { sections = with_section section g (resourced_sections f n.sections) }, (refl, λ _. ap (λ ss. record (resourced f n) { sections = ss }) new))))

match-place : (f : Cell → List ℕ) (P : Type 0) (n : Parts) (ss : List Section) (section index : ℕ) (c d : Cell) (made : Changed) → (P → d ≡ resourced_cell f c) → Matches f P (place_cell n ss section index c made) (place_cell (resourced f n) (resourced_sections f ss) section index d made)
match-place f P n ss section index c d made same =
    let len : length (cells_in section (resourced_sections f ss)) ≡ length (cells_in section ss) = ap (λ cs. length cs) (cells_in-same f section ss) ∙ length-resourced f (cells_in section ss) in
    match-if f P _ _ _ _ _ _ (lacks-same f section ss) refl
    (match-if f P _ _ _ _ (Makes (record n { sections = put_cell section index c ss }) made) _ (ap (λ k. nat_lt k index) len) (ap (λ k. BadIndex k) len) (
      record (resourced f n) { sections = put_cell section index d (resourced_sections f ss) },
      (refl, λ p. ap (λ e. record (resourced f n) { sections = put_cell section index e (resourced_sections f ss) }) (same p) ∙ ap (λ ts. record (resourced f n) { sections = ts }) (put-same f section index c ss)),
    ))

match-insert_cell : (f : Cell → List ℕ) (n : Parts) (section index : ℕ) (kind : Kind) (Q : Type 0) → Matches f (Q × HaveSourcesOf f (new_cell n.next_cell kind ∷ [])) (insert_cell n section index kind) (insert_cell (resourced f n) section index kind)
match-insert_cell f n section index kind Q =
    let c : Cell = new_cell n.next_cell kind in
    let P : Type 0 = Q × HaveSourcesOf f (c ∷ []) in
    match-room f P (is_full n kind) (is_full (resourced f n) kind) (place_cell (counted n) n.sections section index c (NewCell n.next_cell)) (place_cell (counted (resourced f n)) (resourced_sections f n.sections) section index c (NewCell n.next_cell)) (full-same f n kind)
    (match-place f P (counted n) n.sections section index c c (NewCell n.next_cell) (λ p. sym (own f c p.1.0)))

match-delete_cell : (f : Cell → List ℕ) (n : Parts) (o : Option Cell) (Q : Type 0) → Matches f (HaveSourcesOf f (listed o) × Q) (delete_cell n o) (delete_cell (resourced f n) (option_map (resourced_cell f) o))
match-delete_cell f n None Q = refl
match-delete_cell f n (Some c) Q = (
  record (resourced f n) { sections = cut_cell c.id (resourced_sections f n.sections); bin = n.bin ++ resourced_cell f c ∷ [] },
  (
    refl,
    λ p.
        ap (λ ss. record (resourced f n) { sections = ss; bin = n.bin ++ resourced_cell f c ∷ [] }) (cut-same f c.id n.sections)
        ∙ ap (λ d. record (resourced f n) { sections = resourced_sections f (cut_cell c.id n.sections); bin = n.bin ++ d ∷ [] }) (own f c p.0.0),
  ),
)

match-restore_cell : (f : Cell → List ℕ) (n : Parts) (section index : ℕ) (o : Option Cell) (Q : Type 0) → Matches f (Q × HaveSourcesOf f (restored n.next_cell o)) (restore_cell n section index o) (restore_cell (resourced f n) section index o)
match-restore_cell f n section index None Q = refl
match-restore_cell f n section index (Some c) Q =
    let r : Cell = renumbered n.next_cell c in
    let P : Type 0 = Q × HaveSourcesOf f (r ∷ []) in
    let left : Parts = record n { bin = but_cell c.id n.bin; next_cell = n.next_cell + 1 } in
    match-room f P (is_full n c.kind) (is_full (resourced f n) c.kind) (place_cell left n.sections section index r (NewCell n.next_cell)) (place_cell (resourced f left) (resourced_sections f n.sections) section index r (NewCell n.next_cell)) (full-same f n c.kind)
    (match-place f P left n.sections section index r r (NewCell n.next_cell) (λ p. sym (own f r p.1.0)))

match-move_cell : (f : Cell → List ℕ) (P : Type 0) (n : Parts) (section index : ℕ) (o : Option Cell) → Matches f P (move_cell n section index o) (move_cell (resourced f n) section index (option_map (resourced_cell f) o))
match-move_cell f P n section index None = refl
match-move_cell f P n section index (Some c) =
    subst (λ (ss : List Section). Matches f P (place_cell n (cut_cell c.id n.sections) section index c Plain) (place_cell (resourced f n) ss section index (resourced_cell f c) Plain)) (sym (cut-same f c.id n.sections))
    (match-place f P n (cut_cell c.id n.sections) section index c (resourced_cell f c) Plain (λ _. refl))

found-same : (f : Cell → List ℕ) (n : Parts) (id : ℕ) → found id (section_cells (resourced f n)) ≡ option_map (resourced_cell f) (found id (section_cells n))
found-same f n id = ap (found id) (section_cells-resourced f n.sections) ∙ found-resourced_cells f id (section_cells n)

-- the cells of which f is asked to give the own source
abbrev pub AreOwn : (Cell → List ℕ) → Parts → Change → Type 0
AreOwn f n asked = HaveSourcesOf f (gone_cells n asked) × HaveSourcesOf f (made_cells n asked)

change-matches : (f : Cell → List ℕ) (n : Parts) (asked : Change) → Matches f (AreOwn f n asked) (change n asked) (change (resourced f n) asked)
change-matches f n (SetName name) = (record (resourced f n) { name = name }, (refl, λ _. refl))
change-matches f n (InsertSection index name) = match-insert_section f (AreOwn f n (InsertSection index name)) n index name
change-matches f n (SetSectionName section name) = match-set_section_name f (AreOwn f n (SetSectionName section name)) n section name
change-matches f n (DeleteSection section) = match-delete_section f n section (HaveSourcesOf f [])
change-matches f n (MoveSection section index) =
    subst (λ (o : Option Section). Matches f (AreOwn f n (MoveSection section index)) (move_section n index (find (is_section section) n.sections)) (move_section (resourced f n) index o)) (sym (find-same f section n.sections)) (match-move_section f (AreOwn f n (MoveSection section index)) n index (find (is_section section) n.sections))
change-matches f n (SetParent section parent) = match-set_parent f (AreOwn f n (SetParent section parent)) n section parent
change-matches f n (InsertCell section index kind) = match-insert_cell f n section index (kind_of kind) (HaveSourcesOf f [])
change-matches f n (DeleteCell cell) =
    subst (λ (o : Option Cell). Matches f (AreOwn f n (DeleteCell cell)) (delete_cell n (found cell (section_cells n))) (delete_cell (resourced f n) o)) (sym (found-same f n cell)) (match-delete_cell f n (found cell (section_cells n)) (HaveSourcesOf f []))
change-matches f n (RestoreCell cell section index) = match-restore_cell f n section index (found cell n.bin) (HaveSourcesOf f [])
change-matches f n (MoveCell cell section index) =
    subst (λ (o : Option Cell). Matches f (AreOwn f n (MoveCell cell section index)) (move_cell n section index (found cell (section_cells n))) (move_cell (resourced f n) section index o)) (sym (found-same f n cell)) (match-move_cell f (AreOwn f n (MoveCell cell section index)) n section index (found cell (section_cells n)))

-- the laws for the layers above
pub change-resourced : (f : Cell → List ℕ) (n m : Parts) (asked : Change) (made : Changed) → HaveSourcesOf f (gone_cells n asked) → HaveSourcesOf f (made_cells n asked) → change n asked ≡ Makes m made → change (resourced f n) asked ≡ Makes (resourced f m) made
change-resourced f n m asked made gone new e =
    let t = subst (λ (a : Attempt). Matches f (AreOwn f n asked) a (change (resourced f n) asked)) e (change-matches f n asked) in
    t.1.0 ∙ ap (λ p. Makes p made) (t.1.1 (gone, new))

pub change-refused : (f : Cell → List ℕ) (n : Parts) (asked : Change) (e : NoteError) → change n asked ≡ Fails e → change (resourced f n) asked ≡ Fails e
change-refused f n asked e is = subst (λ (a : Attempt). Matches f (AreOwn f n asked) a (change (resourced f n) asked)) is (change-matches f n asked)
