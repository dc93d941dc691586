-- How the numbers of sections and of cells grow with each item.
use Rattle.std.proofs.Common.{◌≡◌, ℕ, ◌+◌, ◌<◌, ◌≤◌, max, suc, Bool, true, false, cond, List, [], ◌∷◌, ◌++◌, Option, None, Some, length, map, refl, sym, ap, ◌∙◌, arith, append_assoc, length-append, codes}
use Rattle.std.specs.List.{flat_map, fold}
use Rattle.std.specs.Str.{chars}
use Rattle.std.proofs.lemmas.Grind.{flat_map-append}
use Rattle.std.proofs.lemmas.List.{append-nil, map-append}
use Rattle.std.proofs.lemmas.List.Sums.{fold-append}
use Rattle.notebook.specs.declared.parts.Cell.{Cell}
use Rattle.notebook.specs.declared.parts.Saved.{Saved}
use Rattle.notebook.specs.declared.parts.Section.{Section}
use Rattle.notebook.specs.declared.parts.Parts.{Parts}
use Rattle.notebook.specs.declared.parts.Kind.{Kind}
use Rattle.notebook.specs.declared.parts.Kind.TheVariants as cell
use Rattle.notebook.specs.Book.{cells_of, section_cells}
use Rattle.notebook.specs.Rules.{code_count, code_weight}
use Rattle.blanks.specs.Blanks.{is_empty}
use Rattle.livemd_format.proofs.OneMore.{length-on_last}
use Rattle.livemd_format.specs.Items as item
use Rattle.livemd_format.specs.Made.{stem_at}
use Rattle.livemd_format.specs.Walk.{Draft, add_cell, add_last_output, add_output, on_last, take_branch, with_cell, with_item, with_output, with_section, with_some_section}

-- ---- the last element

-- what a change of the last element doesn't touch
pub map-on_last : {X Y : Type 0} (g : X → Y) (f : X → X) → ((x : X) → g (f x) ≡ g x) → (xs : List X) → map g (on_last f xs) ≡ map g xs
map-on_last g f same [] = refl
map-on_last g f same (x ∷ []) = ap (λ y. y ∷ []) (same x)
map-on_last g f same (x ∷ y ∷ xs) = ap (λ ys. g x ∷ ys) (map-on_last g f same (y ∷ xs))

-- ---- a section where there is none

pub some_section : (n : Parts) → is_empty n.sections ≡ true → with_some_section n ≡ with_section (codes "Section") [] None n
some_section n e = ap (λ (b : Bool). cond b (with_section (codes "Section") [] None n) n) e

pub same_sections : (n : Parts) → is_empty n.sections ≡ false → with_some_section n ≡ n
same_sections n e = ap (λ (b : Bool). cond b (with_section (codes "Section") [] None n) n) e

length-some : (n : Parts) → length (with_some_section n).sections ≡ max (length n.sections) 1
length-some n = at n.sections refl where
  at : (ss : List Section) → n.sections ≡ ss → length (with_some_section n).sections ≡ max (length n.sections) 1
  at [] e = ap (λ (m : Parts). length m.sections) (some_section n (ap is_empty e)) ∙ rw e refl
  at (s ∷ ss) e = ap (λ (m : Parts). length m.sections) (same_sections n (ap is_empty e)) ∙ rw e (omega arith)

pub some_length : (n : Parts) → 0 < length (with_some_section n).sections
some_length n = rw length-some (omega arith)

pub cells-section : (n : Parts) (name : List ℕ) (before : List (List ℕ)) (parent : Option ℕ) → section_cells (with_section name before parent n) ≡ section_cells n
cells-section n name before parent = flat_map-append cells_of n.sections _ ∙ append-nil (section_cells n)

cells-some : (n : Parts) → section_cells (with_some_section n) ≡ section_cells n
cells-some n =
    elim (is_empty n.sections)
    as (λ b. section_cells (cond b (with_section (codes "Section") [] None n) n) ≡ section_cells n)
    [ true ↦ cells-section n (codes "Section") [] None | false ↦ refl ]

pub next_cell-some : (n : Parts) → (with_some_section n).next_cell ≡ n.next_cell
next_cell-some n =
    elim (is_empty n.sections)
    as (λ b. (cond b (with_section (codes "Section") [] None n) n).next_cell ≡ n.next_cell)
    [ true ↦ refl | false ↦ refl ]

-- ---- a cell

abbrev new_cell : Kind → List ℕ → List (List ℕ) → ℕ → Cell
new_cell kind source before id = record { id = id; kind = kind; source = source; before = before; saved = [] }

cells-add_cell : (c : Cell) (ss : List Section) → 0 < length ss → flat_map cells_of (on_last (add_cell c) ss) ≡ flat_map cells_of ss ++ c ∷ []
cells-add_cell c [] h = absurd (omega arith)
cells-add_cell c (s ∷ []) h = append-nil (s.cells ++ c ∷ []) ∙ ap (λ cs. cs ++ c ∷ []) (sym (append-nil s.cells))
cells-add_cell c (s ∷ t ∷ ss) h =
    ap (λ cs. s.cells ++ cs) (cells-add_cell c (t ∷ ss) (omega arith)) ∙ sym (append_assoc s.cells (flat_map cells_of (t ∷ ss)) (c ∷ []))

pub cells-cell : (n : Parts) (kind : Kind) (source : List ℕ) (before : List (List ℕ)) → section_cells (with_cell kind source before (with_some_section n)) ≡ section_cells n ++ new_cell kind source before n.next_cell ∷ []
cells-cell n kind source before =
    cells-add_cell (new_cell kind source before (with_some_section n).next_cell) (with_some_section n).sections (some_length n)
    ∙ (ap (λ cs. cs ++ new_cell kind source before (with_some_section n).next_cell ∷ []) (cells-some n)
    ∙ ap (λ id. section_cells n ++ new_cell kind source before id ∷ []) (next_cell-some n))

-- ---- an output

-- what outputs don't touch in cells
map-add_last_output : {Y : Type 0} (g : Cell → Y) (o : Saved) → ((c : Cell) → g (add_output o c) ≡ g c) → (ss : List Section) → map g (flat_map cells_of (on_last (add_last_output o) ss)) ≡ map g (flat_map cells_of ss)
map-add_last_output g o same [] = refl
map-add_last_output g o same (s ∷ []) =
    map-append g (on_last (add_output o) s.cells) [] ∙ (ap (λ ys. ys ++ []) (map-on_last g (add_output o) same s.cells) ∙ sym (map-append g s.cells []))
map-add_last_output g o same (s ∷ t ∷ ss) =
    map-append g s.cells (flat_map cells_of (on_last (add_last_output o) (t ∷ ss)))
    ∙ (ap (λ ys. map g s.cells ++ ys) (map-add_last_output g o same (t ∷ ss)) ∙ sym (map-append g s.cells (flat_map cells_of (t ∷ ss))))

pub map-output : {Y : Type 0} (g : Cell → Y) (o : Saved) → ((c : Cell) → g (add_output o c) ≡ g c) → (n : Parts) → map g (section_cells (with_output o n)) ≡ map g (section_cells n)
map-output g o same n =
    elim (is_empty n.sections)
    as (λ b. map g (section_cells (cond b (record n { setup = add_output o n.setup }) (record n { sections = on_last (add_last_output o) n.sections }))) ≡ map g (section_cells n))
    [ true ↦ refl | false ↦ map-add_last_output g o same n.sections ]

pub sections-output : (o : Saved) (n : Parts) → length (with_output o n).sections ≡ length n.sections
sections-output o n =
    elim (is_empty n.sections)
    as (λ b. length (cond b (record n { setup = add_output o n.setup }) (record n { sections = on_last (add_last_output o) n.sections })).sections ≡ length n.sections)
    [ true ↦ refl | false ↦ length-on_last (add_last_output o) n.sections ]

-- ---- a branch line

pub branch_parts : (number : ℕ) (o : Option ℕ) (d : Draft) → (take_branch number o d).parts ≡ d.parts
branch_parts number None d = refl
branch_parts number (Some parent) d = refl

-- ---- the kinds of the cells

abbrev cell_kind : Cell → Kind
cell_kind c = c.kind

abbrev cell_kinds : Draft → List Kind
cell_kinds d = map cell_kind (section_cells d.parts)

-- the kinds that an item adds
abbrev pub added : item.Item → List Kind
added (item.Code source) = cell.Code ∷ []
added (item.Markdown source) = cell.Markdown ∷ []
added other = []

kinds-cell : (d : Draft) (kind : Kind) (source : List ℕ) → map cell_kind (section_cells (with_cell kind source d.waiting (with_some_section d.parts))) ≡ cell_kinds d ++ kind ∷ []
kinds-cell d kind source = ap (map cell_kind) (cells-cell d.parts kind source d.waiting) ∙ map-append cell_kind (section_cells d.parts) _

kinds-item : (d : Draft) (i : item.Item) → cell_kinds (with_item d i) ≡ cell_kinds d ++ added i
kinds-item d (item.Name text) = sym (append-nil (cell_kinds d))
kinds-item d (item.Section text) = ap (map cell_kind) (cells-section d.parts (chars text) d.waiting d.parent) ∙ sym (append-nil (cell_kinds d))
kinds-item d (item.Setup source) = sym (append-nil (cell_kinds d))
kinds-item d (item.Code source) = kinds-cell d cell.Code (chars source)
kinds-item d (item.Markdown source) = kinds-cell d cell.Markdown (chars source)
kinds-item d (item.Saved info text) = map-output cell_kind _ (λ c. refl) d.parts ∙ sym (append-nil (cell_kinds d))
kinds-item d (item.Kept line) = sym (append-nil (cell_kinds d))
kinds-item d (item.Stamp line) = sym (append-nil (cell_kinds d))
kinds-item d (item.Branch number index) =
    ap (λ (n : Parts). map cell_kind (section_cells n)) (branch_parts number (stem_at index d.parts.sections) d) ∙ sym (append-nil (cell_kinds d))
kinds-item d item.Dropped = sym (append-nil (cell_kinds d))
kinds-item d (item.Misplaced number) = sym (append-nil (cell_kinds d))

-- the numbers of cells and of code cells, by the kinds
length-map : {X Y : Type 0} (f : X → Y) (xs : List X) → length (map f xs) ≡ length xs
length-map f [] = refl
length-map f (x ∷ xs) = ap (λ n. suc n) (length-map f xs)

pub cell_count-item : (d : Draft) (i : item.Item) → length (section_cells (with_item d i).parts) ≡ length (section_cells d.parts) + length (added i)
cell_count-item d i =
    sym (length-map cell_kind (section_cells (with_item d i).parts))
    ∙ (ap length (kinds-item d i) ∙ (length-append (cell_kinds d) (added i) ∙ ap (λ n. n + length (added i)) (length-map cell_kind (section_cells d.parts))))

abbrev pub codes_in : List Kind → ℕ
codes_in [] = 0
codes_in (k ∷ ks) = code_weight k + codes_in ks

codes_in-append : (ks js : List Kind) → codes_in (ks ++ js) ≡ codes_in ks + codes_in js
codes_in-append [] js = omega arith
codes_in-append (k ∷ ks) js = let e : codes_in (ks ++ js) ≡ codes_in ks + codes_in js = codes_in-append ks js in omega arith

codes_in-kinds : (cs : List Cell) → codes_in (map cell_kind cs) ≡ code_count cs
codes_in-kinds [] = refl
codes_in-kinds (c ∷ cs) = ap (λ n. code_weight c.kind + n) (codes_in-kinds cs)

pub code_count-item : (d : Draft) (i : item.Item) → code_count (section_cells (with_item d i).parts) ≡ code_count (section_cells d.parts) + codes_in (added i)
code_count-item d i =
    sym (codes_in-kinds (section_cells (with_item d i).parts))
    ∙ (ap codes_in (kinds-item d i) ∙ (codes_in-append (cell_kinds d) (added i) ∙ ap (λ n. n + codes_in (added i)) (codes_in-kinds (section_cells d.parts))))

-- ---- the number of sections

-- after an item
abbrev pub sections_after : ℕ → item.Item → ℕ
sections_after n (item.Section text) = n + 1
sections_after n (item.Code source) = max n 1
sections_after n (item.Markdown source) = max n 1
sections_after n other = n

pub section_count-item : (d : Draft) (i : item.Item) → length (with_item d i).parts.sections ≡ sections_after (length d.parts.sections) i
section_count-item d (item.Name text) = refl
section_count-item d (item.Section text) = length-append d.parts.sections _
section_count-item d (item.Setup source) = refl
section_count-item d (item.Code source) = length-on_last _ (with_some_section d.parts).sections ∙ length-some d.parts
section_count-item d (item.Markdown source) = length-on_last _ (with_some_section d.parts).sections ∙ length-some d.parts
section_count-item d (item.Saved info text) = sections-output _ d.parts
section_count-item d (item.Kept line) = refl
section_count-item d (item.Stamp line) = refl
section_count-item d (item.Branch number index) = ap (λ (n : Parts). length n.sections) (branch_parts number (stem_at index d.parts.sections) d)
section_count-item d item.Dropped = refl
section_count-item d (item.Misplaced number) = refl

not_fewer : (n : ℕ) (i : item.Item) → n ≤ sections_after n i
not_fewer n (item.Name text) = omega arith
not_fewer n (item.Section text) = omega arith
not_fewer n (item.Setup source) = omega arith
not_fewer n (item.Code source) = omega arith
not_fewer n (item.Markdown source) = omega arith
not_fewer n (item.Saved info text) = omega arith
not_fewer n (item.Kept line) = omega arith
not_fewer n (item.Stamp line) = omega arith
not_fewer n (item.Branch number index) = omega arith
not_fewer n item.Dropped = omega arith
not_fewer n (item.Misplaced number) = omega arith

-- more items don't make fewer sections or cells
sections-fold : (d : Draft) (is : List item.Item) → length d.parts.sections ≤ length (fold with_item d is).parts.sections
sections-fold d [] = omega arith
sections-fold d (i ∷ is) = omega (arith, section_count-item d i, not_fewer (length d.parts.sections) i, sections-fold (with_item d i) is)

cells-fold : (d : Draft) (is : List item.Item) → length (section_cells d.parts) ≤ length (section_cells (fold with_item d is).parts)
cells-fold d [] = omega arith
cells-fold d (i ∷ is) = omega (arith, cell_count-item d i, cells-fold (with_item d i) is)

pub sections-front : (d : Draft) (is js : List item.Item) → length (fold with_item d is).parts.sections ≤ length (fold with_item d (is ++ js)).parts.sections
sections-front d is js = rw fold-append (sections-fold (fold with_item d is) js)

pub cells-front : (d : Draft) (is js : List item.Item) → length (section_cells (fold with_item d is).parts) ≤ length (section_cells (fold with_item d (is ++ js)).parts)
cells-front d is js = rw fold-append (cells-fold (fold with_item d is) js)
