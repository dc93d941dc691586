-- Laws on notebooks whose cells are given sources: which cells there are, and what stays.
use Rattle.std.proofs.Common.{◌≡◌, ℕ, ◌+◌, Bool, true, false, List, [], ◌∷◌, ◌++◌, Option, Some, None, length, get_or, map, refl, sym, ap, ◌∙◌, arith, subst, eqb-true, suc, zero}
use Rattle.std.specs.Prelude.{◌==◌, if◌then◌else◌, Contains}
use Rattle.std.specs.List.{flat_map, AllByRecursion}
use Rattle.std.specs.Option.{option_map}
use Rattle.std.proofs.lemmas.List.{map-append}
use Rattle.notebook.specs.declared.parts.Cell.{Cell}
use Rattle.notebook.specs.declared.parts.Section.{Section}
use Rattle.notebook.specs.declared.parts.Parts.{Parts}
use Rattle.notebook.specs.Book.{cells, section_cells, cells_of, found, resourced_cell, resourced_cells, resourced_sections, resourced, source_for, with_source}
use Rattle.notebook.proofs.Finding.{none-front, none-back}
use Rattle.notebook.specs.Rules.{IsNotebook, cell_number, section_number, AreDistinct, IsSectionCell, IsBelow, IsParentAmong, ParentsStand, code_count, code_weight, numbered_cells}

-- over lists that are joined
pub resourced_cells-append : (f : Cell → List ℕ) (xs ys : List Cell) → resourced_cells f (xs ++ ys) ≡ resourced_cells f xs ++ resourced_cells f ys
resourced_cells-append f [] ys = refl
resourced_cells-append f (x ∷ xs) ys = ap (λ cs. resourced_cell f x ∷ cs) (resourced_cells-append f xs ys)

pub resourced_sections-append : (f : Cell → List ℕ) (xs ys : List Section) → resourced_sections f (xs ++ ys) ≡ resourced_sections f xs ++ resourced_sections f ys
resourced_sections-append f [] ys = refl
resourced_sections-append f (x ∷ xs) ys = ap (λ ss. record x { cells = resourced_cells f x.cells } ∷ ss) (resourced_sections-append f xs ys)

-- the cells of a resourced notebook
pub section_cells-resourced : (f : Cell → List ℕ) (ss : List Section) → flat_map cells_of (resourced_sections f ss) ≡ resourced_cells f (flat_map cells_of ss)
section_cells-resourced f [] = refl
section_cells-resourced f (s ∷ ss) =
    ap (λ cs. resourced_cells f s.cells ++ cs) (section_cells-resourced f ss) ∙ sym (resourced_cells-append f s.cells (flat_map cells_of ss))

pub cells-resourced : (f : Cell → List ℕ) (n : Parts) → cells (resourced f n) ≡ resourced_cells f (cells n)
cells-resourced f n = ap (λ cs. resourced_cell f n.setup ∷ cs) (section_cells-resourced f n.sections)

-- what is found in it
pub found-resourced_cells : (f : Cell → List ℕ) (id : ℕ) (cs : List Cell) → found id (resourced_cells f cs) ≡ option_map (resourced_cell f) (found id cs)
found-resourced_cells f id [] = refl
found-resourced_cells f id (c ∷ cs) =
    elim (c.id == id)
    as (λ b. (if b then Some (resourced_cell f c) else found id (resourced_cells f cs)) ≡ option_map (resourced_cell f) (if b then Some c else found id cs))
    [ true ↦ refl | false ↦ found-resourced_cells f id cs ]

pub found-resourced : (f : Cell → List ℕ) (id : ℕ) (n : Parts) → found id (cells (resourced f n)) ≡ option_map (resourced_cell f) (found id (cells n))
found-resourced f id n = ap (found id) (cells-resourced f n) ∙ found-resourced_cells f id (cells n)

-- the numbers stay
pub cell_numbers-resourced : (f : Cell → List ℕ) (cs more : List Cell) → map cell_number (resourced_cells f cs ++ more) ≡ map cell_number (cs ++ more)
cell_numbers-resourced f [] more = refl
cell_numbers-resourced f (c ∷ cs) more = ap (λ ns. c.id ∷ ns) (cell_numbers-resourced f cs more)

pub cell_numbers-resourced_cells : (f : Cell → List ℕ) (cs : List Cell) → map cell_number (resourced_cells f cs) ≡ map cell_number cs
cell_numbers-resourced_cells f [] = refl
cell_numbers-resourced_cells f (c ∷ cs) = ap (λ ns. c.id ∷ ns) (cell_numbers-resourced_cells f cs)

pub section_numbers-resourced : (f : Cell → List ℕ) (ss : List Section) → map section_number (resourced_sections f ss) ≡ map section_number ss
section_numbers-resourced f [] = refl
section_numbers-resourced f (s ∷ ss) = ap (λ ns. s.id ∷ ns) (section_numbers-resourced f ss)

-- a source that each of the cells has already changes nothing
pub resourced_cells-own : (cs : List Cell) → resourced_cells (λ c. c.source) cs ≡ cs
resourced_cells-own [] = refl
resourced_cells-own (c ∷ cs) = ap (λ ds. c ∷ ds) (resourced_cells-own cs)

pub resourced_sections-own : (ss : List Section) → resourced_sections (λ c. c.source) ss ≡ ss
resourced_sections-own [] = refl
resourced_sections-own (s ∷ ss) =
    ap (λ cs. record s { cells = cs } ∷ resourced_sections (λ c. c.source) ss) (resourced_cells-own s.cells)
    ∙ ap (λ ts. s ∷ ts) (resourced_sections-own ss)

pub resourced-own : (n : Parts) → resourced (λ c. c.source) n ≡ n
resourced-own n = ap (λ ss. record n { sections = ss }) (resourced_sections-own n.sections)

-- a source for a number that none of the cells has changes nothing
pub source_for-other : (id : ℕ) (source : List ℕ) (c : Cell) → (c.id == id) ≡ false → resourced_cell (source_for id source) c ≡ c
source_for-other id source c e = ap (λ (b : Bool). record c { source = if b then source else c.source }) e

pub source_for-same : (id : ℕ) (source : List ℕ) (c : Cell) → (c.id == id) ≡ true → resourced_cell (source_for id source) c ≡ record c { source = source }
source_for-same id source c e = ap (λ (b : Bool). record c { source = if b then source else c.source }) e

pub resourced_cells-none : (id : ℕ) (source : List ℕ) (cs : List Cell) → found id cs ≡ None → resourced_cells (source_for id source) cs ≡ cs
resourced_cells-none id source [] e = refl
resourced_cells-none id source (c ∷ cs) e =
    elim (c.id == id)
    as (λ b. (if b then Some c else found id cs) ≡ None → (c.id == id) ≡ b → resourced_cells (source_for id source) (c ∷ cs) ≡ c ∷ cs) [
      | true ↦ λ h same. cc
      | false ↦ λ h other.
          ap (λ d. d ∷ resourced_cells (source_for id source) cs) (source_for-other id source c other) ∙ ap (λ ds. c ∷ ds) (resourced_cells-none id source cs h)
    ]
    e
    refl

pub resourced_sections-none : (id : ℕ) (source : List ℕ) (ss : List Section) → found id (flat_map cells_of ss) ≡ None → resourced_sections (source_for id source) ss ≡ ss
resourced_sections-none id source [] e = refl
resourced_sections-none id source (s ∷ ss) e =
    ap (λ cs. record s { cells = cs } ∷ resourced_sections (source_for id source) ss)
    (resourced_cells-none id source s.cells (none-front id s.cells (flat_map cells_of ss) e))
    ∙ ap (λ ts. s ∷ ts) (resourced_sections-none id source ss (none-back id s.cells (flat_map cells_of ss) e))

-- where no live cell has the number, nothing changes
pub with_source-none : (id : ℕ) (source : List ℕ) (n : Parts) → found id (cells n) ≡ None → with_source id source n ≡ n
with_source-none id source n e =
    let setup : found id (n.setup ∷ []) ≡ None = none-front id (n.setup ∷ []) (section_cells n) e in
    let one : resourced_cells (source_for id source) (n.setup ∷ []) ≡ n.setup ∷ [] = resourced_cells-none id source (n.setup ∷ []) setup in
    let first : resourced_cell (source_for id source) n.setup ≡ n.setup = cc in
    let rest : resourced_sections (source_for id source) n.sections ≡ n.sections = resourced_sections-none id source n.sections (none-back id (n.setup ∷ []) (section_cells n) e) in
    ap (λ c. record n { setup = c; sections = resourced_sections (source_for id source) n.sections }) first ∙ ap (λ ss. record n { sections = ss }) rest

-- the rules are kept
kinds-resourced : (f : Cell → List ℕ) (cs more : List Cell) → AllByRecursion IsSectionCell (cs ++ more) → AllByRecursion IsSectionCell (resourced_cells f cs ++ more)
kinds-resourced f [] more h = h
kinds-resourced f (c ∷ cs) more h = (h.0, kinds-resourced f cs more h.1)

pub length-resourced : (f : Cell → List ℕ) (cs : List Cell) → length (resourced_cells f cs) ≡ length cs
length-resourced f [] = refl
length-resourced f (c ∷ cs) = ap (λ n. suc n) (length-resourced f cs)

pub length-resourced_sections : (f : Cell → List ℕ) (ss : List Section) → length (resourced_sections f ss) ≡ length ss
length-resourced_sections f [] = refl
length-resourced_sections f (s ∷ ss) = ap (λ n. suc n) (length-resourced_sections f ss)

pub code_count-resourced : (f : Cell → List ℕ) (cs : List Cell) → code_count (resourced_cells f cs) ≡ code_count cs
code_count-resourced f [] = refl
code_count-resourced f (c ∷ cs) = ap (λ n. code_weight c.kind + n) (code_count-resourced f cs)

get_or-resourced_sections : (f : Cell → List ℕ) (ss : List Section) (k : ℕ) (d : Section) → get_or (resourced_sections f ss) k (record d { cells = resourced_cells f d.cells }) ≡ record (get_or ss k d) { cells = resourced_cells f (get_or ss k d).cells }
get_or-resourced_sections f [] k d = refl
get_or-resourced_sections f (s ∷ ss) zero d = refl
get_or-resourced_sections f (s ∷ ss) (suc k) d = get_or-resourced_sections f ss k d

contains-resourced : (f : Cell → List ℕ) (ss : List Section) (s : Section) → Contains ss s → Contains (resourced_sections f ss) (record s { cells = resourced_cells f s.cells })
contains-resourced f ss s (k, within, at) =
    (k, rw length-resourced_sections within, get_or-resourced_sections f ss k s ∙ ap (λ (t : Section). record t { cells = resourced_cells f t.cells }) at)

parent-resourced : (f : Cell → List ℕ) (before : List Section) (parent : Option ℕ) → IsParentAmong before parent → IsParentAmong (resourced_sections f before) parent
parent-resourced f before None h = tt
parent-resourced f before (Some parent) (s, (here, is)) = (record s { cells = resourced_cells f s.cells }, (contains-resourced f before s here, is))

parents-resourced : (f : Cell → List ℕ) (before ss : List Section) → ParentsStand before ss → ParentsStand (resourced_sections f before) (resourced_sections f ss)
parents-resourced f before [] h = tt
parents-resourced f before (s ∷ ss) h =
    let rest : ParentsStand (resourced_sections f (before ++ s ∷ [])) (resourced_sections f ss) = parents-resourced f (before ++ s ∷ []) ss h.1 in
    (parent-resourced f before s.parent h.0, rw resourced_sections-append at rest)

pub numbers-resourced : (f : Cell → List ℕ) (n : Parts) → map cell_number (numbered_cells (resourced f n)) ≡ map cell_number (numbered_cells n)
numbers-resourced f n =
    ap (λ cs. map cell_number (cs ++ n.bin)) (section_cells-resourced f n.sections) ∙ cell_numbers-resourced f (section_cells n) n.bin

pub IsNotebook-resourced : (f : Cell → List ℕ) (n : Parts) → IsNotebook n → IsNotebook (resourced f n)
IsNotebook-resourced f n h = record {
  setup_number = h.setup_number;
  setup_kind = h.setup_kind;
  kinds = rw section_cells-resourced (kinds-resourced f (section_cells n) n.bin h.kinds);
  cell_numbers = subst (λ (ns : List ℕ). AreDistinct (0 ∷ ns)) (sym (numbers-resourced f n)) h.cell_numbers;
  next_cell = subst (λ (ns : List ℕ). AllByRecursion (IsBelow n.next_cell) (0 ∷ ns)) (sym (numbers-resourced f n)) h.next_cell;
  section_numbers = subst (λ (ns : List ℕ). AreDistinct (0 ∷ ns)) (sym (section_numbers-resourced f n.sections)) h.section_numbers;
  next_section = subst (λ (ns : List ℕ). AllByRecursion (IsBelow n.next_section) (0 ∷ ns)) (sym (section_numbers-resourced f n.sections)) h.next_section;
  parents = parents-resourced f [] n.sections h.parents;
  few_sections = rw length-resourced_sections h.few_sections;
  few_cells = rw (section_cells-resourced, length-resourced) h.few_cells;
  few_code_cells = rw (section_cells-resourced, code_count-resourced) h.few_code_cells;
}

pub IsNotebook-with_source : (id : ℕ) (source : List ℕ) (n : Parts) → IsNotebook n → IsNotebook (with_source id source n)
IsNotebook-with_source id source n h = IsNotebook-resourced (source_for id source) n h

-- where a number that differs from those after it stands, they don't have it
unfound : (id : ℕ) (cs : List Cell) → (¬ Contains (map cell_number cs) id) → found id cs ≡ None
unfound id [] h = refl
unfound id (c ∷ cs) h =
    let rest : found id cs ≡ None = unfound id cs (λ (k, within, at). h (suc k, omega (arith, within), at)) in
    elim (c.id == id)
    as (λ b. (c.id == id) ≡ b → (if b then Some c else found id cs) ≡ None)
    [ true ↦ λ same. absurd (h (0, omega arith, eqb-true c.id id same)) | false ↦ λ other. rest ]
    refl

distinct-back : (xs ys : List ℕ) → AreDistinct (xs ++ ys) → AreDistinct ys
distinct-back [] ys h = h
distinct-back (x ∷ xs) ys h = distinct-back xs ys h.1

-- of cells with numbers of their own, none after one of them has its number
pub unfound-after : (front back : List Cell) (c : Cell) (id : ℕ) → c.id ≡ id → AreDistinct (map cell_number (front ++ c ∷ back)) → found id back ≡ None
unfound-after front back c id same h =
    let apart : AreDistinct (map cell_number (c ∷ back)) = distinct-back (map cell_number front) (map cell_number (c ∷ back)) (rw map-append at h) in
    let none : ¬ Contains (map cell_number back) c.id = apart.0 in
    unfound id back (subst (λ (k : ℕ). ¬ Contains (map cell_number back) k) same none)

-- the live cells have the numbers that they had
pub live_numbers-resourced : (f : Cell → List ℕ) (n : Parts) → map cell_number (cells (resourced f n)) ≡ map cell_number (cells n)
live_numbers-resourced f n = ap (map cell_number) (cells-resourced f n) ∙ cell_numbers-resourced_cells f (cells n)
