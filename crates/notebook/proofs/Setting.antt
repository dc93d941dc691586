-- Writing one cell's source, as the notebook in which the cell of the number has it.
use Rattle.std.proofs.Common.{◌≡◌, ℕ, ◌<◌, true, false, List, [], ◌∷◌, ◌++◌, Some, None, length, get_or, set, map, refl, sym, ap, ◌∙◌, arith, eq-eqb, length-append, append_assoc}
use Rattle.std.specs.Prelude.{◌==◌, slice_get, slice_set}
use Rattle.std.specs.List.{flat_map}
use Rattle.std.proofs.lemmas.Grind.{flat_map-append}
use Rattle.std.proofs.lemmas.Option.{get_or_from_slice_get}
use Rattle.std.proofs.Math.Seq.{set-append_seam}
use Rattle.notebook.specs.declared.parts.Cell.{Cell}
use Rattle.notebook.specs.declared.parts.Section.{Section}
use Rattle.notebook.specs.declared.parts.Parts.{Parts}
use Rattle.notebook.specs.Book.{cells, section_cells, cells_of, found, resourced_cell, resourced_cells, resourced_sections, source_for, with_source}
use Rattle.notebook.specs.Places.{IsCellAt, IsPlace}
use Rattle.notebook.specs.Rules.{IsNotebook, cell_number, AreDistinct, numbered_cells}
use Rattle.notebook.proofs.Finding.{none-front, none-back, found-place, here-cell, here-section}
use Rattle.notebook.proofs.Sources.{resourced_cells-append, resourced_sections-append, resourced_cells-none, resourced_sections-none, source_for-same, source_for-other, unfound-after}

-- a place is within its list
within-cells : (cs : List Cell) (id i : ℕ) → IsCellAt cs id i → i < length cs
within-cells cs id i p = rw (p.parts, p.place, length-append) (omega arith)

pub within-sections : (ss : List Section) (id i j : ℕ) → IsPlace ss id i j → i < length ss
within-sections ss id i j p = rw (p.parts, p.place, length-append) (omega arith)

pub within-home : (ss : List Section) (id i j : ℕ) (s : Section) → IsPlace ss id i j → slice_get ss i ≡ Some s → j < length s.cells
within-home ss id i j s p at =
    let home : s ≡ p.home = sym (get_or_from_slice_get ss i s s at) ∙ here-section ss id i j p s in
    rw home (within-cells p.home.cells id j p.inside)

-- the first cell of the number with the source, in a list with numbers of its own
cell-set : (cs : List Cell) (id i : ℕ) (source : List ℕ) (d : Cell) (p : IsCellAt cs id i) → found id p.back ≡ None → d ≡ p.cell → slice_set cs i (record d { source = source }) ≡ resourced_cells (source_for id source) cs
cell-set cs id i source d p after same =
    let f : Cell → List ℕ = source_for id source in
    let left : set (p.front ++ p.cell ∷ p.back) (length p.front) (record d { source = source }) ≡ p.front ++ record d { source = source } ∷ p.back = set-append_seam p.front p.cell p.back (record d { source = source }) in
    let cell : record d { source = source } ≡ resourced_cell f p.cell =
    ap (λ (e : Cell). record e { source = source }) same ∙ sym (source_for-same id source p.cell (eq-eqb p.cell.id id p.number)) in
    let front : resourced_cells f p.front ≡ p.front = resourced_cells-none id source p.front p.first in
    let back : resourced_cells f p.back ≡ p.back = resourced_cells-none id source p.back after in
    let right : resourced_cells f (p.front ++ p.cell ∷ p.back) ≡ resourced_cells f p.front ++ resourced_cell f p.cell ∷ resourced_cells f p.back = resourced_cells-append f p.front (p.cell ∷ p.back) in
    let parts : cs ≡ p.front ++ p.cell ∷ p.back = p.parts in
    let place : i ≡ length p.front = p.place in
    rw (parts, place, left, right, front, back, cell) refl

-- no later cell has the number
pub home-back : (n : Parts) (id i j : ℕ) (p : IsPlace n.sections id i j) → IsNotebook n → found id (p.inside.back ++ (flat_map cells_of p.back ++ n.bin)) ≡ None
home-back n id i j p h =
    let here : flat_map cells_of n.sections ≡ flat_map cells_of p.front ++ (p.home.cells ++ flat_map cells_of p.back) =
    ap (λ ss. flat_map cells_of ss) p.parts ∙ flat_map-append cells_of p.front (p.home ∷ p.back) in
    let inner : p.home.cells ≡ p.inside.front ++ p.inside.cell ∷ p.inside.back = p.inside.parts in
    let all : numbered_cells n ≡ (flat_map cells_of p.front ++ p.inside.front) ++ p.inside.cell ∷ (p.inside.back ++ (flat_map cells_of p.back ++ n.bin)) =
    rw (here, inner) (simp append_assoc) in
    let apart : AreDistinct (map cell_number (numbered_cells n)) = h.cell_numbers.1 in
    unfound-after _ _ p.inside.cell id p.inside.number (rw all at apart)

pub place-set : (n : Parts) (id i j : ℕ) (source : List ℕ) (s : Section) (d : Cell) → IsNotebook n → (n.setup.id == id) ≡ false → IsPlace n.sections id i j → slice_get n.sections i ≡ Some s → slice_get s.cells j ≡ Some d → record n { sections = slice_set n.sections i (record s { cells = slice_set s.cells j (record d { source = source }) }) } ≡ with_source id source n
place-set n id i j source s d h other p at in_home =
    let f : Cell → List ℕ = source_for id source in
    let after : found id (p.inside.back ++ (flat_map cells_of p.back ++ n.bin)) ≡ None = home-back n id i j p h in
    let later : found id (flat_map cells_of p.back) ≡ None = none-front id (flat_map cells_of p.back) n.bin (none-back id p.inside.back (flat_map cells_of p.back ++ n.bin) after) in
    let home : s ≡ p.home = sym (get_or_from_slice_get n.sections i s s at) ∙ here-section n.sections id i j p s in
    let cell : d ≡ p.inside.cell =
    sym (get_or_from_slice_get s.cells j d d in_home) ∙ (ap (λ (t : Section). get_or t.cells j d) home ∙ here-cell p.home.cells id j p.inside d) in
    let cells : slice_set p.home.cells j (record d { source = source }) ≡ resourced_cells f p.home.cells =
    cell-set p.home.cells id j source d p.inside (none-front id p.inside.back (flat_map cells_of p.back ++ n.bin) after) cell in
    let there : record s { cells = slice_set s.cells j (record d { source = source }) } ≡ record p.home { cells = resourced_cells f p.home.cells } =
    ap (λ (t : Section). record t { cells = slice_set t.cells j (record d { source = source }) }) home ∙ ap (λ cs. record p.home { cells = cs }) cells in
    let left : set (p.front ++ p.home ∷ p.back) (length p.front) (record p.home { cells = resourced_cells f p.home.cells }) ≡ p.front ++ record p.home { cells = resourced_cells f p.home.cells } ∷ p.back =
    set-append_seam p.front p.home p.back (record p.home { cells = resourced_cells f p.home.cells }) in
    let front : resourced_sections f p.front ≡ p.front = resourced_sections-none id source p.front p.first in
    let back : resourced_sections f p.back ≡ p.back = resourced_sections-none id source p.back later in
    let right : resourced_sections f (p.front ++ p.home ∷ p.back) ≡ resourced_sections f p.front ++ record p.home { cells = resourced_cells f p.home.cells } ∷ resourced_sections f p.back =
    resourced_sections-append f p.front (p.home ∷ p.back) in
    let parts : n.sections ≡ p.front ++ p.home ∷ p.back = p.parts in
    let place : i ≡ length p.front = p.place in
    let both : slice_set n.sections i (record s { cells = slice_set s.cells j (record d { source = source }) }) ≡ resourced_sections f n.sections =
    ap (λ t. slice_set n.sections i t) there ∙ (ap (λ (ss : List Section). slice_set ss i (record p.home { cells = resourced_cells f p.home.cells })) parts ∙ rw (place, left) (sym (ap (λ ss. resourced_sections f ss) parts ∙ rw (right, front, back) refl))) in
    let setup : resourced_cell f n.setup ≡ n.setup = source_for-other id source n.setup other in
    ap (λ ss. record n { sections = ss }) both ∙ ap (λ c. record n { setup = c; sections = resourced_sections f n.sections }) (sym setup)

-- the setup cell's source, whose number no other cell has
pub setup-set : (n : Parts) (id : ℕ) (source : List ℕ) → IsNotebook n → n.setup.id ≡ id → record n { setup = record n.setup { source = source } } ≡ with_source id source n
setup-set n id source h same =
    let f : Cell → List ℕ = source_for id source in
    let apart : AreDistinct (map cell_number (n.setup ∷ numbered_cells n)) = rw h.setup_number h.cell_numbers in
    let others : found id (section_cells n ++ n.bin) ≡ None = unfound-after [] (numbered_cells n) n.setup id same apart in
    let sections : resourced_sections f n.sections ≡ n.sections = resourced_sections-none id source n.sections (none-front id (section_cells n) n.bin others) in
    let setup : resourced_cell f n.setup ≡ record n.setup { source = source } = source_for-same id source n.setup (eq-eqb n.setup.id id same) in
    ap (λ c. record n { setup = c }) (sym setup) ∙ ap (λ ss. record n { setup = resourced_cell f n.setup; sections = ss }) (sym sections)

-- what the live cells of the number are, by the setup cell and the sections
pub none-live : (n : Parts) (id : ℕ) → (n.setup.id == id) ≡ false → found id (section_cells n) ≡ None → found id (cells n) ≡ None
none-live n id other rest = rw other rest

pub setup-live : (n : Parts) (id : ℕ) → n.setup.id ≡ id → found id (cells n) ≡ Some n.setup
setup-live n id same = let e : (n.setup.id == id) ≡ true = eq-eqb n.setup.id id same in rw e refl

pub place-live : (n : Parts) (id i j : ℕ) → (n.setup.id == id) ≡ false → (p : IsPlace n.sections id i j) → found id (cells n) ≡ Some p.inside.cell
place-live n id i j other p = rw other (found-place n.sections id i j p)

-- the cell that stands at the place is the one that is found
pub at-place : (n : Parts) (ss : List Section) (cs : List Cell) (id i j : ℕ) (s : Section) (c : Cell) → (n.setup.id == id) ≡ false → ss ≡ n.sections → IsPlace ss id i j → s ≡ get_or ss i s → cs ≡ (get_or ss i s).cells → c ≡ get_or cs j c → Some c ≡ found id (cells n)
at-place n ss cs id i j s c other same p in_sections in_home in_cells =
    let home : get_or ss i s ≡ p.home = here-section ss id i j p s in
    let cell : c ≡ p.inside.cell = in_cells ∙ (ap (λ ds. get_or ds j c) (in_home ∙ ap (λ (t : Section). t.cells) home) ∙ here-cell p.home.cells id j p.inside c) in
    let there : found id (flat_map cells_of ss) ≡ Some p.inside.cell = found-place ss id i j p in
    rw other (ap (λ d. Some d) cell ∙ (sym there ∙ ap (λ ts. found id (flat_map cells_of ts)) same))
