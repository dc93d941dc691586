-- Cells that are taken out.
use Rattle.std.proofs.Common.{◌≡◌, ℕ, ◌<◌, true, false, List, [], ◌∷◌, ◌++◌, Some, None, length, map, refl, sym, ap, ◌∙◌, arith, subst, eq-eqb, length-append, append_assoc}
use Rattle.std.specs.Prelude.{◌==◌, if◌then◌else◌, slice_get, slice_set, remove}
use Rattle.std.specs.List.{flat_map}
use Rattle.std.proofs.lemmas.Option.{get_or_from_slice_get}
use Rattle.std.proofs.Math.Seq.{set-append_seam}
use Rattle.notebook.specs.declared.parts.Cell.{Cell}
use Rattle.notebook.specs.declared.parts.Section.{Section}
use Rattle.notebook.specs.declared.parts.Parts.{Parts}
use Rattle.notebook.specs.Book.{cells_of, found, section_cells}
use Rattle.notebook.specs.Rules.{IsNotebook, AreDistinct, cell_number, numbered_cells}
use Rattle.notebook.specs.Places.{IsCellAt, IsPlace}
use Rattle.notebook.specs.Change.{but_cell, cut_cell}
use Rattle.notebook.proofs.Finding.{none-front, none-back, here-cell, here-section}
use Rattle.notebook.proofs.Sources.{unfound-after}
use Rattle.notebook.proofs.Setting.{home-back}
use Rattle.notebook.proofs.Spots.{remove-seam}

-- cells without the number
pub but_cell-none : (id : ℕ) (cs : List Cell) → found id cs ≡ None → but_cell id cs ≡ cs
but_cell-none id [] h = refl
but_cell-none id (c ∷ cs) h =
    elim (c.id == id)
    as (λ b. (if b then Some c else found id cs) ≡ None → (if b then but_cell id cs else c ∷ but_cell id cs) ≡ c ∷ cs)
    [ true ↦ λ e. absurd (cc e) | false ↦ λ e. ap (λ ds. c ∷ ds) (but_cell-none id cs e) ]
    h

pub cut_cell-none : (id : ℕ) (ss : List Section) → found id (flat_map cells_of ss) ≡ None → cut_cell id ss ≡ ss
cut_cell-none id [] h = refl
cut_cell-none id (s ∷ ss) h =
    ap (λ cs. record s { cells = cs } ∷ cut_cell id ss) (but_cell-none id s.cells (none-front id s.cells (flat_map cells_of ss) h))
    ∙ ap (λ ts. s ∷ ts) (cut_cell-none id ss (none-back id s.cells (flat_map cells_of ss) h))

-- round the one of the number
pub but_cell-seam : (id : ℕ) (front : List Cell) (c : Cell) (back : List Cell) → c.id ≡ id → found id front ≡ None → found id back ≡ None → but_cell id (front ++ c ∷ back) ≡ front ++ back
but_cell-seam id [] c back same h after =
    let here : (c.id == id) ≡ true = eq-eqb c.id id same in
    let rest : but_cell id back ≡ back = but_cell-none id back after in
    rw (here, rest) refl
but_cell-seam id (d ∷ front) c back same h after =
    elim (d.id == id)
    as (λ b. (if b then Some d else found id front) ≡ None → (if b then but_cell id (front ++ c ∷ back) else d ∷ but_cell id (front ++ c ∷ back)) ≡ d ∷ (front ++ back))
    [ true ↦ λ e. absurd (cc e) | false ↦ λ e. ap (λ ds. d ∷ ds) (but_cell-seam id front c back same e after) ]
    h

pub cut_cell-seam : (id : ℕ) (front : List Section) (s : Section) (back : List Section) → found id (flat_map cells_of front) ≡ None → found id (flat_map cells_of back) ≡ None → cut_cell id (front ++ s ∷ back) ≡ front ++ record s { cells = but_cell id s.cells } ∷ back
cut_cell-seam id [] s back h after = ap (λ ts. record s { cells = but_cell id s.cells } ∷ ts) (cut_cell-none id back after)
cut_cell-seam id (t ∷ front) s back h after =
    ap (λ cs. record t { cells = cs } ∷ cut_cell id (front ++ s ∷ back)) (but_cell-none id t.cells (none-front id t.cells (flat_map cells_of front) h))
    ∙ ap (λ ts. t ∷ ts) (cut_cell-seam id front s back (none-back id t.cells (flat_map cells_of front) h) after)

-- by a cell's place
pub but-cell-at : (cs : List Cell) (id j : ℕ) (p : IsCellAt cs id j) → found id p.back ≡ None → but_cell id cs ≡ remove cs j
but-cell-at cs id j p after =
    ap (but_cell id) p.parts
    ∙ (but_cell-seam id p.front p.cell p.back p.number p.first after
    ∙ (sym (remove-seam p.front p.cell p.back)
    ∙ (ap (λ (i : ℕ). remove (p.front ++ p.cell ∷ p.back) i) (sym p.place) ∙ ap (λ (ds : List Cell). remove ds j) (sym p.parts))))

pub place-home : (ss : List Section) (id i j : ℕ) (p : IsPlace ss id i j) (s : Section) → slice_get ss i ≡ Some s → s ≡ p.home
place-home ss id i j p s there = sym (get_or_from_slice_get ss i s s there) ∙ here-section ss id i j p s

pub cell-home : (cs : List Cell) (id j : ℕ) (p : IsCellAt cs id j) (c : Cell) → slice_get cs j ≡ Some c → c ≡ p.cell
cell-home cs id j p c there = sym (get_or_from_slice_get cs j c c there) ∙ here-cell cs id j p c

-- taken out of its section at its place is taken out by the number
pub cut-set : (n : Parts) (id i j : ℕ) (s : Section) → IsNotebook n → IsPlace n.sections id i j → slice_get n.sections i ≡ Some s → slice_set n.sections i (record s { cells = remove s.cells j }) ≡ cut_cell id n.sections
cut-set n id i j s h p there =
    let after : found id (p.inside.back ++ (flat_map cells_of p.back ++ n.bin)) ≡ None = home-back n id i j p h in
    let inner : found id p.inside.back ≡ None = none-front id p.inside.back (flat_map cells_of p.back ++ n.bin) after in
    let later : found id (flat_map cells_of p.back) ≡ None = none-front id (flat_map cells_of p.back) n.bin (none-back id p.inside.back (flat_map cells_of p.back ++ n.bin) after) in
    let home : s ≡ p.home = place-home n.sections id i j p s there in
    let cells : remove p.home.cells j ≡ but_cell id p.home.cells = sym (but-cell-at p.home.cells id j p.inside inner) in
    let one : record s { cells = remove s.cells j } ≡ record p.home { cells = but_cell id p.home.cells } =
    ap (λ (t : Section). record t { cells = remove t.cells j }) home ∙ ap (λ cs. record p.home { cells = cs }) cells in
    ap (λ t. slice_set n.sections i t) one
    ∙ (ap (λ (ts : List Section). slice_set ts i (record p.home { cells = but_cell id p.home.cells })) p.parts
    ∙ (ap (λ (k : ℕ). slice_set (p.front ++ p.home ∷ p.back) k (record p.home { cells = but_cell id p.home.cells })) p.place
    ∙ (set-append_seam p.front p.home p.back (record p.home { cells = but_cell id p.home.cells })
    ∙ (sym (cut_cell-seam id p.front p.home p.back p.first later) ∙ ap (cut_cell id) (sym p.parts)))))

-- taken out of the bin at its place is taken out by the number
pub bin-remove : (n : Parts) (id j : ℕ) → IsNotebook n → IsCellAt n.bin id j → remove n.bin j ≡ but_cell id n.bin
bin-remove n id j h p =
    let all : numbered_cells n ≡ (section_cells n ++ p.front) ++ p.cell ∷ p.back = ap (λ ds. section_cells n ++ ds) p.parts ∙ sym (append_assoc (section_cells n) p.front (p.cell ∷ p.back)) in
    let apart : AreDistinct (map cell_number (numbered_cells n)) = h.cell_numbers.1 in
    let after : found id p.back ≡ None = unfound-after (section_cells n ++ p.front) p.back p.cell id p.number (subst (λ (ds : List Cell). AreDistinct (map cell_number ds)) all apart) in
    sym (but-cell-at n.bin id j p after)

pub within-bin : (cs : List Cell) (id j : ℕ) → IsCellAt cs id j → j < length cs
within-bin cs id j p = rw (p.parts, p.place, length-append) (omega arith)
