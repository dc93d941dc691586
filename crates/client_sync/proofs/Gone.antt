-- Which numbers a change takes away.
use Rattle.std.proofs.Common.{◌≡◌, ℕ, ◌==◌, true, false, if◌then◌else◌, List, [], ◌∷◌, Option, Some, None, map, refl, sym, ap, ◌∙◌}
use Rattle.notebook.specs.declared.parts.Cell.{Cell}
use Rattle.notebook.specs.declared.parts.Section.{Section}
use Rattle.notebook.specs.declared.parts.Parts.{Parts}
use Rattle.notebook.specs.declared.change.Changed.{Changed}
use Rattle.notebook.specs.declared.change.Change.TheVariants.{DeleteCell, DeleteSection}
use Rattle.notebook.specs.Book.{found, section_cells, resourced_cells, resourced_sections, resourced}
use Rattle.notebook.specs.Change.{Makes, change, cells_in, delete_cell}
use Rattle.notebook.specs.Living.{gone_cells, listed}
use Rattle.notebook.specs.Rules.{cell_number}
use Rattle.notebook.proofs.Sources.{cell_numbers-resourced_cells}
use Rattle.session_ops.proofs.Live.{found-number}

-- the numbers of a section's cells, whatever their sources
cells-in-resourced : (f : Cell → List ℕ) (id : ℕ) (ss : List Section) → cells_in id (resourced_sections f ss) ≡ resourced_cells f (cells_in id ss)
cells-in-resourced f id [] = refl
cells-in-resourced f id (s ∷ ss) =
    elim (s.id == id)
    as (λ b. (if b then resourced_cells f s.cells else cells_in id (resourced_sections f ss)) ≡ resourced_cells f (if b then s.cells else cells_in id ss))
    [ true ↦ refl | false ↦ cells-in-resourced f id ss ]

pub section-numbers : (book n : Parts) (own : Cell → List ℕ) (section : ℕ) → book ≡ resourced own n → map cell_number (cells_in section book.sections) ≡ map cell_number (gone_cells n (DeleteSection section))
section-numbers book n own section e =
    ap (λ (b : Parts). map cell_number (cells_in section b.sections)) e
    ∙ (ap (map cell_number) (cells-in-resourced own section n.sections) ∙ cell_numbers-resourced_cells own (cells_in section n.sections))

-- the number of a cell that is deleted
deleted-number : (n n' : Parts) (made : Changed) (cell : ℕ) (o : Option Cell) → found cell (section_cells n) ≡ o → delete_cell n o ≡ Makes n' made → cell ∷ [] ≡ map cell_number (listed o)
deleted-number n n' made cell None e h = absurd (cc h)
deleted-number n n' made cell (Some c) e h = ap (λ i. i ∷ []) (sym (found-number cell (section_cells n) c e))

pub cell-number : (n n' : Parts) (made : Changed) (cell : ℕ) → change n (DeleteCell cell) ≡ Makes n' made → cell ∷ [] ≡ map cell_number (gone_cells n (DeleteCell cell))
cell-number n n' made cell h = deleted-number n n' made cell (found cell (section_cells n)) refl h
