-- What the first of the items make, while the others are still to be put.
use Rattle.std.proofs.Common.{◌≡◌, ℕ, ◌+◌, ◌<◌, ◌≤◌, ◌^◌, List, ◌++◌, length, take, drop, sym, ap, ◌∙◌, arith}
use Rattle.std.specs.List.{fold}
use Rattle.std.proofs.lemmas.List.{map-append, take-append-drop}
use Rattle.notebook.specs.Book.{section_cells}
use Rattle.livemd_format.specs.Accepts.{HasFewSections, HasFewCells}
use Rattle.livemd_format.specs.Walk.{Draft, new_draft, with_item}
use Rattle.livemd_read.specs.declared.draft.Draft as code
use Rattle.livemd_read.specs.declared.items.Item.{Item}
use Rattle.livemd_read.specs.Views.{draft_of, item_of, views}
use Rattle.livemd_read.proofs.Growing.{sections-front, cells-front}
use Rattle.livemd_read.proofs.Numbering.{IsDraft-items, next_cell-is, next_section-is}

split : (xs : List Item) (i : ℕ) → views (take i xs) ++ views (drop i xs) ≡ views xs
split xs i = sym (map-append item_of (take i xs) (drop i xs)) ∙ ap views (take-append-drop i xs)

pub few_next_section : (xs : List Item) (i : ℕ) (d : code.Draft) → draft_of d ≡ fold with_item new_draft (views (take i xs)) → HasFewSections (fold with_item new_draft (views xs)).parts → d.parts.next_section < 2 ^ 63
few_next_section xs i d e few =
    let e1 : Draft = fold with_item new_draft (views (take i xs)) in
    let grows : length e1.parts.sections ≤ length (fold with_item new_draft (views (take i xs) ++ views (drop i xs))).parts.sections = sections-front new_draft (views (take i xs)) (views (drop i xs)) in
    let same : length (fold with_item new_draft (views (take i xs) ++ views (drop i xs))).parts.sections ≡ length (fold with_item new_draft (views xs)).parts.sections = ap (λ is. length (fold with_item new_draft is).parts.sections) (split xs i) in
    let next : e1.parts.next_section ≡ length e1.parts.sections + 1 = next_section-is e1 (IsDraft-items (views (take i xs))) in
    let here : d.parts.next_section ≡ e1.parts.next_section = ap (λ (c : Draft). c.parts.next_section) e in
    omega (arith, few)

pub few_next_cell : (xs : List Item) (i : ℕ) (d : code.Draft) → draft_of d ≡ fold with_item new_draft (views (take i xs)) → HasFewCells (fold with_item new_draft (views xs)).parts → d.parts.next_cell < 2 ^ 63
few_next_cell xs i d e few =
    let e1 : Draft = fold with_item new_draft (views (take i xs)) in
    let grows : length (section_cells e1.parts) ≤ length (section_cells (fold with_item new_draft (views (take i xs) ++ views (drop i xs))).parts) = cells-front new_draft (views (take i xs)) (views (drop i xs)) in
    let same : length (section_cells (fold with_item new_draft (views (take i xs) ++ views (drop i xs))).parts) ≡ length (section_cells (fold with_item new_draft (views xs)).parts) = ap (λ is. length (section_cells (fold with_item new_draft is).parts)) (split xs i) in
    let next : e1.parts.next_cell ≡ length (section_cells e1.parts) + 1 = next_cell-is e1 (IsDraft-items (views (take i xs))) in
    let here : d.parts.next_cell ≡ e1.parts.next_cell = ap (λ (c : Draft). c.parts.next_cell) e in
    let most : length (section_cells (fold with_item new_draft (views xs)).parts) ≤ 4000 = few.cells in
    omega arith
