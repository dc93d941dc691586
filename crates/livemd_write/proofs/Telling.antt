-- What a book is told of a notebook has the same tidy form, and so is read as it.
use Rattle.std.proofs.Common.{◌≡◌, ℕ, ◌+◌, ◌≤◌, suc, zero, cond, List, [], ◌∷◌, ◌++◌, Option, None, Some, length, drop, map, filter, refl, sym, ap, ◌∙◌, subst, arith}
use Rattle.std.specs.Prelude.{◌==◌, Contains, option_map}
use Rattle.std.specs.List.{AllByRecursion, flat_map}
use Rattle.std.proofs.lemmas.List.{map-append}
use Rattle.notebook.specs.declared.parts.Cell.{Cell}
use Rattle.notebook.specs.declared.parts.Kind.{Kind}
use Rattle.notebook.specs.declared.parts.Kind.TheVariants as cell
use Rattle.notebook.specs.declared.parts.Parts.{Parts}
use Rattle.notebook.specs.declared.parts.Saved.{Saved}
use Rattle.notebook.specs.declared.parts.Section.{Section}
use Rattle.notebook.specs.Book.{cells_of, section_cells}
use Rattle.notebook.specs.Rules.{IsNotebook, cell_number, section_number, AreDistinct, IsBelow, IsParentAmong, IsSectionCell, ParentsStand, code_count, code_weight, numbered_cells}
use Rattle.livemd_format.specs.Reads.{Reads}
use Rattle.livemd_format.specs.RoundTrip.{AreTexts, HasPlainInfo, IsPlain, IsPlainCell, IsPlainSection}
use Rattle.livemd_format.specs.Tidy.{number_from, numbered, stays, tidied, tidy_cell, tidy_cells, tidy_outputs, tidy_section, tidy_sections, with_tidy}
use Rattle.livemd_format.specs.Write.{text_of}
use Rattle.livemd_format.proofs.ReadBack.{reads-back}
use Rattle.livemd_format.proofs.Twice.{tidied-twice}
use Rattle.livemd_write.specs.Told.{told, told_cell, told_saved, told_section}
use Rattle.livemd_write.proofs.Tidying.{length-map}

-- what follows from all that are left follows from those behind one, if that one has its fact
pub turn : {X : Type 0} (F : List X → Type 0) (Q : Type 0) (xs : List X) (i : ℕ) (x : X) → drop i xs ≡ x ∷ drop (i + 1) xs → (F (drop i xs) → Q) → (F (drop (i + 1) xs) → F (x ∷ drop (i + 1) xs)) → F (drop (i + 1) xs) → Q
turn F Q xs i x e h one g = h (subst F (sym e) (one g))

-- ---- the tidy form stays

same_outputs : (k : Kind) (os : List Saved) → tidy_outputs k (told_saved k os) ≡ tidy_outputs k os
same_outputs cell.Markdown os = refl
same_outputs cell.Code os = refl
same_outputs cell.Setup os = refl

same_cell : (c : Cell) → tidy_cell (told_cell c) ≡ tidy_cell c
same_cell c = ap (λ os. record (tidy_cell c) { saved = os }) (same_outputs c.kind c.saved)

same_cells : (cs : List Cell) → map tidy_cell (map told_cell cs) ≡ map tidy_cell cs
same_cells [] = refl
same_cells (c ∷ cs) = ap (λ d. d ∷ map tidy_cell (map told_cell cs)) (same_cell c) ∙ ap (λ ds. tidy_cell c ∷ ds) (same_cells cs)

same_number : (next id : ℕ) (ss : List Section) → number_from next id (map told_section ss) ≡ number_from next id ss
same_number next id [] = refl
same_number next id (s ∷ ss) = ap (λ n. cond (s.id == id) next n) (same_number (suc next) id ss)

same_parent : (all : List Section) (o : Option ℕ) → option_map (λ id. number_from 1 id (map told_section all)) o ≡ option_map (λ id. number_from 1 id all) o
same_parent all None = refl
same_parent all (Some id) = ap Some (same_number 1 id all)

same_section : (all : List Section) (number next : ℕ) (s : Section) → tidy_section (map told_section all) number next (told_section s) ≡ tidy_section all number next s
same_section all number next s =
    ap (λ o. record (tidy_section all number next s) { parent = o; cells = numbered next (tidy_cells (map told_cell s.cells)) }) (same_parent all s.parent)
    ∙ ap (λ cs. record (tidy_section all number next s) { cells = numbered next (filter stays cs) }) (same_cells s.cells)

same_sections : (all : List Section) (number next : ℕ) (ss : List Section) → tidy_sections (map told_section all) number next (map told_section ss) ≡ tidy_sections all number next ss
same_sections all number next [] = refl
same_sections all number next (s ∷ ss) =
    ap (λ t. t ∷ tidy_sections (map told_section all) (suc number) (next + length (tidy_cells (map told_cell s.cells))) (map told_section ss)) (same_section all number next s)
    ∙ (ap (λ cs. tidy_section all number next s ∷ tidy_sections (map told_section all) (suc number) (next + length (filter stays cs)) (map told_section ss)) (same_cells s.cells)
    ∙ ap (λ ts. tidy_section all number next s ∷ ts) (same_sections all (suc number) (next + length (tidy_cells s.cells)) ss))

told_same : (n : Parts) → tidied (told n) ≡ tidied n
told_same n =
    ap (λ ss. with_tidy ss (told n)) (same_sections n.sections 1 1 n.sections)
    ∙ ap (λ c. record (tidied n) { setup = c }) (same_cell n.setup)

-- ---- the rules stay

told_cells : (ss : List Section) → flat_map cells_of (map told_section ss) ≡ map told_cell (flat_map cells_of ss)
told_cells [] = refl
told_cells (s ∷ ss) = ap (λ cs. map told_cell s.cells ++ cs) (told_cells ss) ∙ sym (map-append told_cell s.cells (flat_map cells_of ss))

-- facts of the cells' numbers and kinds alone
kinds_told : (cs ds : List Cell) → AllByRecursion IsSectionCell (cs ++ ds) → AllByRecursion IsSectionCell (map told_cell cs ++ ds)
kinds_told [] ds h = h
kinds_told (c ∷ cs) ds h = (h.0, kinds_told cs ds h.1)

numbers_told : (cs ds : List Cell) → map cell_number (map told_cell cs ++ ds) ≡ map cell_number (cs ++ ds)
numbers_told [] ds = refl
numbers_told (c ∷ cs) ds = ap (λ ns. c.id ∷ ns) (numbers_told cs ds)

code_told : (cs : List Cell) → code_count (map told_cell cs) ≡ code_count cs
code_told [] = refl
code_told (c ∷ cs) = ap (λ n. code_weight c.kind + n) (code_told cs)

section_numbers_told : (ss : List Section) → map section_number (map told_section ss) ≡ map section_number ss
section_numbers_told [] = refl
section_numbers_told (s ∷ ss) = ap (λ ns. s.id ∷ ns) (section_numbers_told ss)

there_told : (ss : List Section) (s : Section) → Contains ss s → Contains (map told_section ss) (told_section s)
there_told [] s (i, within, at) = absurd (omega arith)
there_told (t ∷ ss) s (zero, within, at) = (zero, omega arith, ap told_section at)
there_told (t ∷ ss) s (suc i, within, at) = let r = there_told ss s (i, omega arith, at) in (suc r.0, omega (arith, r.1), r.2)

among_told : (front : List Section) (o : Option ℕ) → IsParentAmong front o → IsParentAmong (map told_section front) o
among_told front None h = tt
among_told front (Some id) (s, (there, (i, p))) = (told_section s, (there_told front s there, (i, p)))

parents_told : (front ss : List Section) → ParentsStand front ss → ParentsStand (map told_section front) (map told_section ss)
parents_told front [] h = tt
parents_told front (s ∷ ss) h = (among_told front s.parent h.0, subst (λ us. ParentsStand us (map told_section ss)) (map-append told_section front (s ∷ [])) (parents_told (front ++ s ∷ []) ss h.1))

told_rules : (n : Parts) → IsNotebook n → IsNotebook (told n)
told_rules n r =
    let all : section_cells (told n) ≡ map told_cell (section_cells n) = told_cells n.sections in
    let numbers : map cell_number (numbered_cells (told n)) ≡ map cell_number (numbered_cells n) = ap (λ cs. map cell_number (cs ++ n.bin)) all ∙ numbers_told (section_cells n) n.bin in
    let sections : map section_number (map told_section n.sections) ≡ map section_number n.sections = section_numbers_told n.sections in
    let count : length (map told_section n.sections) ≡ length n.sections = length-map told_section n.sections in
    let count_cells : length (section_cells (told n)) ≡ length (section_cells n) = ap length all ∙ length-map told_cell (section_cells n) in
    let count_code : code_count (section_cells (told n)) ≡ code_count (section_cells n) = ap code_count all ∙ code_told (section_cells n) in
    record {
      setup_number = r.setup_number;
      setup_kind = r.setup_kind;
      kinds = subst (λ (cs : List Cell). AllByRecursion IsSectionCell (cs ++ n.bin)) (sym all) (kinds_told (section_cells n) n.bin r.kinds);
      cell_numbers = subst (λ ns. AreDistinct (0 ∷ ns)) (sym numbers) r.cell_numbers;
      next_cell = subst (λ ns. AllByRecursion (IsBelow n.next_cell) (0 ∷ ns)) (sym numbers) r.next_cell;
      section_numbers = subst (λ ns. AreDistinct (0 ∷ ns)) (sym sections) r.section_numbers;
      next_section = subst (λ ns. AllByRecursion (IsBelow n.next_section) (0 ∷ ns)) (sym sections) r.next_section;
      parents = parents_told [] n.sections r.parents;
      few_sections = subst (λ k. k ≤ 1000) (sym count) r.few_sections;
      few_cells = subst (λ k. k ≤ 4000) (sym count_cells) r.few_cells;
      few_code_cells = subst (λ k. k ≤ 1000) (sym count_code) r.few_code_cells;
    }

-- ---- what a book can tell stays

infos_told : (k : Kind) (os : List Saved) → AllByRecursion HasPlainInfo os → AllByRecursion HasPlainInfo (told_saved k os)
infos_told cell.Markdown os h = tt
infos_told cell.Code os h = h
infos_told cell.Setup os h = h

plain_cell : (c : Cell) → IsPlainCell c → IsPlainCell (told_cell c)
plain_cell c h = record { before = h.before; saved = infos_told c.kind c.saved h.saved }

plain_cells : (cs : List Cell) → AllByRecursion IsPlainCell cs → AllByRecursion IsPlainCell (map told_cell cs)
plain_cells [] h = tt
plain_cells (c ∷ cs) h = (plain_cell c h.0, plain_cells cs h.1)

plain_sections : (ss : List Section) → AllByRecursion IsPlainSection ss → AllByRecursion IsPlainSection (map told_section ss)
plain_sections [] h = tt
plain_sections (s ∷ ss) h = (record { before = h.0.before; cells = plain_cells s.cells h.0.cells }, plain_sections ss h.1)

told_plain : (n : Parts) → IsPlain n → IsPlain (told n)
told_plain n h = record { before = h.before; setup = plain_cell n.setup h.setup; sections = plain_sections n.sections h.sections; after = h.after; last = h.last }

-- ---- all

pub read_back : (n : Parts) (bytes : List ℕ) → bytes ≡ text_of (tidied n) → IsNotebook n → AreTexts (told n) → IsPlain n → Reads bytes (tidied n) []
read_back n bytes e r h p =
    subst
    (λ w. Reads w (tidied n) [])
    (sym e)
    (subst (λ m. Reads (text_of m) m []) (told_same n) (reads-back (told n) (told_rules n r) h (told_plain n p)))

-- the tidy form of a notebook stays when it is tidied, if the texts of which a book is told consist of characters
pub stays_tidy : (n m : Parts) → m ≡ tidied n → AreTexts (told n) → tidied m ≡ m
stays_tidy n m e h = subst (λ (k : Parts). tidied k ≡ k) (told_same n ∙ sym e) (tidied-twice (told n) h)
