-- What is tidied twice is what is tidied once.
use Rattle.std.proofs.Common.{◌≡◌, ℕ, ◌+◌, ◌≤◌, suc, zero, Bool, true, false, cond, List, [], ◌∷◌, ◌++◌, Option, Some, None, length, map, refl, ap, ◌∙◌, arith}
use Rattle.std.specs.Prelude.{◌==◌, chars, encode_utf8_all, option_map}
use Rattle.std.specs.List.{AllByRecursion, list_any}
use Rattle.std.specs.Str.{IsUtf8}
use Rattle.std.proofs.lemmas.List.{append-nil}
use Rattle.utf16_text.specs.Units.{AreScalars}
use Rattle.notebook.specs.declared.parts.Cell.{Cell}
use Rattle.notebook.specs.declared.parts.Saved.{Saved}
use Rattle.notebook.specs.declared.parts.Section.{Section}
use Rattle.notebook.specs.declared.parts.Parts.{Parts}
use Rattle.notebook.specs.declared.parts.Kind.{Kind}
use Rattle.notebook.specs.declared.parts.Kind.TheVariants as cell
use Rattle.blanks.specs.Blanks.{drop_end, drop_front, is_blank, is_cr, is_space}
use Rattle.livemd_lines.specs.Lines.{is_lf, joined}
use Rattle.livemd_format.specs.RoundTrip.{AreCellTexts, AreOutputTexts, AreSectionTexts, AreTexts}
use Rattle.livemd_format.specs.Tidy.{changed, clean, clean_pieces, closed, closing_lines, number_from, numbered, spaced, stays, tidied, tidy_before, tidy_cell, tidy_cells, tidy_lines, tidy_markdown, tidy_name, tidy_outputs, tidy_saved, tidy_section, tidy_sections, tidy_source, unblanked, with_tidy}
use Rattle.livemd_format.proofs.Characters.{changed_bytes, clean_utf8, feed_of_none, markdown_utf8, name_utf8, utf8_of}
use Rattle.livemd_format.proofs.TidyBooks.{index_of, length-numbered}
use Rattle.livemd_format.proofs.TidyTexts.{AreTidyLines, clean_line, lines_tidy, name_none, or_false, spaced_none, trimmed_front}
use Rattle.livemd_format.proofs.Trimming.{drop_end-twice, end_none, feeds_of_lines, lines_of_clean, no_crs, pieces-joined, pieces_of_clean}

-- ---- texts

-- a change that leaves the bytes that it made leaves the text that it made
text_twice : (f : List ℕ → List ℕ) (t : List ℕ) → IsUtf8 (f (encode_utf8_all t)) → f (f (encode_utf8_all t)) ≡ f (encode_utf8_all t) → changed f (changed f t) ≡ changed f t
text_twice f t u e = ap (λ w. chars (f w)) (changed_bytes f t u) ∙ ap chars e

clean_bytes : (bs : List ℕ) → clean (clean bs) ≡ clean bs
clean_bytes bs = ap (λ ps. joined (map (drop_end is_cr) ps)) (pieces_of_clean bs) ∙ ap joined (no_crs (clean_pieces bs) (lines_of_clean bs))

clean_twice : (t : List ℕ) → AreScalars t → changed clean (changed clean t) ≡ changed clean t
clean_twice t h = text_twice clean t (clean_utf8 (encode_utf8_all t) (utf8_of t h)) (clean_bytes (encode_utf8_all t))

-- ---- names

unspaced : (l : List ℕ) → list_any is_lf l ≡ false → list_any is_cr l ≡ false → map spaced l ≡ l
unspaced [] f g = refl
unspaced (c ∷ l) f g =
    let a = or_false (is_lf c) (list_any is_lf l) f in
    let b = or_false (is_cr c) (list_any is_cr l) g in
    rw (a.0, b.0) (ap (λ w. c ∷ w) (unspaced l a.1 b.1))

name_bytes : (bs : List ℕ) → tidy_name (tidy_name bs) ≡ tidy_name bs
name_bytes bs =
    let w : List ℕ = tidy_name bs in
    let s = spaced_none (clean bs) in
    let f : list_any is_lf w ≡ false = name_none is_lf bs s.0 in
    let g : list_any is_cr w ≡ false = name_none is_cr bs s.1 in
    ap (λ v. drop_end is_space (drop_front is_space (map spaced v))) (clean_line w (feed_of_none w f, end_none is_cr w g))
    ∙ (ap (λ v. drop_end is_space (drop_front is_space v)) (unspaced w f g)
    ∙ (ap (drop_end is_space) (trimmed_front is_space (map spaced (clean bs)))
    ∙ drop_end-twice is_space (drop_front is_space (map spaced (clean bs)))))

name_twice : (t : List ℕ) → AreScalars t → changed tidy_name (changed tidy_name t) ≡ changed tidy_name t
name_twice t h = text_twice tidy_name t (name_utf8 (encode_utf8_all t) (utf8_of t h)) (name_bytes (encode_utf8_all t))

-- ---- Markdown text

first_stays : (l : List ℕ) (ls : List (List ℕ)) → is_blank l ≡ false → drop_front is_blank (l ∷ ls) ≡ l ∷ ls
first_stays l ls h = rw h refl

-- tidy lines, joined and tidied, are the same lines
same_lines : (ls : List (List ℕ)) → AreTidyLines ls → tidy_lines (joined ls) ≡ ls
same_lines [] h = refl
same_lines (l ∷ ls) h =
    let all : List (List ℕ) = l ∷ ls in
    ap (λ ps. closed (unblanked (map (drop_end is_cr) ps))) (pieces-joined l ls (feeds_of_lines all h.all))
    ∙ (ap (λ ps. closed (unblanked ps)) (no_crs all h.all)
    ∙ (ap (λ ps. closed (drop_end is_blank ps)) (first_stays l ls h.begin)
    ∙ (ap closed h.end
    ∙ (ap (λ o. all ++ closing_lines o) h.closed ∙ append-nil all))))

markdown_twice : (t : List ℕ) → AreScalars t → changed tidy_markdown (changed tidy_markdown t) ≡ changed tidy_markdown t
markdown_twice t h = text_twice tidy_markdown t (markdown_utf8 (encode_utf8_all t) (utf8_of t h)) (ap joined (same_lines (tidy_lines (encode_utf8_all t)) (lines_tidy (encode_utf8_all t))))

-- ---- cells

before_twice : (ls : List (List ℕ)) → AllByRecursion AreScalars ls → tidy_before (tidy_before ls) ≡ tidy_before ls
before_twice [] h = refl
before_twice (l ∷ ls) h = ap (λ w. w ∷ tidy_before (tidy_before ls)) (clean_twice l h.0) ∙ ap (λ w. changed clean l ∷ w) (before_twice ls h.1)

source_twice : (k : Kind) (source : List ℕ) → AreScalars source → tidy_source k (tidy_source k source) ≡ tidy_source k source
source_twice cell.Markdown source h = markdown_twice source h
source_twice cell.Code source h = clean_twice source h
source_twice cell.Setup source h = clean_twice source h

saved_twice : (o : Saved) → AreOutputTexts o → tidy_saved (tidy_saved o) ≡ tidy_saved o
saved_twice o h =
    ap (λ i. record (tidy_saved o) { info = i; text = changed clean (changed clean o.text) }) (clean_twice o.info h.info)
    ∙ ap (λ t. record (tidy_saved o) { text = t }) (clean_twice o.text h.text)

all_saved_twice : (os : List Saved) → AllByRecursion AreOutputTexts os → map tidy_saved (map tidy_saved os) ≡ map tidy_saved os
all_saved_twice [] h = refl
all_saved_twice (o ∷ os) h = ap (λ w. w ∷ map tidy_saved (map tidy_saved os)) (saved_twice o h.0) ∙ ap (λ w. tidy_saved o ∷ w) (all_saved_twice os h.1)

outputs_twice : (k : Kind) (os : List Saved) → AllByRecursion AreOutputTexts os → tidy_outputs k (tidy_outputs k os) ≡ tidy_outputs k os
outputs_twice cell.Markdown os h = refl
outputs_twice cell.Code os h = all_saved_twice os h
outputs_twice cell.Setup os h = all_saved_twice os h

cell_twice : (c : Cell) → AreCellTexts c → tidy_cell (tidy_cell c) ≡ tidy_cell c
cell_twice c h =
    let d : Cell = tidy_cell c in
    ap (λ s. record d { source = s; before = tidy_before d.before; saved = tidy_outputs d.kind d.saved }) (source_twice c.kind c.source h.source)
    ∙ (ap (λ b. record d { before = b; saved = tidy_outputs d.kind d.saved }) (before_twice c.before h.before)
    ∙ ap (λ os. record d { saved = os }) (outputs_twice c.kind c.saved h.saved))

-- a tidy cell that stays, before cells that stay
front_stays : (d : Cell) (ds : List Cell) → tidy_cell d ≡ d → stays d ≡ true → tidy_cells ds ≡ ds → tidy_cells (d ∷ ds) ≡ d ∷ ds
front_stays d ds e s r =
    ap (λ x. cond (stays x) (x ∷ tidy_cells ds) (tidy_cells ds)) e
    ∙ (ap (λ (b : Bool). cond b (d ∷ tidy_cells ds) (tidy_cells ds)) s
    ∙ ap (λ w. d ∷ w) r)

cells_twice : (next : ℕ) (cs : List Cell) → AllByRecursion AreCellTexts cs → tidy_cells (numbered next (tidy_cells cs)) ≡ numbered next (tidy_cells cs)
cells_twice next [] h = refl
cells_twice next (c ∷ cs) h =
    elim (stays (tidy_cell c))
    as (λ b. stays (tidy_cell c) ≡ b → tidy_cells (numbered next (cond b (tidy_cell c ∷ tidy_cells cs) (tidy_cells cs))) ≡ numbered next (cond b (tidy_cell c ∷ tidy_cells cs) (tidy_cells cs)))
    [ true ↦ λ e. front_stays (record (tidy_cell c) { id = next }) (numbered (suc next) (tidy_cells cs)) (ap (λ (d : Cell). record d { id = next }) (cell_twice c h.0)) e (cells_twice (suc next) cs h.1) | false ↦ λ e. cells_twice next cs h.1 ]
    refl

numbered_twice : (next : ℕ) (cs : List Cell) → numbered next (numbered next cs) ≡ numbered next cs
numbered_twice next [] = refl
numbered_twice next (c ∷ cs) = ap (λ w. record c { id = next } ∷ w) (numbered_twice (suc next) cs)

-- ---- parents

-- what a section takes is at most the number behind the last
number_within : (next id : ℕ) (ss : List Section) → (i : ℕ) × ((i ≤ length ss) × (number_from next id ss ≡ next + i))
number_within next id [] = (zero, (omega arith, omega arith))
number_within next id (s ∷ ss) =
    let r = number_within (suc next) id ss in
    elim (s.id == id)
    as (λ b. (i : ℕ) × ((i ≤ suc (length ss)) × (cond b next (number_from (suc next) id ss) ≡ next + i)))
    [ true ↦ (zero, (omega arith, omega arith)) | false ↦ (suc r.0, (omega (arith, r.1.0), omega (arith, r.1.1))) ]

number_twice : (all : List Section) (id : ℕ) → number_from 1 (number_from 1 id all) (tidy_sections all 1 1 all) ≡ number_from 1 id all
number_twice all id =
    let r = number_within 1 id all in
    ap (λ n. number_from 1 n (tidy_sections all 1 1 all)) r.1.1 ∙ (index_of all all r.0 1 1 1 r.1.0 ∙ (let e : 1 + r.0 ≡ number_from 1 id all = omega (arith, r.1.1) in e))

parent_twice : (all : List Section) (o : Option ℕ) → option_map (λ id. number_from 1 id (tidy_sections all 1 1 all)) (option_map (λ id. number_from 1 id all) o) ≡ option_map (λ id. number_from 1 id all) o
parent_twice all None = refl
parent_twice all (Some id) = ap Some (number_twice all id)

-- ---- sections

section_twice : (all : List Section) (number next : ℕ) (s : Section) → AreSectionTexts s → tidy_section (tidy_sections all 1 1 all) number next (tidy_section all number next s) ≡ tidy_section all number next s
section_twice all number next s h =
    let t : Section = tidy_section all number next s in
    let parent : Option ℕ = option_map (λ id. number_from 1 id (tidy_sections all 1 1 all)) t.parent in
    ap (λ n. record t { name = n; before = tidy_before t.before; parent = parent; cells = numbered next (tidy_cells t.cells) }) (name_twice s.name h.name)
    ∙ (ap (λ b. record t { before = b; parent = parent; cells = numbered next (tidy_cells t.cells) }) (before_twice s.before h.before)
    ∙ (ap (λ o. record t { parent = o; cells = numbered next (tidy_cells t.cells) }) (parent_twice all s.parent)
    ∙ (ap (λ cs. record t { cells = numbered next cs }) (cells_twice next s.cells h.cells)
    ∙ ap (λ cs. record t { cells = cs }) (numbered_twice next (tidy_cells s.cells)))))

sections_twice : (all ss : List Section) (number next : ℕ) → AllByRecursion AreSectionTexts ss → tidy_sections (tidy_sections all 1 1 all) number next (tidy_sections all number next ss) ≡ tidy_sections all number next ss
sections_twice all [] number next h = refl
sections_twice all (s ∷ ss) number next h =
    let again : List Section = tidy_sections all 1 1 all in
    let t : Section = tidy_section all number next s in
    let more : ℕ = next + length (tidy_cells s.cells) in
    let count : length (tidy_cells t.cells) ≡ length (tidy_cells s.cells) = ap length (cells_twice next s.cells h.0.cells) ∙ length-numbered next (tidy_cells s.cells) in
    ap (λ u. u ∷ tidy_sections again (suc number) (next + length (tidy_cells t.cells)) (tidy_sections all (suc number) more ss)) (section_twice all number next s h.0)
    ∙ (ap (λ k. t ∷ tidy_sections again (suc number) (next + k) (tidy_sections all (suc number) more ss)) count
    ∙ ap (λ us. t ∷ us) (sections_twice all ss (suc number) more h.1))

-- ---- the notebook

-- the tidy form of a notebook whose texts consist of characters stays when it is tidied
pub tidied-twice : (n : Parts) → AreTexts n → tidied (tidied n) ≡ tidied n
tidied-twice n h =
    let m : Parts = tidied n in
    ap (λ ss. with_tidy ss m) (sections_twice n.sections n.sections 1 1 h.sections)
    ∙ (ap (λ w. record m { name = w; before = tidy_before m.before; setup = tidy_cell m.setup; after = tidy_before m.after }) (name_twice n.name h.name)
    ∙ (ap (λ ls. record m { before = ls; setup = tidy_cell m.setup; after = tidy_before m.after }) (before_twice n.before h.before)
    ∙ (ap (λ c. record m { setup = c; after = tidy_before m.after }) (cell_twice n.setup h.setup)
    ∙ ap (λ ls. record m { after = ls }) (before_twice n.after h.after))))
