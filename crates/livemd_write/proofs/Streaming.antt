-- What is put cell by cell is the tidy form.
use Rattle.std.proofs.Common.{◌≡◌, ℕ, ◌+◌, ◌≤◌, suc, Bool, true, false, cond, List, [], ◌∷◌, ◌++◌, Option, None, Some, length, filter, map, refl, sym, ap, ◌∙◌, arith, codes}
use Rattle.std.specs.Prelude.{◌==◌, ◌&&◌, encode_utf8_all, option_map}
use Rattle.std.specs.List.{flat_map}
use Rattle.std.proofs.lemmas.Bool.Decides.{nat_tests}
use Rattle.notebook.specs.declared.parts.Cell.{Cell}
use Rattle.notebook.specs.declared.parts.Section.{Section}
use Rattle.blanks.specs.Blanks.{is_empty}
use Rattle.livemd_format.specs.Tidy.{is_markdown, number_from, numbered, stays, tidy_before, tidy_cell, tidy_cells, tidy_section, tidy_sections}
use Rattle.livemd_format.specs.Write.{Block, branch_blocks, branch_line, break_blocks, break_line, cell_blocks, kept_blocks, line_block, own_blocks, section_blocks}
use Rattle.livemd_write.specs.Pages.{Puts, PutsCellText, blocks_text, tidy_section_blocks}
use Rattle.livemd_write.proofs.Blocks.{cell_put, cells_turn as blocks_turn, puts_same}

-- ---- one cell

filter_by : (c : Cell) (rest : List Cell) (b : Bool) → stays c ≡ b → filter stays (c ∷ rest) ≡ cond b (c ∷ filter stays rest) (filter stays rest)
filter_by c rest b e = ap (λ (v : Bool). cond v (c ∷ filter stays rest) (filter stays rest)) e

-- a cell's tidy form without its kept lines
abbrev body_of : Cell → Cell
body_of c = record (tidy_cell c) { before = [] }

pub cell_gone : (old : List ℕ) (after : Bool) (c t : Cell) → t ≡ body_of c → stays t ≡ false → PutsCellText old after c old after
cell_gone old after c t e s = λ rest. ap (λ cs. old ++ blocks_text (cell_blocks after cs)) (sym (filter_by (tidy_cell c) rest false (ap stays (sym e) ∙ s)))

-- a cell has kept lines where its tidy form has some
same_break : (after : Bool) (c : Cell) → break_blocks after c ≡ break_blocks after (tidy_cell c)
same_break after c = ap (λ (b : Bool). cond (after && (is_markdown c.kind && b)) (line_block break_line ∷ []) []) (same_none c.before) where
  same_none : (ls : List (List ℕ)) → is_empty ls ≡ is_empty (tidy_before ls)
  same_none [] = refl
  same_none (l ∷ ls) = refl

tidy_put : (old new : List ℕ) (after next : Bool) (c : Cell) → stays (tidy_cell c) ≡ true → Puts old (cell_blocks after (tidy_cell c ∷ [])) new → next ≡ is_markdown c.kind → PutsCellText old after c new next
tidy_put old new after next c s p n = λ rest.
    blocks_turn (tidy_cell c ∷ filter stays rest) (filter stays rest) (tidy_cell c) after next old new (old ++ blocks_text (cell_blocks after (filter stays (tidy_cell c ∷ rest)))) refl
    (ap (λ cs. old ++ blocks_text (cell_blocks after cs)) (sym (filter_by (tidy_cell c) rest true s)))
    p
    n

pub body_put : (old a b new : List ℕ) (after next : Bool) (c t : Cell) → t ≡ body_of c → stays t ≡ true → Puts old (break_blocks after c) a → Puts a (kept_blocks (tidy_before c.before)) b → Puts b (own_blocks t) new → next ≡ is_markdown t.kind → PutsCellText old after c new next
body_put old a b new after next c t e s h k o n =
    tidy_put old new after next c (ap stays (sym e) ∙ s)
    (cell_put old a b new after (tidy_cell c) (puts_same old a _ _ (same_break after c) h) k (puts_same b new _ _ (ap own_blocks e) o))
    (n ∙ ap (λ (x : Cell). is_markdown x.kind) e)

-- ---- all cells of a section

pub cells_turn : (cells rest : List Cell) (c : Cell) (after next : Bool) (a b whole : List ℕ) → cells ≡ c ∷ rest → a ++ blocks_text (cell_blocks after (tidy_cells cells)) ≡ whole → PutsCellText a after c b next
    → b ++ blocks_text (cell_blocks next (tidy_cells rest)) ≡ whole
cells_turn cells rest c after next a b whole e h p = p (map tidy_cell rest) ∙ (ap (λ cs. a ++ blocks_text (cell_blocks after (tidy_cells cs))) (sym e) ∙ h)

-- numbers of cells are not written
unnumbered : (after : Bool) (next : ℕ) (cs : List Cell) → cell_blocks after (numbered next cs) ≡ cell_blocks after cs
unnumbered after next [] = refl
unnumbered after next (c ∷ cs) = ap (λ bs. break_blocks after c ++ (kept_blocks c.before ++ (own_blocks c ++ bs))) (unnumbered (is_markdown c.kind) (suc next) cs)

-- ---- the branch line of a section

above : (next id : ℕ) (ss : List Section) → next ≤ number_from next id ss
above next id [] = omega arith
above next id (s ∷ ss) =
    let h : suc next ≤ number_from (suc next) id ss = above (suc next) id ss in
    elim (s.id == id)
    as (λ b. next ≤ cond b next (number_from (suc next) id ss))
    [ true ↦ omega arith | false ↦ omega arith ]

itself : (n : ℕ) → (n == n) ≡ true
itself n = grind (arith, nat_tests)

below : (n m : ℕ) → suc n ≤ m → (n == m) ≡ false
below n m h = grind (arith, nat_tests)

-- a section is found by its new number where it was found by its old one
same_index : (all ss : List Section) (from number next id : ℕ) → number_from from (number_from number id ss) (tidy_sections all number next ss) ≡ number_from from id ss
same_index all [] from number next id = refl
same_index all (s ∷ ss) from number next id =
    let m : ℕ = number_from (suc number) id ss in
    let more : List Section = tidy_sections all (suc number) (next + length (tidy_cells s.cells)) ss in
    let found : cond (number == number) from (number_from (suc from) number more) ≡ from = ap (λ (b : Bool). cond b from (number_from (suc from) number more)) (itself number) in
    let later : cond (number == m) from (number_from (suc from) m more) ≡ number_from (suc from) id ss =
    ap (λ (b : Bool). cond b from (number_from (suc from) m more)) (below number m (above (suc number) id ss)) ∙ same_index all ss (suc from) (suc number) (next + length (tidy_cells s.cells)) id in
    elim (s.id == id)
    as (λ b. cond (number == cond b number m) from (number_from (suc from) (cond b number m) more) ≡ cond b from (number_from (suc from) id ss))
    [ true ↦ found | false ↦ later ]

same_branch : (all : List Section) (parent : Option ℕ) → branch_blocks all parent ≡ branch_blocks (tidy_sections all 1 1 all) (option_map (λ id. number_from 1 id all) parent)
same_branch all None = refl
same_branch all (Some id) = ap (λ n. line_block (branch_line n) ∷ []) (sym (same_index all all 0 1 1 id))

-- ---- sections

abbrev section_name : Section → Block
section_name s = line_block (codes "## " ++ encode_utf8_all s.name)

same_section : (all : List Section) (number next : ℕ) (s : Section) → tidy_section_blocks all s ≡ section_blocks (tidy_sections all 1 1 all) (tidy_section all number next s)
same_section all number next s =
    let t : Section = tidy_section all number next s in
    ap (λ bs. kept_blocks t.before ++ (bs ++ (section_name t ∷ cell_blocks false (tidy_cells s.cells)))) (same_branch all s.parent)
    ∙ ap (λ cs. kept_blocks t.before ++ (branch_blocks (tidy_sections all 1 1 all) t.parent ++ (section_name t ∷ cs))) (sym (unnumbered false next (tidy_cells s.cells)))

same_sections : (all ss : List Section) (number next : ℕ) → flat_map (tidy_section_blocks all) ss ≡ flat_map (section_blocks (tidy_sections all 1 1 all)) (tidy_sections all number next ss)
same_sections all [] number next = refl
same_sections all (s ∷ ss) number next =
    ap (λ bs. bs ++ flat_map (tidy_section_blocks all) ss) (same_section all number next s)
    ∙ ap (λ bs. section_blocks (tidy_sections all 1 1 all) (tidy_section all number next s) ++ bs) (same_sections all ss (suc number) (next + length (tidy_cells s.cells)))

pub same_blocks : (all : List Section) → flat_map (tidy_section_blocks all) all ≡ flat_map (section_blocks (tidy_sections all 1 1 all)) (tidy_sections all 1 1 all)
same_blocks all = same_sections all all 1 1
