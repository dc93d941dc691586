-- The tidy form of a notebook keeps the rules of notebooks.
use Rattle.std.proofs.Common.{◌≡◌, ◌⊎◌, inl, inr, ℕ, ◌+◌, ◌<◌, ◌≤◌, zero, suc, true, false, cond, List, [], ◌∷◌, ◌++◌, Option, None, Some, length, map, filter, refl, sym, ap, ◌∙◌, arith, subst, append_assoc, length-append, eqb-true, eq-eqb}
use Rattle.std.specs.Prelude.{◌==◌, Contains, option_map}
use Rattle.std.specs.List.{AllByRecursion, flat_map}
use Rattle.std.proofs.lemmas.List.{append-nil, map-append}
use Rattle.notebook.specs.declared.parts.Cell.{Cell}
use Rattle.notebook.specs.declared.parts.Section.{Section}
use Rattle.notebook.specs.declared.parts.Parts.{Parts}
use Rattle.notebook.specs.Book.{cells_of, section_cells}
use Rattle.notebook.specs.Rules.{IsNotebook, cell_number, section_number, AreDistinct, IsSectionCell, IsBelow, IsParentAmong, ParentsStand, code_count, code_weight}
use Rattle.livemd_format.specs.Tidy.{number_from, numbered, stays, tidied, tidy_cell, tidy_cells, tidy_section, tidy_sections}
use Rattle.livemd_format.proofs.TidyBooks.{all_left, all_right, front_distinct, length-numbered}
use Rattle.livemd_format.proofs.Trimming.{all_more}
use Rattle.livemd_write.proofs.Keeping.{fewer_in_all, length-sections}

-- ---- numbers that count up

abbrev AreCounted : ℕ → List ℕ → Type 0
AreCounted k [] = Unit {0}
AreCounted k (n ∷ ns) = (n ≡ k) × AreCounted (suc k) ns

counted_more : (k : ℕ) (ns ms : List ℕ) (m : ℕ) → AreCounted k ns → m ≡ k + length ns → AreCounted m ms → AreCounted k (ns ++ ms)
counted_more k [] ms m h e g = let s : m ≡ k = omega (arith, e) in subst (λ j. AreCounted j ms) s g
counted_more k (n ∷ ns) ms m h e g = (h.0, counted_more (suc k) ns ms m h.1 (omega (arith, e)) g)

not_there : (k : ℕ) (ns : List ℕ) (j : ℕ) → AreCounted k ns → j < k → ¬ Contains ns j
not_there k [] j h lt (i, within, at) = absurd (omega arith)
not_there k (n ∷ ns) j h lt (zero, within, at) = absurd (omega (arith, h.0))
not_there k (n ∷ ns) j h lt (suc i, within, at) = not_there (suc k) ns j h.1 (omega arith) (i, omega arith, at)

distinct : (k : ℕ) (ns : List ℕ) → AreCounted k ns → AreDistinct ns
distinct k [] h = tt
distinct k (n ∷ ns) h = (λ there. not_there (suc k) ns n h.1 (omega (arith, h.0)) there, distinct (suc k) ns h.1)

all_below : (k : ℕ) (ns : List ℕ) (next : ℕ) → AreCounted k ns → k + length ns ≤ next → AllByRecursion (IsBelow next) ns
all_below k [] next h le = tt
all_below k (n ∷ ns) next h le = (omega (arith, h.0), all_below (suc k) ns next h.1 (omega arith))

pub length-map : {X Y : Type 0} (f : X → Y) (xs : List X) → length (map f xs) ≡ length xs
length-map f [] = refl
length-map f (x ∷ xs) = ap (λ n. suc n) (length-map f xs)

-- ---- cells

cells_counted : (k : ℕ) (cs : List Cell) → AreCounted k (map cell_number (numbered k cs))
cells_counted k [] = tt
cells_counted k (c ∷ cs) = (refl, cells_counted (suc k) cs)

all_counted : (all ss : List Section) (number next : ℕ) → AreCounted next (map cell_number (flat_map cells_of (tidy_sections all number next ss)))
all_counted all [] number next = tt
all_counted all (s ∷ ss) number next =
    let cs : List Cell = numbered next (tidy_cells s.cells) in
    let rest : List Cell = flat_map cells_of (tidy_sections all (suc number) (next + length (tidy_cells s.cells)) ss) in
    let count : length (map cell_number cs) ≡ length (tidy_cells s.cells) = length-map cell_number cs ∙ length-numbered next (tidy_cells s.cells) in
    subst (λ ns. AreCounted next ns) (sym (map-append cell_number cs rest)) (counted_more next (map cell_number cs) (map cell_number rest) (next + length (tidy_cells s.cells)) (cells_counted next (tidy_cells s.cells)) (omega (arith, count)) (all_counted all ss (suc number) (next + length (tidy_cells s.cells))))

kinds_numbered : (k : ℕ) (cs : List Cell) → AllByRecursion IsSectionCell cs → AllByRecursion IsSectionCell (numbered k cs)
kinds_numbered k [] h = tt
kinds_numbered k (c ∷ cs) h = (h.0, kinds_numbered (suc k) cs h.1)

kinds_tidy : (cs : List Cell) → AllByRecursion IsSectionCell cs → AllByRecursion IsSectionCell (tidy_cells cs)
kinds_tidy [] h = tt
kinds_tidy (c ∷ cs) h =
    elim (stays (tidy_cell c))
    as (λ b. AllByRecursion IsSectionCell (cond b (tidy_cell c ∷ filter stays (map tidy_cell cs)) (filter stays (map tidy_cell cs))))
    [ true ↦ (h.0, kinds_tidy cs h.1) | false ↦ kinds_tidy cs h.1 ]

kinds_all : (all ss : List Section) (number next : ℕ) → AllByRecursion IsSectionCell (flat_map cells_of ss) → AllByRecursion IsSectionCell (flat_map cells_of (tidy_sections all number next ss))
kinds_all all [] number next h = tt
kinds_all all (s ∷ ss) number next h =
    all_more IsSectionCell (numbered next (tidy_cells s.cells)) _ (kinds_numbered next (tidy_cells s.cells) (kinds_tidy s.cells (all_left IsSectionCell s.cells (flat_map cells_of ss) h))) (kinds_all all ss (suc number) (next + length (tidy_cells s.cells)) (all_right IsSectionCell s.cells (flat_map cells_of ss) h))

code_numbered : (k : ℕ) (cs : List Cell) → code_count (numbered k cs) ≡ code_count cs
code_numbered k [] = refl
code_numbered k (c ∷ cs) = ap (λ n. code_weight c.kind + n) (code_numbered (suc k) cs)

code_tidy : (cs : List Cell) → code_count (tidy_cells cs) ≤ code_count cs
code_tidy [] = omega arith
code_tidy (c ∷ cs) =
    let h : code_count (tidy_cells cs) ≤ code_count cs = code_tidy cs in
    elim (stays (tidy_cell c))
    as (λ b. code_count (cond b (tidy_cell c ∷ filter stays (map tidy_cell cs)) (filter stays (map tidy_cell cs))) ≤ code_weight c.kind + code_count cs)
    [ true ↦ omega arith | false ↦ omega arith ]

code_append : (cs ds : List Cell) → code_count (cs ++ ds) ≡ code_count cs + code_count ds
code_append [] ds = omega arith
code_append (c ∷ cs) ds = let e : code_count (cs ++ ds) ≡ code_count cs + code_count ds = code_append cs ds in omega arith

code_all : (all ss : List Section) (number next : ℕ) → code_count (flat_map cells_of (tidy_sections all number next ss)) ≤ code_count (flat_map cells_of ss)
code_all all [] number next = omega arith
code_all all (s ∷ ss) number next =
    let rest : List Cell = flat_map cells_of (tidy_sections all (suc number) (next + length (tidy_cells s.cells)) ss) in
    let left : code_count (numbered next (tidy_cells s.cells) ++ rest) ≡ code_count (numbered next (tidy_cells s.cells)) + code_count rest = code_append (numbered next (tidy_cells s.cells)) rest in
    let here : code_count (numbered next (tidy_cells s.cells)) ≡ code_count (tidy_cells s.cells) = code_numbered next (tidy_cells s.cells) in
    let less : code_count (tidy_cells s.cells) ≤ code_count s.cells = code_tidy s.cells in
    let more : code_count rest ≤ code_count (flat_map cells_of ss) = code_all all ss (suc number) (next + length (tidy_cells s.cells)) in
    let right : code_count (s.cells ++ flat_map cells_of ss) ≡ code_count s.cells + code_count (flat_map cells_of ss) = code_append s.cells (flat_map cells_of ss) in
    omega arith

-- ---- sections

sections_counted : (all ss : List Section) (number next : ℕ) → AreCounted number (map section_number (tidy_sections all number next ss))
sections_counted all [] number next = tt
sections_counted all (s ∷ ss) number next = (refl, sections_counted all ss (suc number) (next + length (tidy_cells s.cells)))

-- one of the sections has the number, and doesn't branch
abbrev HasStem : List Section → ℕ → Type 0
HasStem [] id = ⊥
HasStem (s ∷ ss) id = ((s.id ≡ id) × (s.parent ≡ None)) ⊎ HasStem ss id

stem_of : (ss : List Section) (s : Section) (id : ℕ) → Contains ss s → s.id ≡ id → s.parent ≡ None → HasStem ss id
stem_of [] s id (i, within, at) e p = absurd (omega arith)
stem_of (t ∷ ss) s id (zero, within, at) e p = inl (ap (λ (u : Section). u.id) at ∙ e, ap (λ (u : Section). u.parent) at ∙ p)
stem_of (t ∷ ss) s id (suc i, within, at) e p = inr (stem_of ss s id (i, omega arith, at) e p)

among : (ss : List Section) (id : ℕ) → HasStem ss id → (s : Section) × (Contains ss s × ((s.id ≡ id) × (s.parent ≡ None)))
among [] id h = absurd h
among (s ∷ ss) id (inl h) = (s, ((zero, omega arith, refl), h))
among (s ∷ ss) id (inr h) = let r = among ss id h in (r.0, ((suc r.1.0.0, omega (arith, r.1.0.1), r.1.0.2), r.1.1))

-- a stem's number is among the numbers
stem_there : (ss : List Section) (id : ℕ) → HasStem ss id → Contains (map section_number ss) id
stem_there [] id h = absurd h
stem_there (s ∷ ss) id (inl h) = (zero, omega arith, h.0)
stem_there (s ∷ ss) id (inr h) = let r = stem_there ss id h in (suc r.0, omega (arith, r.1), r.2)

-- the stem takes a new number, and stands under it
stem_new : (all front rest : List Section) (number next id : ℕ) → AreDistinct (map section_number front) → HasStem front id → HasStem (tidy_sections all number next front) (number_from number id (front ++ rest))
stem_new all [] rest number next id d h = absurd h
stem_new all (s ∷ ss) rest number next id d h =
    elim (s.id == id)
    as (λ b. (s.id == id) ≡ b → HasStem (tidy_section all number next s ∷ tidy_sections all (suc number) (next + length (tidy_cells s.cells)) ss) (cond b number (number_from (suc number) id (ss ++ rest)))) [
      | true ↦ λ e. inl (refl, ap (option_map (λ p. number_from 1 p all)) (first h (eqb-true s.id id e)))
      | false ↦ λ e. inr (stem_new all ss rest (suc number) (next + length (tidy_cells s.cells)) id d.1 (later h e))
    ]
    refl
  where
    first : ((s.id ≡ id) × (s.parent ≡ None)) ⊎ HasStem ss id → s.id ≡ id → s.parent ≡ None
    first (inl g) e = g.1
    first (inr g) e = absurd (d.0 (subst (λ n. Contains (map section_number ss) n) (sym e) (stem_there ss id g)))

    later : ((s.id ≡ id) × (s.parent ≡ None)) ⊎ HasStem ss id → (s.id == id) ≡ false → HasStem ss id
    later (inl g) e = let t : true ≡ false = sym (eq-eqb s.id id g.0) ∙ e in absurd cc
    later (inr g) e = g

parent_new : (all front rest : List Section) (o : Option ℕ) → AreDistinct (map section_number front) → all ≡ front ++ rest → IsParentAmong front o → IsParentAmong (tidy_sections all 1 1 front) (option_map (λ id. number_from 1 id all) o)
parent_new all front rest None d e h = tt
parent_new all front rest (Some id) d e (s, (there, (i, p))) =
    let g : HasStem (tidy_sections all 1 1 front) (number_from 1 id (front ++ rest)) = stem_new all front rest 1 1 id d (stem_of front s id there i p) in
    among (tidy_sections all 1 1 front) (number_from 1 id all) (subst (λ us. HasStem (tidy_sections all 1 1 front) (number_from 1 id us)) (sym e) g)

-- the fronts, tidy, one section after the other
front_more : (all front : List Section) (s : Section) (number next : ℕ) → tidy_sections all number next (front ++ s ∷ []) ≡ tidy_sections all number next front ++ tidy_section all (number + length front) (next + length (flat_map cells_of (tidy_sections all number next front))) s ∷ []
front_more all [] s number next =
    let a : number ≡ number + 0 = omega arith in
    let b : next ≡ next + 0 = omega arith in
    ap (λ k. tidy_section all k next s ∷ []) a ∙ ap (λ k. tidy_section all (number + 0) k s ∷ []) b
front_more all (t ∷ front) s number next =
    let cs : List Cell = numbered next (tidy_cells t.cells) in
    let n2 : ℕ = next + length (tidy_cells t.cells) in
    let more : List Cell = flat_map cells_of (tidy_sections all (suc number) n2 front) in
    let a : suc number + length front ≡ number + length (t ∷ front) = omega arith in
    let many : length (cs ++ more) ≡ length (tidy_cells t.cells) + length more = length-append cs more ∙ ap (λ k. k + length more) (length-numbered next (tidy_cells t.cells)) in
    let b : n2 + length more ≡ next + length (cs ++ more) = omega (arith, many) in
    ap (λ us. tidy_section all number next t ∷ us) (front_more all front s (suc number) n2 ∙ (ap (λ k. tidy_sections all (suc number) n2 front ++ tidy_section all k (n2 + length more) s ∷ []) a ∙ ap (λ k. tidy_sections all (suc number) n2 front ++ tidy_section all (number + length (t ∷ front)) k s ∷ []) b))

stand_new : (all front ss : List Section) → all ≡ front ++ ss → AreDistinct (map section_number all) → ParentsStand front ss → ParentsStand (tidy_sections all 1 1 front) (tidy_sections all (1 + length front) (1 + length (flat_map cells_of (tidy_sections all 1 1 front))) ss)
stand_new all front [] e d h = tt
stand_new all front (s ∷ ss) e d h =
    let fronts : AreDistinct (map section_number front) = front_distinct front (s ∷ ss) (subst (λ us. AreDistinct (map section_number us)) e d) in
    let on : all ≡ (front ++ s ∷ []) ++ ss = e ∙ sym (append_assoc front (s ∷ []) ss) in
    let next : ℕ = 1 + length (flat_map cells_of (tidy_sections all 1 1 front)) in
    let t : Section = tidy_section all (1 + length front) next s in
    let later : ParentsStand (tidy_sections all 1 1 (front ++ s ∷ [])) (tidy_sections all (1 + length (front ++ s ∷ [])) (1 + length (flat_map cells_of (tidy_sections all 1 1 (front ++ s ∷ [])))) ss) = stand_new all (front ++ s ∷ []) ss on d h.1 in
    let shape : tidy_sections all 1 1 (front ++ s ∷ []) ≡ tidy_sections all 1 1 front ++ t ∷ [] = front_more all front s 1 1 in
    let number : 1 + length (front ++ s ∷ []) ≡ suc (1 + length front) = omega (arith, length-append front (s ∷ [])) in
    let cells : length (flat_map cells_of (tidy_sections all 1 1 front ++ t ∷ [])) ≡ length (flat_map cells_of (tidy_sections all 1 1 front)) + length (tidy_cells s.cells) = ap length (flat_map_both (tidy_sections all 1 1 front) t) ∙ (length-append (flat_map cells_of (tidy_sections all 1 1 front)) t.cells ∙ ap (λ k. length (flat_map cells_of (tidy_sections all 1 1 front)) + k) (length-numbered next (tidy_cells s.cells))) in
    let after : 1 + length (flat_map cells_of (tidy_sections all 1 1 (front ++ s ∷ []))) ≡ next + length (tidy_cells s.cells) = ap (λ us. 1 + length (flat_map cells_of us)) shape ∙ omega (arith, cells) in (
      parent_new all front (s ∷ ss) s.parent fronts e h.0,
      subst
          (λ k. ParentsStand (tidy_sections all 1 1 front ++ t ∷ []) (tidy_sections all (suc (1 + length front)) k ss))
          after
          (subst
          (λ k. ParentsStand (tidy_sections all 1 1 front ++ t ∷ []) (tidy_sections all k (1 + length (flat_map cells_of (tidy_sections all 1 1 (front ++ s ∷ [])))) ss))
          number
          (subst
          (λ us. ParentsStand us (tidy_sections all (1 + length (front ++ s ∷ [])) (1 + length (flat_map cells_of (tidy_sections all 1 1 (front ++ s ∷ [])))) ss))
          shape
          later)),
    )
  where
    flat_map_both : (us : List Section) (u : Section) → flat_map cells_of (us ++ u ∷ []) ≡ flat_map cells_of us ++ u.cells
    flat_map_both [] u = append-nil u.cells
    flat_map_both (v ∷ us) u = ap (λ cs. v.cells ++ cs) (flat_map_both us u) ∙ sym (append_assoc v.cells (flat_map cells_of us) u.cells)

-- ---- all

pub keeps_rules : (n : Parts) → IsNotebook n → IsNotebook (tidied n)
keeps_rules n h =
    let ss : List Section = tidy_sections n.sections 1 1 n.sections in
    let cs : List Cell = flat_map cells_of ss in
    let cells : cs ++ [] ≡ cs = append-nil cs in
    let counted : AreCounted 1 (map cell_number cs) = all_counted n.sections n.sections 1 1 in
    let numbers : AreCounted 1 (map section_number ss) = sections_counted n.sections n.sections 1 1 in
    let many : length (map cell_number cs) ≡ length cs = length-map cell_number cs in
    let many_sections : length (map section_number ss) ≡ length ss = length-map section_number ss in
    let kinds : AllByRecursion IsSectionCell cs = kinds_all n.sections n.sections 1 1 (all_left IsSectionCell (section_cells n) n.bin h.kinds) in
    let few : length cs ≤ length (section_cells n) = fewer_in_all n.sections n.sections 1 1 in
    let same : length ss ≡ length n.sections = length-sections n.sections n.sections 1 1 in
    let code : code_count cs ≤ code_count (section_cells n) = code_all n.sections n.sections 1 1 in
    let below : AllByRecursion (IsBelow (length cs + 1)) (0 ∷ map cell_number cs) = (omega arith, all_below 1 (map cell_number cs) (length cs + 1) counted (omega (arith, many))) in
    let apart : AreDistinct (0 ∷ map cell_number cs) = (λ there. not_there 1 (map cell_number cs) 0 counted (omega arith) there, distinct 1 (map cell_number cs) counted) in
    record {
      setup_number = h.setup_number;
      setup_kind = h.setup_kind;
      kinds = subst (λ (ds : List Cell). AllByRecursion IsSectionCell ds) (sym cells) kinds;
      cell_numbers = subst (λ (ds : List Cell). AreDistinct (0 ∷ map cell_number ds)) (sym cells) apart;
      next_cell = subst (λ (ds : List Cell). AllByRecursion (IsBelow (length cs + 1)) (0 ∷ map cell_number ds)) (sym cells) below;
      section_numbers = (λ there. not_there 1 (map section_number ss) 0 numbers (omega arith) there, distinct 1 (map section_number ss) numbers);
      next_section = (omega arith, all_below 1 (map section_number ss) (length ss + 1) numbers (omega (arith, many_sections)));
      parents = stand_new n.sections [] n.sections refl h.section_numbers.1 h.parents;
      few_sections = omega (arith, same, h.few_sections);
      few_cells = omega (arith, few, h.few_cells);
      few_code_cells = omega (arith, code, h.few_code_cells);
    }
