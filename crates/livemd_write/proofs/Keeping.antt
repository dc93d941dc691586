-- Cells and sections, tidy, one after the other.
use Rattle.std.proofs.Common.{◌≡◌, ℕ, ◌+◌, ◌≤◌, suc, Bool, true, false, cond, List, [], ◌∷◌, ◌++◌, length, drop, map, filter, refl, sym, ap, ◌∙◌, arith, append_assoc, drop_of_length-le, length-append}
use Rattle.std.specs.List.{flat_map}
use Rattle.std.proofs.lemmas.List.{append-nil}
use Rattle.notebook.specs.declared.parts.Cell.{Cell}
use Rattle.notebook.specs.declared.parts.Section.{Section}
use Rattle.notebook.specs.Book.{cells_of}
use Rattle.livemd_format.specs.Tidy.{numbered, stays, tidy_cell, tidy_cells, tidy_section, tidy_sections}
use Rattle.livemd_format.proofs.TidyBooks.{length-numbered}
use Rattle.livemd_write.specs.Cells.{PutsCell}

-- ---- loops that put what a function makes of each element

pub map_turn : {X Y : Type 0} (f : X → Y) (ls rest : List X) (x : X) (a b whole : List Y) (y : Y) → ls ≡ x ∷ rest → a ++ map f ls ≡ whole → b ≡ a ++ y ∷ [] → y ≡ f x → b ++ map f rest ≡ whole
map_turn f ls rest x a b whole y e h p s =
    ap (λ w. w ++ map f rest) (p ∙ ap (λ z. a ++ z ∷ []) s) ∙ (append_assoc a (f x ∷ []) (map f rest) ∙ (ap (λ xs. a ++ map f xs) (sym e) ∙ h))

pub map_last : {X Y : Type 0} (f : X → Y) (ls : List X) (i : ℕ) (a whole : List Y) → length ls ≤ i → a ++ map f (drop i ls) ≡ whole → a ≡ whole
map_last f ls i a whole all h =
    let none : drop i ls ≡ [] = drop_of_length-le ls all in
    sym (append-nil a) ∙ (ap (λ xs. a ++ map f xs) (sym none) ∙ h)

-- ---- one cell

one_more : (n : ℕ) → suc n ≡ n + 1
one_more n = omega arith

filter_by : (c : Cell) (rest : List Cell) (b : Bool) → stays c ≡ b → filter stays (c ∷ rest) ≡ cond b (c ∷ filter stays rest) (filter stays rest)
filter_by c rest b e = ap (λ (v : Bool). cond v (c ∷ filter stays rest) (filter stays rest)) e

pub puts_staying : (old new : List Cell) (id : ℕ) (c t : Cell) → t ≡ record (tidy_cell c) { id = id } → stays t ≡ true → new ≡ old ++ t ∷ [] → PutsCell old id c new (id + 1)
puts_staying old new id c t e s p =
    let stay : stays (tidy_cell c) ≡ true = ap stays (sym e) ∙ s in
    record {
      step = λ rest.
          ap (λ w. w ++ numbered (id + 1) (filter stays rest)) (p ∙ ap (λ x. old ++ x ∷ []) e)
          ∙ (append_assoc old (record (tidy_cell c) { id = id } ∷ []) (numbered (id + 1) (filter stays rest))
          ∙ (ap (λ n. old ++ record (tidy_cell c) { id = id } ∷ numbered n (filter stays rest)) (sym (one_more id))
          ∙ ap (λ cs. old ++ numbered id cs) (sym (filter_by (tidy_cell c) rest true stay))));
      bound = omega arith;
    }

pub puts_none : (old : List Cell) (id : ℕ) (c t : Cell) → t ≡ record (tidy_cell c) { id = id } → stays t ≡ false → PutsCell old id c old id
puts_none old id c t e s =
    let goes : stays (tidy_cell c) ≡ false = ap stays (sym e) ∙ s in
    record { step = λ rest. ap (λ cs. old ++ numbered id cs) (sym (filter_by (tidy_cell c) rest false goes)); bound = omega arith }

-- ---- all cells of a section

pub cells_turn : (cells rest : List Cell) (c : Cell) (a b whole : List Cell) (id next : ℕ) → cells ≡ c ∷ rest → a ++ numbered id (tidy_cells cells) ≡ whole → PutsCell a id c b next → b ++ numbered next (tidy_cells rest) ≡ whole
cells_turn cells rest c a b whole id next e h p = p.step (map tidy_cell rest) ∙ (ap (λ cs. a ++ numbered id (tidy_cells cs)) (sym e) ∙ h)

pub cells_last : (cells : List Cell) (i : ℕ) (a whole : List Cell) (id : ℕ) → length cells ≤ i → a ++ numbered id (tidy_cells (drop i cells)) ≡ whole → a ≡ whole
cells_last cells i a whole id all h =
    let none : drop i cells ≡ [] = drop_of_length-le cells all in
    sym (append-nil a) ∙ (ap (λ cs. a ++ numbered id (tidy_cells cs)) (sym none) ∙ h)

-- ---- how many cells

pub fewer : (cs : List Cell) → length (tidy_cells cs) ≤ length cs
fewer [] = omega arith
fewer (c ∷ cs) =
    let h : length (tidy_cells cs) ≤ length cs = fewer cs in
    elim (stays (tidy_cell c))
    as (λ b. length (cond b (tidy_cell c ∷ filter stays (map tidy_cell cs)) (filter stays (map tidy_cell cs))) ≤ length (c ∷ cs))
    [ true ↦ omega arith | false ↦ omega arith ]

pub fewer_in_all : (all ss : List Section) (number next : ℕ) → length (flat_map cells_of (tidy_sections all number next ss)) ≤ length (flat_map cells_of ss)
fewer_in_all all [] number next = omega arith
fewer_in_all all (s ∷ ss) number next =
    let here : length (numbered next (tidy_cells s.cells)) ≡ length (tidy_cells s.cells) = length-numbered next (tidy_cells s.cells) in
    let few : length (tidy_cells s.cells) ≤ length s.cells = fewer s.cells in
    let more : length (flat_map cells_of (tidy_sections all (suc number) (next + length (tidy_cells s.cells)) ss)) ≤ length (flat_map cells_of ss) = fewer_in_all all ss (suc number) (next + length (tidy_cells s.cells)) in
    let left : length (numbered next (tidy_cells s.cells) ++ flat_map cells_of (tidy_sections all (suc number) (next + length (tidy_cells s.cells)) ss)) ≡ length (numbered next (tidy_cells s.cells)) + length (flat_map cells_of (tidy_sections all (suc number) (next + length (tidy_cells s.cells)) ss)) = length-append (numbered next (tidy_cells s.cells)) _ in
    let right : length (s.cells ++ flat_map cells_of ss) ≡ length s.cells + length (flat_map cells_of ss) = length-append s.cells (flat_map cells_of ss) in
    omega arith

pub length-sections : (all ss : List Section) (number next : ℕ) → length (tidy_sections all number next ss) ≡ length ss
length-sections all [] number next = refl
length-sections all (s ∷ ss) number next = ap (λ k. suc k) (length-sections all ss (suc number) (next + length (tidy_cells s.cells)))

-- ---- all sections

-- the sections put, and those that are left; and there is room for the numbers of the cells that are left
pub record IsOn (all ss out : List Section) (number next : ℕ) : Type 0 where
  pub step : out ++ tidy_sections all number next ss ≡ tidy_sections all 1 1 all
  pub few : next + length (flat_map cells_of ss) ≤ 4001

pub on_first : (all : List Section) → length (flat_map cells_of all) ≤ 4000 → IsOn all all [] 1 1
on_first all h = record { step = refl; few = omega arith }

pub on_turn : (all ss rest out out2 : List Section) (s t : Section) (number next number2 next2 many : ℕ) → ss ≡ s ∷ rest → IsOn all ss out number next → t ≡ tidy_section all number next s → number2 ≡ number + 1 → many ≡ length t.cells → next2 ≡ next + many → out2 ≡ out ++ t ∷ [] → IsOn all rest out2 number2 next2
on_turn all ss rest out out2 s t number next number2 next2 many e h m n c x p =
    let count : many ≡ length (tidy_cells s.cells) = c ∙ (ap (λ (u : Section). length u.cells) m ∙ length-numbered next (tidy_cells s.cells)) in
    let few : length (tidy_cells s.cells) ≤ length s.cells = fewer s.cells in
    let all_of : length (flat_map cells_of ss) ≡ length s.cells + length (flat_map cells_of rest) = ap (λ us. length (flat_map cells_of us)) e ∙ length-append s.cells (flat_map cells_of rest) in
    let next_is : next2 ≡ next + length (tidy_cells s.cells) = x ∙ ap (λ k. next + k) count in
    let number_is : number2 ≡ suc number = n ∙ sym (one_more number) in
    record {
      step =
          ap (λ k. out2 ++ tidy_sections all number2 k rest) next_is
          ∙ (ap (λ k. out2 ++ tidy_sections all k (next + length (tidy_cells s.cells)) rest) number_is
          ∙ (ap (λ us. us ++ tidy_sections all (suc number) (next + length (tidy_cells s.cells)) rest) (p ∙ ap (λ u. out ++ u ∷ []) m)
          ∙ (append_assoc out (tidy_section all number next s ∷ []) (tidy_sections all (suc number) (next + length (tidy_cells s.cells)) rest)
          ∙ (ap (λ us. out ++ tidy_sections all number next us) (sym e) ∙ h.step))));
      few = omega (arith, h.few, few, all_of, next_is);
    }

pub on_last : (all ss out : List Section) (i number next : ℕ) → length all ≤ i → IsOn all (drop i all) out number next → out ≡ tidy_sections all 1 1 all
on_last all ss out i number next whole h =
    let none : drop i all ≡ [] = drop_of_length-le all whole in
    sym (append-nil out) ∙ (ap (λ us. out ++ tidy_sections all number next us) (sym none) ∙ h.step)

-- the cells of a section that is still to come have room
pub room : (all ss rest out : List Section) (s : Section) (number next : ℕ) → ss ≡ s ∷ rest → IsOn all ss out number next → next + length s.cells ≤ 4001
room all ss rest out s number next e h =
    let all_of : length (flat_map cells_of ss) ≡ length s.cells + length (flat_map cells_of rest) = ap (λ us. length (flat_map cells_of us)) e ∙ length-append s.cells (flat_map cells_of rest) in
    omega (arith, h.few, all_of)

pub few_tidy : (all seen out shown : List Section) → seen ≡ all → out ≡ tidy_sections seen 1 1 seen → shown ≡ out → length (flat_map cells_of all) ≤ 4000 → length (flat_map cells_of shown) ≤ 4000
few_tidy all seen out shown e f g few =
    let same : length (flat_map cells_of shown) ≡ length (flat_map cells_of (tidy_sections all 1 1 all)) = ap (λ us. length (flat_map cells_of us)) (g ∙ (f ∙ ap (λ us. tidy_sections us 1 1 us) e)) in
    let less : length (flat_map cells_of (tidy_sections all 1 1 all)) ≤ length (flat_map cells_of all) = fewer_in_all all all 1 1 in
    omega arith
