-- What is tidied is tidy: cells, sections and the whole notebook.
use Rattle.std.proofs.Common.{◌≡◌, ℕ, ◌+◌, ◌<◌, ◌≤◌, suc, zero, Bool, true, false, ◌&&◌, cond, List, [], ◌∷◌, ◌++◌, Option, Some, None, length, map, filter, refl, sym, ap, ◌∙◌, arith, subst, append_assoc, length-append, eqb-true, eq-eqb}
use Rattle.std.specs.Prelude.{◌==◌, not, Contains, option_map}
use Rattle.std.specs.List.{AllByRecursion, flat_map}
use Rattle.std.proofs.lemmas.Bool.Decides.{nat_tests}
use Rattle.std.proofs.lemmas.List.{map-append}
use Rattle.utf16_text.specs.Units.{AreScalars}
use Rattle.notebook.specs.declared.parts.Cell.{Cell}
use Rattle.notebook.specs.declared.parts.Saved.{Saved}
use Rattle.notebook.specs.declared.parts.Section.{Section}
use Rattle.notebook.specs.declared.parts.Parts.{Parts}
use Rattle.notebook.specs.declared.parts.Kind.{Kind}
use Rattle.notebook.specs.declared.parts.Kind.TheVariants as cell
use Rattle.notebook.specs.Book.{cells_of, section_cells}
use Rattle.notebook.specs.Rules.{IsNotebook, section_number, AreDistinct, IsSectionKind, IsSectionCell, IsParentAmong, ParentsStand}
use Rattle.blanks.specs.Blanks.{is_empty}
use Rattle.livemd_format.specs.Made.{stem_at}
use Rattle.livemd_format.specs.RoundTrip.{AreCellTexts, AreOutputTexts, AreSectionTexts, AreTexts, HasPlainInfo, IsPlain, IsPlainCell, IsPlainSection}
use Rattle.livemd_format.specs.Tidy.{changed, clean, is_markdown, number_from, numbered, stays, tidied, tidy_cell, tidy_cells, tidy_markdown, tidy_outputs, tidy_saved, tidy_section, tidy_sections, tidy_source}
use Rattle.livemd_format.proofs.Tidiness.{AreTidyCells, AreTidySections, IsFound, IsTidyBook, IsTidyCell, IsTidyCode, IsTidyOwn, IsTidySaved}
use Rattle.livemd_format.proofs.TidyTexts.{before_tidy, fenced_tidy, last_tidy, markdown_tidy, name_tidy, saved_tidy}

-- ---- cells

outputs_tidy : (os : List Saved) → AllByRecursion AreOutputTexts os → AllByRecursion HasPlainInfo os → AllByRecursion IsTidySaved (map tidy_saved os)
outputs_tidy [] h k = tt
outputs_tidy (o ∷ os) h k = (saved_tidy o h.0 k.0, outputs_tidy os h.1 k.1)

code_tidy : (source : List ℕ) (saved : List Saved) → AreScalars source → AllByRecursion AreOutputTexts saved → AllByRecursion HasPlainInfo saved → IsTidyCode (changed clean source) (map tidy_saved saved)
code_tidy source saved h o i = record { source_text = fenced_tidy source h; outputs = outputs_tidy saved o i }

not_false : (b : Bool) → not b ≡ true → b ≡ false
not_false true h = absurd cc
not_false false h = refl

own_tidy : (k : Kind) (source : List ℕ) (saved : List Saved) → AreScalars source → AllByRecursion AreOutputTexts saved → AllByRecursion HasPlainInfo saved → not (is_markdown k && is_empty (tidy_source k source)) ≡ true
    → IsTidyOwn k (tidy_source k source) (tidy_outputs k saved)
own_tidy cell.Markdown source saved h o i s = record { source_text = markdown_tidy source h (not_false (is_empty (changed tidy_markdown source)) s); outputs = refl }
own_tidy cell.Code source saved h o i s = code_tidy source saved h o i
own_tidy cell.Setup source saved h o i s = code_tidy source saved h o i

cell_is_tidy : (id : ℕ) (c : Cell) → IsSectionKind c.kind → AreCellTexts c → IsPlainCell c → stays (tidy_cell c) ≡ true → IsTidyCell id (record (tidy_cell c) { id = id })
cell_is_tidy id c k h p s = record {
  id = refl;
  kinds = k;
  before = before_tidy c.before h.before p.before;
  own = own_tidy c.kind c.source c.saved h.source h.saved p.saved s;
}

cells_tidy : (next : ℕ) (cs : List Cell) → AllByRecursion IsSectionCell cs → AllByRecursion AreCellTexts cs → AllByRecursion IsPlainCell cs → AreTidyCells next (numbered next (tidy_cells cs))
cells_tidy next [] k h p = tt
cells_tidy next (c ∷ cs) k h p =
    elim (stays (tidy_cell c))
    as (λ b. stays (tidy_cell c) ≡ b → AreTidyCells next (numbered next (cond b (tidy_cell c ∷ filter stays (map tidy_cell cs)) (filter stays (map tidy_cell cs)))))
    [ true ↦ λ e. (cell_is_tidy next c k.0 h.0 p.0 e, cells_tidy (suc next) cs k.1 h.1 p.1) | false ↦ λ e. cells_tidy next cs k.1 h.1 p.1 ]
    refl

-- ---- where a parent stands

-- the section at the index is the first with the number, and doesn't branch
abbrev IsStemAt : List Section → ℕ → ℕ → Type 0
IsStemAt [] id i = ⊥
IsStemAt (s ∷ ss) id zero = ((s.id == id) ≡ true) × (s.parent ≡ None)
IsStemAt (s ∷ ss) id (suc i) = ((s.id == id) ≡ false) × IsStemAt ss id i

stem_there : (ss : List Section) (id i : ℕ) → IsStemAt ss id i → Contains (map section_number ss) id
stem_there [] id i h = absurd h
stem_there (s ∷ ss) id zero h = (zero, omega arith, eqb-true s.id id h.0)
stem_there (s ∷ ss) id (suc i) h = let r = stem_there ss id i h.1 in (suc r.0, omega (arith, r.1), r.2)

other_number : (s : Section) (ss : List Section) (id i : ℕ) (b : Bool) → (s.id == id) ≡ b → ¬ Contains (map section_number ss) s.id → IsStemAt ss id i → b ≡ false
other_number s ss id i true e d h = absurd (d (subst (λ n. Contains (map section_number ss) n) (sym (eqb-true s.id id e)) (stem_there ss id i h)))
other_number s ss id i false e d h = refl

stem_of : (ss : List Section) (s : Section) (id : ℕ) → AreDistinct (map section_number ss) → Contains ss s → s.id ≡ id → s.parent ≡ None → (i : ℕ) × IsStemAt ss id i
stem_of [] s id d (i, within, at) e p = absurd (omega arith)
stem_of (t ∷ ss) s id d (zero, within, at) e p = (zero, (eq-eqb t.id id (ap (λ (u : Section). u.id) at ∙ e), ap (λ (u : Section). u.parent) at ∙ p))
stem_of (t ∷ ss) s id d (suc i, within, at) e p = let r = stem_of ss s id d.1 (i, omega arith, at) e p in (suc r.0, (other_number t ss id r.0 (t.id == id) refl d.0 r.1, r.1))

-- its number is counted from the first
number_at : (ss rest : List Section) (id i next : ℕ) → IsStemAt ss id i → number_from next id (ss ++ rest) ≡ next + i
number_at [] rest id i next h = absurd h
number_at (s ∷ ss) rest id zero next h = ap (λ (b : Bool). cond b next (number_from (suc next) id (ss ++ rest))) h.0 ∙ (let e : next ≡ next + 0 = omega arith in e)
number_at (s ∷ ss) rest id (suc i) next h = ap (λ (b : Bool). cond b next (number_from (suc next) id (ss ++ rest))) h.0 ∙ (number_at ss rest id i (suc next) h.1 ∙ (let e : suc next + i ≡ next + suc i = omega arith in e))

-- tidy sections are found by their numbers; the number behind the last is none's
same_number : (n : ℕ) → (n == n + 0) ≡ true
same_number n = grind (arith, nat_tests)

later_number : (n i : ℕ) → (n == n + suc i) ≡ false
later_number n i = grind (arith, nat_tests)

pub index_of : (all ss : List Section) (i k number next : ℕ) → i ≤ length ss → number_from k (number + i) (tidy_sections all number next ss) ≡ k + i
index_of all [] i k number next le = let e : k ≡ k + i = omega arith in e
index_of all (s ∷ ss) zero k number next le = ap (λ (b : Bool). cond b k (number_from (suc k) (number + 0) (tidy_sections all (suc number) (next + length (tidy_cells s.cells)) ss))) (same_number number) ∙ (let e : k ≡ k + 0 = omega arith in e)
index_of all (s ∷ ss) (suc i) k number next le =
    let more : List Section = tidy_sections all (suc number) (next + length (tidy_cells s.cells)) ss in
    let n : number + suc i ≡ suc number + i = omega arith in
    ap (λ (b : Bool). cond b k (number_from (suc k) (number + suc i) more)) (later_number number i)
    ∙ (ap (λ m. number_from (suc k) m more) n ∙ (index_of all ss i (suc k) (suc number) (next + length (tidy_cells s.cells)) (omega arith) ∙ (let e : suc k + i ≡ k + suc i = omega arith in e)))

-- sections numbered from the number on, with the same stems
abbrev Mirrors : ℕ → List Section → List Section → Type 0
Mirrors number [] [] = Unit {0}
Mirrors number [] (t ∷ ts) = ⊥
Mirrors number (s ∷ ss) [] = ⊥
Mirrors number (s ∷ ss) (t ∷ ts) = (t.id ≡ number) × ((s.parent ≡ None → t.parent ≡ None) × Mirrors (suc number) ss ts)

mirrors_more : (number : ℕ) (ss ts : List Section) (s t : Section) → Mirrors number ss ts → t.id ≡ number + length ss → (s.parent ≡ None → t.parent ≡ None) → Mirrors number (ss ++ s ∷ []) (ts ++ t ∷ [])
mirrors_more number [] [] s t m e p = (omega (arith, e), (p, tt))
mirrors_more number [] (u ∷ ts) s t m e p = absurd m
mirrors_more number (r ∷ ss) [] s t m e p = absurd m
mirrors_more number (r ∷ ss) (u ∷ ts) s t m e p = (m.0, (m.1.0, mirrors_more (suc number) ss ts s t m.1.1 (omega (arith, e)) p))

stem_mirrored : (number : ℕ) (ss ts : List Section) (id i : ℕ) → Mirrors number ss ts → IsStemAt ss id i → stem_at i ts ≡ Some (number + i)
stem_mirrored number [] ts id i m h = absurd h
stem_mirrored number (s ∷ ss) [] id i m h = absurd m
stem_mirrored number (s ∷ ss) (t ∷ ts) id zero m h = let e : number ≡ number + 0 = omega arith in rw (m.1.0 h.1) (ap Some (m.0 ∙ e))
stem_mirrored number (s ∷ ss) (t ∷ ts) id (suc i) m h = let e : suc number + i ≡ number + suc i = omega arith in stem_mirrored (suc number) ss ts id i m.1.1 h.1 ∙ ap Some e

stem_within : (ss rest : List Section) (id i : ℕ) → IsStemAt ss id i → i < length (ss ++ rest)
stem_within [] rest id i h = absurd h
stem_within (s ∷ ss) rest id zero h = omega arith
stem_within (s ∷ ss) rest id (suc i) h = omega (arith, stem_within ss rest id i h.1)

-- a parent is found by its new number
parent_found : (all front rest fronts : List Section) (o : Option ℕ) → AreDistinct (map section_number front) → all ≡ front ++ rest → length all ≤ 1000 → Mirrors 1 front fronts → IsParentAmong front o
    → IsFound (tidy_sections all 1 1 all) fronts (option_map (λ id. number_from 1 id all) o)
parent_found all front rest fronts None d e few m h = tt
parent_found all front rest fronts (Some id) d e few m (s, (there, (i, p))) =
    let at = stem_of front s id d there i p in
    let number : number_from 1 id all ≡ 1 + at.0 = ap (number_from 1 id) e ∙ number_at front rest id at.0 1 at.1 in
    let within : at.0 < length all = rw e (stem_within front rest id at.0 at.1) in
    let z : 0 + at.0 ≡ at.0 = omega arith in
    let index : number_from 0 (number_from 1 id all) (tidy_sections all 1 1 all) ≡ at.0 = ap (λ n. number_from 0 n (tidy_sections all 1 1 all)) number ∙ (index_of all all at.0 0 1 1 (omega (arith, within)) ∙ z) in
    (ap (λ k. stem_at k fronts) index ∙ (stem_mirrored 1 front fronts id at.0 m at.1 ∙ ap Some (sym number)), omega (arith, index, within))

-- ---- sections

pub length-numbered : (n : ℕ) (cs : List Cell) → length (numbered n cs) ≡ length cs
length-numbered n [] = refl
length-numbered n (c ∷ cs) = ap (λ k. suc k) (length-numbered (suc n) cs)

there_more : (ns ms : List ℕ) (n : ℕ) → Contains ns n → Contains (ns ++ ms) n
there_more [] ms n (i, within, at) = absurd (omega arith)
there_more (m ∷ ns) ms n (zero, within, at) = (zero, omega arith, at)
there_more (m ∷ ns) ms n (suc i, within, at) = let r = there_more ns ms n (i, omega arith, at) in (suc r.0, omega (arith, r.1), r.2)

pub front_distinct : (front rest : List Section) → AreDistinct (map section_number (front ++ rest)) → AreDistinct (map section_number front)
front_distinct [] rest h = tt
front_distinct (s ∷ front) rest h = (λ there. h.0 (subst (λ ns. Contains ns s.id) (sym (map-append section_number front rest)) (there_more (map section_number front) (map section_number rest) s.id there)), front_distinct front rest h.1)

pub all_left : {X : Type 0} (P : X → Type 0) (xs ys : List X) → AllByRecursion P (xs ++ ys) → AllByRecursion P xs
all_left P [] ys h = tt
all_left P (x ∷ xs) ys h = (h.0, all_left P xs ys h.1)

pub all_right : {X : Type 0} (P : X → Type 0) (xs ys : List X) → AllByRecursion P (xs ++ ys) → AllByRecursion P ys
all_right P [] ys h = h
all_right P (x ∷ xs) ys h = all_right P xs ys h.1

no_parent : (all : List Section) (o : Option ℕ) → o ≡ None → option_map (λ id. number_from 1 id all) o ≡ None
no_parent all o e = rw e refl

sections_tidy : (all front fronts ss : List Section) (number next : ℕ) → all ≡ front ++ ss → AreDistinct (map section_number all) → length all ≤ 1000 → Mirrors 1 front fronts → number ≡ 1 + length front → ParentsStand front ss → AllByRecursion IsSectionCell (flat_map cells_of ss) → AllByRecursion AreSectionTexts ss → AllByRecursion IsPlainSection ss
    → AreTidySections (tidy_sections all 1 1 all) fronts number next (tidy_sections all number next ss)
sections_tidy all front fronts [] number next e d few m n p k h q = tt
sections_tidy all front fronts (s ∷ ss) number next e d few m n p k h q =
    let t : Section = tidy_section all number next s in
    let cells : List Cell = numbered next (tidy_cells s.cells) in
    let on : all ≡ (front ++ s ∷ []) ++ ss = e ∙ sym (append_assoc front (s ∷ []) ss) in
    let more : ℕ = next + length (tidy_cells s.cells) in
    let count : next + length cells ≡ more = ap (λ c. next + c) (length-numbered next (tidy_cells s.cells)) in
    let longer : suc number ≡ 1 + length (front ++ s ∷ []) = omega (arith, n, length-append front (s ∷ [])) in
    let fronts_distinct : AreDistinct (map section_number front) = front_distinct front (s ∷ ss) (subst (λ us. AreDistinct (map section_number us)) e d) in
    let later : AreTidySections (tidy_sections all 1 1 all) (fronts ++ t ∷ []) (suc number) more (tidy_sections all (suc number) more ss) =
    sections_tidy all (front ++ s ∷ []) (fronts ++ t ∷ []) ss (suc number) more on d few (mirrors_more 1 front fronts s t m n (no_parent all s.parent)) longer p.1 (all_right IsSectionCell s.cells (flat_map cells_of ss) k) h.1 q.1 in (
      record {
        id = refl;
        name = name_tidy s.name h.0.name;
        before = before_tidy s.before h.0.before q.0.before;
        parent = parent_found all front (s ∷ ss) fronts s.parent fronts_distinct e few m p.0;
        cells = cells_tidy next s.cells (all_left IsSectionCell s.cells (flat_map cells_of ss) k) h.0.cells q.0.cells;
      },
      subst (λ c. AreTidySections (tidy_sections all 1 1 all) (fronts ++ t ∷ []) (suc number) c (tidy_sections all (suc number) more ss)) (sym count) later,
    )

-- ---- the notebook

setup_tidy : (k : Kind) (source : List ℕ) (saved : List Saved) → k ≡ cell.Setup → AreScalars source → AllByRecursion AreOutputTexts saved → AllByRecursion HasPlainInfo saved → IsTidyCode (tidy_source k source) (tidy_outputs k saved)
setup_tidy k source saved e h o i = rw e (code_tidy source saved h o i)

pub tidied_is_tidy : (n : Parts) → IsNotebook n → AreTexts n → IsPlain n → IsTidyBook (tidied n)
tidied_is_tidy n r h p = record {
  name = name_tidy n.name h.name;
  before = before_tidy n.before h.before p.before;
  setup_number = r.setup_number;
  setup_kind = r.setup_kind;
  setup_before = before_tidy n.setup.before h.setup.before p.setup.before;
  setup = setup_tidy n.setup.kind n.setup.source n.setup.saved r.setup_kind h.setup.source h.setup.saved p.setup.saved;
  sections = sections_tidy n.sections [] [] n.sections 1 1 refl r.section_numbers.1 r.few_sections tt refl r.parents (all_left IsSectionCell (section_cells n) n.bin r.kinds) h.sections p.sections;
  after = before_tidy n.after h.after p.after;
  last = last_tidy n.after h.after p.after p.last;
  bin = refl;
  next_cell = refl;
  next_section = refl;
}
