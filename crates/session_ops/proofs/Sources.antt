-- One cell's source replaced by what is made of it.
use Rattle.std.proofs.Common.{◌≡◌, ℕ, ◌==◌, Bool, true, false, if◌then◌else◌, List, [], ◌∷◌, ◌++◌, Some, None, refl, sym, ap, subst, ◌∙◌, arith}
use Rattle.std.specs.Prelude.{◌||◌}
use Rattle.std.proofs.lemmas.Bool.Decides.{nat_tests}
use Rattle.std.specs.List.{flat_map, list_any}
use Rattle.notebook.specs.declared.parts.Cell.{Cell}
use Rattle.notebook.specs.declared.parts.Section.{Section}
use Rattle.notebook.specs.declared.parts.Parts.{Parts}
use Rattle.notebook.specs.Book.{cells, cells_of, found, resourced_cells, resourced_sections, resourced, source_for, with_source}
use Rattle.notebook.specs.Flow.{is_cell}
use Rattle.session_ops.proofs.Live.{AreApart}

-- two ways to make sources that agree on each of these cells
abbrev pub Agree : (Cell → List ℕ) → (Cell → List ℕ) → List Cell → Type 0
Agree f g [] = Unit {0}
Agree f g (c ∷ cs) = (f c ≡ g c) × Agree f g cs

same-cells : (f g : Cell → List ℕ) (cs : List Cell) → Agree f g cs → resourced_cells f cs ≡ resourced_cells g cs
same-cells f g [] h = refl
same-cells f g (c ∷ cs) h = rw (h.0, same-cells f g cs h.1) refl

agree-left : (f g : Cell → List ℕ) (xs ys : List Cell) → Agree f g (xs ++ ys) → Agree f g xs
agree-left f g [] ys h = tt
agree-left f g (x ∷ xs) ys h = (h.0, agree-left f g xs ys h.1)

agree-right : (f g : Cell → List ℕ) (xs ys : List Cell) → Agree f g (xs ++ ys) → Agree f g ys
agree-right f g [] ys h = h
agree-right f g (x ∷ xs) ys h = agree-right f g xs ys h.1

same-sections : (f g : Cell → List ℕ) (ss : List Section) → Agree f g (flat_map cells_of ss) → resourced_sections f ss ≡ resourced_sections g ss
same-sections f g [] h = refl
same-sections f g (s ∷ ss) h =
    rw (same-cells f g s.cells (agree-left f g s.cells (flat_map cells_of ss) h), same-sections f g ss (agree-right f g s.cells (flat_map cells_of ss) h)) refl

-- ways that agree on the live cells make one notebook
pub same-book : (f g : Cell → List ℕ) (n : Parts) → Agree f g (cells n) → resourced f n ≡ resourced g n
same-book f g n h = rw (h.0, same-sections f g n.sections h.1) refl

-- a way that changes only the cell of a number, by a function of its source
pub record ChangesOne (f : Cell → List ℕ) (id : ℕ) (by : List ℕ → List ℕ) : Type 0 where
  pub one : (c : Cell) → (c.id == id) ≡ true → f c ≡ by c.source
  pub others : (c : Cell) → (c.id == id) ≡ false → f c ≡ c.source

for-one : (c : Cell) (id : ℕ) (source : List ℕ) → (c.id == id) ≡ true → source_for id source c ≡ source
for-one c id source e = ap (λ b. if b then source else c.source) e

for-other : (c : Cell) (id : ℕ) (source : List ℕ) → (c.id == id) ≡ false → source_for id source c ≡ c.source
for-other c id source e = ap (λ b. if b then source else c.source) e

-- where no cell has the number, nothing changes
none-of : (f : Cell → List ℕ) (id : ℕ) (by : List ℕ → List ℕ) (source : List ℕ) → ChangesOne f id by → (c : Cell) (cs : List Cell) (b : Bool) → (c.id == id) ≡ b → (if b then Some c else found id cs) ≡ None → (found id cs ≡ None → Agree f (source_for id source) cs) → Agree f (source_for id source) (c ∷ cs)
none-of f id by source h c cs true t e more = absurd (cc e)
none-of f id by source h c cs false t e more = (h.others c t ∙ sym (for-other c id source t), more e)

none-left : (f : Cell → List ℕ) (id : ℕ) (by : List ℕ → List ℕ) (source : List ℕ) → ChangesOne f id by → (cs : List Cell) → found id cs ≡ None → Agree f (source_for id source) cs
none-left f id by source h [] e = tt
none-left f id by source h (c ∷ cs) e = none-of f id by source h c cs (c.id == id) refl e (none-left f id by source h cs)

-- a number that no cell has isn't found
absent : (id : ℕ) (cs : List Cell) → list_any (is_cell id) cs ≡ false → found id cs ≡ None
absent id [] h = refl
absent id (c ∷ cs) h =
    elim (c.id == id)
    as (λ b. (b || list_any (is_cell id) cs) ≡ false → (if b then Some c else found id cs) ≡ None)
    [ true ↦ λ k. absurd (cc k) | false ↦ λ k. absent id cs k ]
    h

same-of : (f : Cell → List ℕ) (id : ℕ) (by : List ℕ → List ℕ) → ChangesOne f id by → (c0 c : Cell) (cs : List Cell) (b : Bool) → AreApart (c ∷ cs) → (c.id == id) ≡ b → (if b then Some c else found id cs) ≡ Some c0 → (found id cs ≡ Some c0 → Agree f (source_for id (by c0.source)) cs) → Agree f (source_for id (by c0.source)) (c ∷ cs)
same-of f id by h c0 c cs true d t e more =
    let first : c ≡ c0 = cc e in
    let number : c.id ≡ id = grind (arith, nat_tests, t) in
    let head : f c ≡ source_for id (by c0.source) c = h.one c t ∙ (ap (λ k. by k.source) first ∙ sym (for-one c id (by c0.source) t)) in
    (head, none-left f id by (by c0.source) h cs (absent id cs (subst (λ k. list_any (is_cell k) cs ≡ false) number d.0)))
same-of f id by h c0 c cs false d t e more = (h.others c t ∙ sym (for-other c id (by c0.source) t), more e)

same-one : (f : Cell → List ℕ) (id : ℕ) (by : List ℕ → List ℕ) → ChangesOne f id by → (c0 : Cell) (cs : List Cell) → AreApart cs → found id cs ≡ Some c0 → Agree f (source_for id (by c0.source)) cs
same-one f id by h c0 [] d e = tt
same-one f id by h c0 (c ∷ cs) d e = same-of f id by h c0 c cs (c.id == id) d refl e (same-one f id by h c0 cs d.1)

-- where the numbers differ, a way that changes only one cell gives that cell its new source
pub with-one : (f : Cell → List ℕ) (id : ℕ) (by : List ℕ → List ℕ) (n : Parts) (c0 : Cell) → ChangesOne f id by → AreApart (cells n) → found id (cells n) ≡ Some c0 → resourced f n ≡ with_source id (by c0.source) n
with-one f id by n c0 h d e = same-book f (source_for id (by c0.source)) n (same-one f id by h c0 (cells n) d e)
