-- Notebooks in which one cell's source is replaced.
use Rattle.std.proofs.Common.{◌≡◌, ℕ, ◌+◌, ◌<◌, ◌==◌, true, false, if◌then◌else◌, List, [], ◌∷◌, ◌++◌, map, Some, refl, sym, ap, subst, ◌∙◌, arith, add-one, get_or}
use Rattle.std.specs.Prelude.{Contains}
use Rattle.std.proofs.lemmas.Bool.{eqb-true, eq-eqb}
use Rattle.std.proofs.lemmas.List.{map-append, length-append, get_or_append_left}
use Rattle.notebook.specs.declared.parts.Cell.{Cell}
use Rattle.notebook.specs.declared.parts.Section.{Section}
use Rattle.notebook.specs.declared.parts.Parts.{Parts}
use Rattle.notebook.specs.Book.{cells, cells_of, found, resourced_cell, resourced_cells, resourced_sections, resourced, source_for, with_source}
use Rattle.std.specs.List.{flat_map, AllByRecursion}
use Rattle.notebook.specs.Rules.{AreDistinct, IsBelow, IsNotebook, cell_number, numbered_cells}

-- two ways to make sources that agree on each of these cells
abbrev pub Agree : (Cell → List ℕ) → (Cell → List ℕ) → List Cell → Type 0
Agree f g [] = Unit {0}
Agree f g (c ∷ cs) = (f c ≡ g c) × Agree f g cs

same-cells : (f g : Cell → List ℕ) (cs : List Cell) → Agree f g cs → resourced_cells f cs ≡ resourced_cells g cs
same-cells f g [] h = refl
same-cells f g (c ∷ cs) h = rw (h.0, same-cells f g cs h.1) refl

agree-left : (f g : Cell → List ℕ) (xs ys : List Cell) → Agree f g (xs ++ ys) → Agree f g xs
agree-left f g [] ys h = tt
agree-left f g (x ∷ xs) ys h = (h.0, agree-left f g xs ys h.1)

agree-right : (f g : Cell → List ℕ) (xs ys : List Cell) → Agree f g (xs ++ ys) → Agree f g ys
agree-right f g [] ys h = h
agree-right f g (x ∷ xs) ys h = agree-right f g xs ys h.1

same-sections : (f g : Cell → List ℕ) (ss : List Section) → Agree f g (flat_map cells_of ss) → resourced_sections f ss ≡ resourced_sections g ss
same-sections f g [] h = refl
same-sections f g (s ∷ ss) h =
    rw (same-cells f g s.cells (agree-left f g s.cells (flat_map cells_of ss) h), same-sections f g ss (agree-right f g s.cells (flat_map cells_of ss) h)) refl

-- ways that agree on the live cells make one notebook
same-book : (f g : Cell → List ℕ) (n : Parts) → Agree f g (cells n) → resourced f n ≡ resourced g n
same-book f g n h = rw (h.0, same-sections f g n.sections h.1) refl

-- a notebook resourced twice
fused-cells : (f g : Cell → List ℕ) (cs : List Cell) → resourced_cells g (resourced_cells f cs) ≡ resourced_cells (λ c. g (resourced_cell f c)) cs
fused-cells f g [] = refl
fused-cells f g (c ∷ cs) = ap (λ ds. record c { source = g (resourced_cell f c) } ∷ ds) (fused-cells f g cs)

fused-sections : (f g : Cell → List ℕ) (ss : List Section) → resourced_sections g (resourced_sections f ss) ≡ resourced_sections (λ c. g (resourced_cell f c)) ss
fused-sections f g [] = refl
fused-sections f g (s ∷ ss) = ap (λ cs. record s { cells = cs } ∷ resourced_sections g (resourced_sections f ss)) (fused-cells f g s.cells) ∙ ap (λ ts. record s { cells = resourced_cells (λ c. g (resourced_cell f c)) s.cells } ∷ ts) (fused-sections f g ss)

pub fused : (f g : Cell → List ℕ) (n : Parts) → resourced g (resourced f n) ≡ resourced (λ c. g (resourced_cell f c)) n
fused f g n = ap (λ ss. record n { setup = record n.setup { source = g (resourced_cell f n.setup) }; sections = ss }) (fused-sections f g n.sections)

-- sources that are the same at each cell
agree-all : (f g : Cell → List ℕ) → ((c : Cell) → f c ≡ g c) → (cs : List Cell) → Agree f g cs
agree-all f g h [] = tt
agree-all f g h (c ∷ cs) = (h c, agree-all f g h cs)

pub same-each : (f g : Cell → List ℕ) (n : Parts) → ((c : Cell) → f c ≡ g c) → resourced f n ≡ resourced g n
same-each f g n h = same-book f g n (agree-all f g h (cells n))

-- sources that are the same at the cell of a number, and at each cell of another number
pub record AgreeBut (f g : Cell → List ℕ) (k : ℕ) (own : Cell) : Type 0 where
  pub here : f own ≡ g own
  pub others : (c : Cell) → (c.id == k) ≡ false → f c ≡ g c

absent-cells : (k : ℕ) (cs : List Cell) → (¬ Contains (map cell_number cs) k) → (f g : Cell → List ℕ) → ((c : Cell) → (c.id == k) ≡ false → f c ≡ g c) → Agree f g cs
absent-cells k [] h f g others = tt
absent-cells k (c ∷ cs) h f g others =
    let rest : Agree f g cs = absent-cells k cs (λ w. h (w.0 + 1, grind (arith, w.1), subst (λ i. get_or (map cell_number (c ∷ cs)) i k ≡ k) (sym (add-one w.0)) w.2)) f g others in
    elim (c.id == k)
    as (λ b. (c.id == k) ≡ b → Agree f g (c ∷ cs))
    [ true ↦ λ t. absurd (h (0, grind arith, eqb-true c.id k t)) | false ↦ λ t. (others c t, rest) ]
    refl

agree-but : (f g : Cell → List ℕ) (k : ℕ) (own : Cell) → AgreeBut f g k own → (cs : List Cell) → AreDistinct (map cell_number cs) → found k cs ≡ Some own → Agree f g cs
agree-but f g k own h [] d e = absurd (cc e)
agree-but f g k own h (c ∷ cs) d e =
    elim (c.id == k)
    as (λ b. (c.id == k) ≡ b → (if b then Some c else found k cs) ≡ Some own → Agree f g (c ∷ cs)) [
      | true ↦ λ t here. let same : c ≡ own = cc here in
          let number : c.id ≡ k = eqb-true c.id k t in
          (subst (λ x. f x ≡ g x) (sym same) h.here, absent-cells k cs (subst (λ i. ¬ Contains (map cell_number cs) i) number d.0) f g h.others)
      | false ↦ λ t there. (h.others c t, agree-but f g k own h cs d.1 there)
    ]
    refl
    e

pub same-but : (f g : Cell → List ℕ) (n : Parts) (k : ℕ) (own : Cell) → AreDistinct (map cell_number (cells n)) → found k (cells n) ≡ Some own → AgreeBut f g k own → resourced f n ≡ resourced g n
same-but f g n k own d there h = same-book f g n (agree-but f g k own h (cells n) d there)

number-of : (k : ℕ) (cs : List Cell) (own : Cell) → found k cs ≡ Some own → own.id ≡ k
number-of k [] own e = absurd (cc e)
number-of k (c ∷ cs) own e =
    elim (c.id == k)
    as (λ b. (c.id == k) ≡ b → (if b then Some c else found k cs) ≡ Some own → own.id ≡ k)
    [ true ↦ λ t h. let same : c ≡ own = cc h in subst (λ x. x.id ≡ k) same (eqb-true c.id k t) | false ↦ λ t h. number-of k cs own h ]
    refl
    e

-- a resourced notebook in which one cell is given a source
pub with-one-source : (f g : Cell → List ℕ) (n : Parts) (k : ℕ) (t : List ℕ) (own : Cell) → AreDistinct (map cell_number (cells n)) → found k (cells n) ≡ Some own → g own ≡ t → ((c : Cell) → (c.id == k) ≡ false → g c ≡ f c) → with_source k t (resourced f n) ≡ resourced g n
with-one-source f g n k t own d there here others =
    let w : Cell → List ℕ = λ c. source_for k t (resourced_cell f c) in
    let at_own : (own.id == k) ≡ true = eq-eqb own.id k (number-of k (cells n) own there) in
    let but : AgreeBut w g k own = record {
      here = ap (λ b. if b then t else f own) at_own ∙ sym here;
      others = λ c e. ap (λ b. if b then t else f c) e ∙ sym (others c e);
    } in
    fused f (source_for k t) n ∙ same-but w g n k own d there but

-- the live cells of a notebook have numbers of their own
contains-front : (xs ys : List ℕ) (x : ℕ) → Contains xs x → Contains (xs ++ ys) x
contains-front xs ys x w = (w.0, rw length-append (omega (arith, w.1)), get_or_append_left xs ys x w.0 w.1 ∙ w.2)

distinct-front : (xs ys : List ℕ) → AreDistinct (xs ++ ys) → AreDistinct xs
distinct-front [] ys h = tt
distinct-front (x ∷ xs) ys h = (λ w. h.0 (contains-front xs ys x w), distinct-front xs ys h.1)

pub live-apart : (n : Parts) → IsNotebook n → AreDistinct (map cell_number (cells n))
live-apart n h =
    let all : AreDistinct (map cell_number (cells n) ++ map cell_number n.bin) = subst AreDistinct (ap (λ i. i ∷ map cell_number (numbered_cells n)) (sym h.setup_number) ∙ map-append cell_number (cells n) n.bin) h.cell_numbers in
    distinct-front (map cell_number (cells n)) (map cell_number n.bin) all

-- a live cell has a number below the next one
below-found : (next k : ℕ) (cs more : List Cell) (c : Cell) → AllByRecursion (IsBelow next) (map cell_number (cs ++ more)) → found k cs ≡ Some c → c.id < next
below-found next k [] more c h e = absurd (cc e)
below-found next k (d ∷ cs) more c h e =
    elim (d.id == k)
    as (λ b. (if b then Some d else found k cs) ≡ Some c → c.id < next)
    [ true ↦ λ here. let same : d ≡ c = cc here in subst (λ (x : Cell). x.id < next) same h.0 | false ↦ λ there. below-found next k cs more c h.1 there ]
    e

pub found-below : (n : Parts) (k : ℕ) (c : Cell) → IsNotebook n → found k (cells n) ≡ Some c → k < n.next_cell
found-below n k c h e =
    let all : AllByRecursion (IsBelow n.next_cell) (map cell_number (cells n ++ n.bin)) = subst (λ i. AllByRecursion (IsBelow n.next_cell) (i ∷ map cell_number (numbered_cells n))) (sym h.setup_number) h.next_cell in
    subst (λ i. i < n.next_cell) (number-of k (cells n) c e) (below-found n.next_cell k (cells n) n.bin c all e)
