-- The first cell with a number, over lists that are joined and cut.
use Rattle.std.proofs.Common.{◌≡◌, ℕ, ◌+◌, ◌<◌, true, false, List, [], ◌∷◌, ◌++◌, Some, None, length, take, drop, get_or, refl, sym, ap, ◌∙◌, arith, add-one, drop-cons, eq-eqb}
use Rattle.std.specs.Prelude.{◌==◌, if◌then◌else◌}
use Rattle.std.specs.List.{flat_map}
use Rattle.std.proofs.lemmas.Grind.{flat_map-append}
use Rattle.std.proofs.Math.Seq.{get_or-append_seam}
use Rattle.std.proofs.lemmas.List.{take_more, length-take-le, take-append-drop, append-nil}
use Rattle.notebook.specs.declared.parts.Cell.{Cell}
use Rattle.notebook.specs.declared.parts.Section.{Section}
use Rattle.notebook.specs.Book.{cells_of, found}
use Rattle.notebook.specs.Places.{IsCellAt, IsPlace}

-- where the front has none, the whole finds what the rest finds
pub found-append-none : (id : ℕ) (xs ys : List Cell) → found id xs ≡ None → found id (xs ++ ys) ≡ found id ys
found-append-none id [] ys e = refl
found-append-none id (x ∷ xs) ys e =
    elim (x.id == id)
    as (λ b. (if b then Some x else found id xs) ≡ None → (if b then Some x else found id (xs ++ ys)) ≡ found id ys)
    [ true ↦ λ h. cc | false ↦ λ h. found-append-none id xs ys h ]
    e

-- where the whole has none, neither part has one
pub none-front : (id : ℕ) (xs ys : List Cell) → found id (xs ++ ys) ≡ None → found id xs ≡ None
none-front id [] ys e = refl
none-front id (x ∷ xs) ys e =
    elim (x.id == id)
    as (λ b. (if b then Some x else found id (xs ++ ys)) ≡ None → (if b then Some x else found id xs) ≡ None)
    [ true ↦ λ h. h | false ↦ λ h. none-front id xs ys h ]
    e

pub none-back : (id : ℕ) (xs ys : List Cell) → found id (xs ++ ys) ≡ None → found id ys ≡ None
none-back id xs ys e = sym (found-append-none id xs ys (none-front id xs ys e)) ∙ e

-- a list is what stands before a place, the element there, and what stands after it
pub cut_here : {X : Type 0} (xs : List X) (i : ℕ) (x : X) → i < length xs → x ≡ get_or xs i x → xs ≡ take i xs ++ x ∷ drop (i + 1) xs
cut_here xs i x within at =
    let one : drop i xs ≡ get_or xs i x ∷ drop (i + 1) xs = rw add-one (drop-cons xs i x within) in
    let here : drop i xs ≡ x ∷ drop (i + 1) xs = one ∙ ap (λ y. y ∷ drop (i + 1) xs) (sym at) in
    sym (take-append-drop i xs) ∙ ap (λ ys. take i xs ++ ys) here

-- one cell more without the number
pub found-more : (id : ℕ) (cs : List Cell) (i : ℕ) (c : Cell) → i < length cs → c ≡ get_or cs i c → found id (take i cs) ≡ None → (c.id == id) ≡ false → found id (take (i + 1) cs) ≡ None
found-more id cs i c within at before other =
    let e : take (i + 1) cs ≡ take i cs ++ c ∷ [] = take_more cs i c within ∙ ap (λ x. take i cs ++ x ∷ []) (sym at) in
    let none : found id (c ∷ []) ≡ None = rw other refl in
    rw e (found-append-none id (take i cs) (c ∷ []) before ∙ none)

-- the cell at a place, where no earlier one has its number
pub cell_at : (cs : List Cell) (id i : ℕ) (c : Cell) → i < length cs → c ≡ get_or cs i c → found id (take i cs) ≡ None → c.id ≡ id → IsCellAt cs id i
cell_at cs id i c within at before same = record {
  front = take i cs;
  cell = c;
  back = drop (i + 1) cs;
  parts = cut_here cs i c within at;
  number = same;
  place = sym (length-take-le i cs (omega arith));
  first = before;
}

-- one section more without the number
pub found-section : (id : ℕ) (ss : List Section) (i : ℕ) (s : Section) → i < length ss → s ≡ get_or ss i s → found id (flat_map cells_of (take i ss)) ≡ None → found id s.cells ≡ None → found id (flat_map cells_of (take (i + 1) ss)) ≡ None
found-section id ss i s within at before none =
    let e : take (i + 1) ss ≡ take i ss ++ s ∷ [] = take_more ss i s within ∙ ap (λ x. take i ss ++ x ∷ []) (sym at) in
    let one : found id (s.cells ++ []) ≡ None = rw append-nil none in
    rw (e, flat_map-append) (found-append-none id (flat_map cells_of (take i ss)) (s.cells ++ []) before ∙ one)

-- the place of a cell in the section at a place, where no earlier section has its number
pub place_at : (ss : List Section) (id i j : ℕ) (s : Section) → i < length ss → s ≡ get_or ss i s → found id (flat_map cells_of (take i ss)) ≡ None → IsCellAt s.cells id j → IsPlace ss id i j
place_at ss id i j s within at before inside = record {
  front = take i ss;
  home = s;
  back = drop (i + 1) ss;
  parts = cut_here ss i s within at;
  place = sym (length-take-le i ss (omega arith));
  first = before;
  inside = inside;
}

-- the cell whose place is known is the one that is found
pub found-cell : (cs : List Cell) (id i : ℕ) (p : IsCellAt cs id i) → found id cs ≡ Some p.cell
found-cell cs id i p =
    let here : (p.cell.id == id) ≡ true = eq-eqb p.cell.id id p.number in
    let one : found id (p.cell ∷ p.back) ≡ Some p.cell = rw here refl in
    ap (found id) p.parts ∙ (found-append-none id p.front (p.cell ∷ p.back) p.first ∙ one)

pub found-some-append : (id : ℕ) (xs ys : List Cell) (c : Cell) → found id xs ≡ Some c → found id (xs ++ ys) ≡ Some c
found-some-append id [] ys c e = cc
found-some-append id (x ∷ xs) ys c e =
    elim (x.id == id)
    as (λ b. (if b then Some x else found id xs) ≡ Some c → (if b then Some x else found id (xs ++ ys)) ≡ Some c)
    [ true ↦ λ h. h | false ↦ λ h. found-some-append id xs ys c h ]
    e

pub found-place : (ss : List Section) (id i j : ℕ) (p : IsPlace ss id i j) → found id (flat_map cells_of ss) ≡ Some p.inside.cell
found-place ss id i j p =
    let home : found id p.home.cells ≡ Some p.inside.cell = found-cell p.home.cells id j p.inside in
    let after : found id (p.home.cells ++ flat_map cells_of p.back) ≡ Some p.inside.cell = found-some-append id p.home.cells (flat_map cells_of p.back) p.inside.cell home in
    ap (λ xs. found id (flat_map cells_of xs)) p.parts
    ∙ (ap (found id) (flat_map-append cells_of p.front (p.home ∷ p.back))
    ∙ (found-append-none id (flat_map cells_of p.front) (p.home.cells ++ flat_map cells_of p.back) p.first ∙ after))

-- what stands at the place
pub here-cell : (cs : List Cell) (id i : ℕ) (p : IsCellAt cs id i) (d : Cell) → get_or cs i d ≡ p.cell
here-cell cs id i p d = rw (p.parts, p.place) (get_or-append_seam p.front p.cell p.back d)

pub here-section : (ss : List Section) (id i j : ℕ) (p : IsPlace ss id i j) (d : Section) → get_or ss i d ≡ p.home
here-section ss id i j p d = rw (p.parts, p.place) (get_or-append_seam p.front p.home p.back d)
