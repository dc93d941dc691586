-- What changes of the sums over all cells.
use Rattle.std.proofs.Common.{◌≡◌, ℕ, ◌+◌, true, false, List, [], ◌∷◌, ◌++◌, Some, None, take, drop, map, refl, sym, ap, ◌∙◌, arith, subst, eqb-true, suc}
use Rattle.std.specs.Prelude.{◌==◌, ◌||◌, unwrap_or, find, if◌then◌else◌, insert}
use Rattle.std.specs.List.{list_any, flat_map}
use Rattle.std.proofs.lemmas.List.{take-append-drop}
use Rattle.notebook.specs.declared.parts.Cell.{Cell}
use Rattle.notebook.specs.declared.parts.Section.{Section}
use Rattle.notebook.specs.Book.{cells_of, found}
use Rattle.notebook.specs.Flow.{is_section}
use Rattle.notebook.specs.Rules.{AreDistinct, section_number, cell_number}
use Rattle.notebook.specs.Places.{IsSectionAt}
use Rattle.notebook.specs.Change.{lacks, with_section, but_section, cells_in, but_cell, cut_cell, with_cell, put_cell}
use Rattle.notebook.proofs.Conditions.{or-none, not-false}
use Rattle.notebook.proofs.Spots.{spot-with, spot-but, spot-cells}
use Rattle.notebook.proofs.Sources.{unfound-after}
use Rattle.notebook.proofs.Cuts.{but_cell-seam}
use Rattle.notebook.proofs.Sums.{total, total-seam, total-insert, total-cells}

-- what is in equal options is equal
some-same : {X : Type 0} (x y : X) → Some x ≡ Some y → x ≡ y
some-same x y e = ap (λ o. unwrap_or o x) e

-- a section of the number stands somewhere
pub spot-from : (id : ℕ) (ss : List Section) → list_any (is_section id) ss ≡ true → (at : ℕ) × IsSectionAt ss id at
spot-from id [] h = absurd (cc h)
spot-from id (s ∷ ss) h =
    elim (s.id == id)
    as (λ b. (s.id == id) ≡ b → (b || list_any (is_section id) ss) ≡ true → (at : ℕ) × IsSectionAt (s ∷ ss) id at) [
      | true ↦ λ e _. (0, record { front = []; home = s; back = ss; parts = refl; number = eqb-true s.id id e; place = refl; first = refl })
      | false ↦ λ e r.
          let p = spot-from id ss r in (
            suc p.0,
            record {
              front = s ∷ p.1.front;
              home = p.1.home;
              back = p.1.back;
              parts = ap (λ ts. s ∷ ts) p.1.parts;
              number = p.1.number;
              place = ap (λ (i : ℕ). suc i) p.1.place;
              first = or-none (is_section id s) (list_any (is_section id) p.1.front) e p.1.first;
            },
          )
    ]
    refl
    h

pub spot-of : (id : ℕ) (ss : List Section) → lacks id ss ≡ false → (at : ℕ) × IsSectionAt ss id at
spot-of id ss h = spot-from id ss (not-false (list_any (is_section id) ss) h)

-- the section that is found has its number, and stands somewhere
pub find-spot : (id : ℕ) (ss : List Section) (s : Section) → find (is_section id) ss ≡ Some s → (p : (at : ℕ) × IsSectionAt ss id at) × (p.1.home ≡ s)
find-spot id [] s h = absurd (cc h)
find-spot id (t ∷ ss) s h =
    elim (t.id == id)
    as (λ b. (t.id == id) ≡ b → (if b then Some t else find (is_section id) ss) ≡ Some s → (p : (at : ℕ) × IsSectionAt (t ∷ ss) id at) × (p.1.home ≡ s)) [
      | true ↦ λ e g. ((0, record { front = []; home = t; back = ss; parts = refl; number = eqb-true t.id id e; place = refl; first = refl }), some-same t s g)
      | false ↦ λ e g.
          let q = find-spot id ss s g in
          let p = q.0 in (
            (
              suc p.0,
              record {
                front = t ∷ p.1.front;
                home = p.1.home;
                back = p.1.back;
                parts = ap (λ ts. t ∷ ts) p.1.parts;
                number = p.1.number;
                place = ap (λ (i : ℕ). suc i) p.1.place;
                first = or-none (is_section id t) (list_any (is_section id) p.1.front) e p.1.first;
              },
            ),
            q.1,
          )
    ]
    refl
    h

-- a cell that is found stands somewhere
pub record IsFound (cs : List Cell) (id : ℕ) (c : Cell) : Type 0 where
  pub front : List Cell
  pub back : List Cell
  pub parts : cs ≡ front ++ c ∷ back
  pub number : c.id ≡ id
  pub first : found id front ≡ None

pub found-split : (id : ℕ) (cs : List Cell) (c : Cell) → found id cs ≡ Some c → IsFound cs id c
found-split id [] c h = absurd (cc h)
found-split id (d ∷ cs) c h =
    elim (d.id == id)
    as (λ b. (d.id == id) ≡ b → (if b then Some d else found id cs) ≡ Some c → IsFound (d ∷ cs) id c) [
      | true ↦ λ e g.
          let is : d ≡ c = some-same d c g in
          record { front = []; back = cs; parts = ap (λ x. x ∷ cs) is; number = ap (λ (x : Cell). x.id) (sym is) ∙ eqb-true d.id id e; first = refl }
      | false ↦ λ e g.
          let p = found-split id cs c g in
          record {
            front = d ∷ p.front;
            back = p.back;
            parts = ap (λ ds. d ∷ ds) p.parts;
            number = p.number;
            first = ap (λ b. if b then Some d else found id p.front) e ∙ p.first;
          }
    ]
    refl
    h

-- sums
pub sum-but_cell : (w : Cell → ℕ) (id : ℕ) (cs : List Cell) (c : Cell) → AreDistinct (map cell_number cs) → found id cs ≡ Some c → total w cs ≡ w c + total w (but_cell id cs)
sum-but_cell w id cs c apart h =
    let p = found-split id cs c h in
    let after : found id p.back ≡ None = unfound-after p.front p.back c id p.number (subst (λ (ds : List Cell). AreDistinct (map cell_number ds)) p.parts apart) in
    let less : but_cell id cs ≡ p.front ++ p.back = ap (but_cell id) p.parts ∙ but_cell-seam id p.front c p.back p.number p.first after in
    ap (total w) p.parts ∙ (total-seam w p.front c p.back ∙ ap (λ ds. w c + total w ds) (sym less))

-- a section at a seam
pub sum-seam : (w : Cell → ℕ) (front : List Section) (s t : Section) (back : List Section) → total w t.cells + total w (flat_map cells_of (front ++ s ∷ back)) ≡ total w s.cells + total w (flat_map cells_of (front ++ t ∷ back))
sum-seam w front s t back = omega (arith, total-cells w front s back, total-cells w front t back)

pub sum-put : (w : Cell → ℕ) (section index : ℕ) (c : Cell) (ss : List Section) → AreDistinct (map section_number ss) → lacks section ss ≡ false → total w (flat_map cells_of (put_cell section index c ss)) ≡ w c + total w (flat_map cells_of ss)
sum-put w section index c ss apart has =
    let q = spot-of section ss has in
    let p = q.1 in
    let new : put_cell section index c ss ≡ p.front ++ with_cell index c p.home ∷ p.back = spot-with ss section q.0 (with_cell index c) p apart in
    let one : total w (insert p.home.cells index c) ≡ w c + total w p.home.cells = total-insert w p.home.cells index c in
    let after : total w (flat_map cells_of (put_cell section index c ss)) ≡ total w (flat_map cells_of (p.front ++ with_cell index c p.home ∷ p.back)) = ap (λ ts. total w (flat_map cells_of ts)) new in
    let before : total w (flat_map cells_of ss) ≡ total w (flat_map cells_of (p.front ++ p.home ∷ p.back)) = ap (λ ts. total w (flat_map cells_of ts)) p.parts in
    let left : total w (flat_map cells_of (p.front ++ with_cell index c p.home ∷ p.back)) ≡ total w (insert p.home.cells index c) + total w (flat_map cells_of (p.front ++ p.back)) = total-cells w p.front (with_cell index c p.home) p.back in
    let right : total w (flat_map cells_of (p.front ++ p.home ∷ p.back)) ≡ total w p.home.cells + total w (flat_map cells_of (p.front ++ p.back)) = total-cells w p.front p.home p.back in
    omega (arith, one, after, before, left, right)

pub sum-but_section : (w : Cell → ℕ) (section : ℕ) (ss : List Section) → AreDistinct (map section_number ss) → lacks section ss ≡ false → total w (flat_map cells_of ss) ≡ total w (cells_in section ss) + total w (flat_map cells_of (but_section section ss))
sum-but_section w section ss apart has =
    let q = spot-of section ss has in
    let p = q.1 in
    let before : total w (flat_map cells_of ss) ≡ total w (flat_map cells_of (p.front ++ p.home ∷ p.back)) = ap (λ ts. total w (flat_map cells_of ts)) p.parts in
    let right : total w (flat_map cells_of (p.front ++ p.home ∷ p.back)) ≡ total w p.home.cells + total w (flat_map cells_of (p.front ++ p.back)) = total-cells w p.front p.home p.back in
    let less : total w (flat_map cells_of (but_section section ss)) ≡ total w (flat_map cells_of (p.front ++ p.back)) = ap (λ ts. total w (flat_map cells_of ts)) (spot-but ss section q.0 p apart) in
    let cells : total w (cells_in section ss) ≡ total w p.home.cells = ap (total w) (spot-cells ss section q.0 p) in
    omega (arith, before, right, less, cells)

pub sum-insert : (w : Cell → ℕ) (ss : List Section) (index : ℕ) (s : Section) → total w (flat_map cells_of (insert ss index s)) ≡ total w s.cells + total w (flat_map cells_of ss)
sum-insert w ss index s =
    total-cells w (take index ss) s (drop index ss) ∙ ap (λ ts. total w s.cells + total w (flat_map cells_of ts)) (take-append-drop index ss)

-- the cells of the sections, where a cell was taken out
but_cell-append : (id : ℕ) (xs ys : List Cell) → but_cell id (xs ++ ys) ≡ but_cell id xs ++ but_cell id ys
but_cell-append id [] ys = refl
but_cell-append id (x ∷ xs) ys =
    elim (x.id == id)
    as (λ b. (if b then but_cell id (xs ++ ys) else x ∷ but_cell id (xs ++ ys)) ≡ (if b then but_cell id xs else x ∷ but_cell id xs) ++ but_cell id ys)
    [ true ↦ but_cell-append id xs ys | false ↦ ap (λ zs. x ∷ zs) (but_cell-append id xs ys) ]

pub cut-cells : (id : ℕ) (ss : List Section) → flat_map cells_of (cut_cell id ss) ≡ but_cell id (flat_map cells_of ss)
cut-cells id [] = refl
cut-cells id (s ∷ ss) = ap (λ cs. but_cell id s.cells ++ cs) (cut-cells id ss) ∙ sym (but_cell-append id s.cells (flat_map cells_of ss))

-- where the cells of the section stay
pub with-cells : (section : ℕ) (f : Section → Section) (ss : List Section) → ((s : Section) → (f s).cells ≡ s.cells) → flat_map cells_of (with_section section f ss) ≡ flat_map cells_of ss
with-cells section f [] keep = refl
with-cells section f (s ∷ ss) keep =
    let here : (if s.id == section then f s else s).cells ≡ s.cells = elim (s.id == section) as (λ b. (if b then f s else s).cells ≡ s.cells) [ true ↦ keep s | false ↦ refl ] in
    ap (λ cs. cs ++ flat_map cells_of (with_section section f ss)) here ∙ ap (λ cs. s.cells ++ cs) (with-cells section f ss keep)
