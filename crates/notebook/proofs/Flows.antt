-- Each cell of a flow has the flow up to itself.
use Rattle.std.proofs.Common.{◌≡◌, ℕ, ◌+◌, ◌<◌, ◌==◌, ◌&&◌, ◌||◌, ◌⊎◌, Bool, true, false, cond, List, [], ◌∷◌, ◌++◌, Option, Some, None, length, map, refl, sym, ap, subst, ◌∙◌, arith, append_assoc, eq-eqb, eqb-true, suc, find, filter, inl, inr}
use Rattle.std.specs.Prelude.{Contains, is_none, if◌then◌else◌}
use Rattle.std.specs.List.{list_any, flat_map}
use Rattle.std.specs.Option.{option_map}
use Rattle.std.proofs.lemmas.List.{append-nil}
use Rattle.std.proofs.lemmas.List.Elements.{filter-append}
use Rattle.std.proofs.lemmas.List.Folds.{list_any-append}
use Rattle.std.proofs.lemmas.Grind.{flat_map-append}
use Rattle.notebook.specs.declared.parts.Cell.{Cell}
use Rattle.notebook.specs.declared.parts.Section.{Section}
use Rattle.notebook.specs.declared.parts.Parts.{Parts}
use Rattle.notebook.specs.declared.states.Lane.{Lane}
use Rattle.notebook.specs.declared.states.Lane.TheVariants.{Main}
use Rattle.notebook.specs.Book.{cells_of}
use Rattle.notebook.specs.Before.{sections_before}
use Rattle.notebook.specs.Flow.{is_code, code_cells, section_code, is_main, main_cells, is_cell, is_section, up_to, section_lane, is_code_numbered, has_code, lane_of, flow_in, flow}
use Rattle.notebook.specs.Rules.{IsNotebook, cell_number, AreDistinct, numbered_cells}
use Rattle.notebook.proofs.Standing.{Spot, spot_before, spot-lane, spot-flow}

-- tests
or_left : (a b : Bool) → (a || b) ≡ false → a ≡ false
or_left true b e = e
or_left false b e = refl

or_right : (a b : Bool) → (a || b) ≡ false → b ≡ false
or_right true b e = absurd (cc e)
or_right false b e = e

and_no : (a : Bool) → (a && false) ≡ false
and_no true = refl
and_no false = refl

and_both : (a b : Bool) → a ≡ true → b ≡ true → (a && b) ≡ true
and_both true b x y = y
and_both false b x y = absurd (cc x)

and_first : (a b : Bool) → (a && b) ≡ true → a ≡ true
and_first true b e = refl
and_first false b e = e

none-of : (o : Option ℕ) → is_none o ≡ true → o ≡ None
none-of None e = refl
none-of (Some k) e = absurd (cc e)

-- a place in a list that is joined is in the one part or in the other
abbrev SplitsAt : {X : Type 0} → List X → List X → List X → X → List X → Type 0
SplitsAt {X} us vs xs c ys = ((zs : List X) × (us ≡ xs ++ c ∷ zs)) ⊎ ((zs : List X) × ((xs ≡ us ++ zs) × (vs ≡ zs ++ c ∷ ys)))

split-more : {X : Type 0} (u x : X) (us vs xs : List X) (c : X) (ys : List X) → u ≡ x → SplitsAt us vs xs c ys → SplitsAt (u ∷ us) vs (x ∷ xs) c ys
split-more u x us vs xs c ys same (inl (zs, e)) = inl (zs, ap (λ k. k ∷ us) same ∙ ap (λ ks. x ∷ ks) e)
split-more u x us vs xs c ys same (inr (zs, (e, f))) = inr (zs, (ap (λ k. k ∷ xs) (sym same) ∙ ap (λ ks. u ∷ ks) e, f))

split : {X : Type 0} (us vs xs : List X) (c : X) (ys : List X) → us ++ vs ≡ xs ++ c ∷ ys → SplitsAt us vs xs c ys
split [] vs xs c ys e = inr (xs, (refl, e))
split (u ∷ us) vs [] c ys e = let same : u ≡ c = cc e in inl (us, ap (λ k. k ∷ us) same)
split (u ∷ us) vs (x ∷ xs) c ys e =
    let same : u ≡ x = cc e in
    let rest : us ++ vs ≡ xs ++ c ∷ ys = cc e in
    split-more u x us vs xs c ys same (split us vs xs c ys rest)

-- a code cell among cells
pub record CodeSpot (cs xs : List Cell) (c : Cell) : Type 0 where
  pub early : List Cell
  pub late : List Cell
  pub cells : cs ≡ early ++ c ∷ late
  pub code : is_code c ≡ true
  pub ahead : code_cells early ≡ xs

code-first : (d : Cell) (cs : List Cell) (c : Cell) → is_code d ≡ true → d ≡ c → CodeSpot (d ∷ cs) [] c
code-first d cs c code same = record {
  early = [];
  late = cs;
  cells = ap (λ k. k ∷ cs) same;
  code = ap is_code (sym same) ∙ code;
  ahead = refl;
}

code-later : (d : Cell) (cs xs ys : List Cell) (c : Cell) → is_code d ≡ true → CodeSpot cs xs c → CodeSpot (d ∷ cs) (d ∷ xs) c
code-later d cs xs ys c code t = record {
  early = d ∷ t.early;
  late = t.late;
  cells = ap (λ ks. d ∷ ks) t.cells;
  code = t.code;
  ahead = ap (λ b. cond b (d ∷ code_cells t.early) (code_cells t.early)) code ∙ ap (λ ks. d ∷ ks) t.ahead;
}

code-past : (d : Cell) (cs xs : List Cell) (c : Cell) → is_code d ≡ false → CodeSpot cs xs c → CodeSpot (d ∷ cs) xs c
code-past d cs xs c other t = record {
  early = d ∷ t.early;
  late = t.late;
  cells = ap (λ ks. d ∷ ks) t.cells;
  code = t.code;
  ahead = ap (λ b. cond b (d ∷ code_cells t.early) (code_cells t.early)) other ∙ t.ahead;
}

code-here : (d : Cell) (cs xs ys : List Cell) (c : Cell) → ((zs : List Cell) → code_cells cs ≡ zs ++ c ∷ ys → CodeSpot cs zs c) → is_code d ≡ true → d ∷ code_cells cs ≡ xs ++ c ∷ ys → CodeSpot (d ∷ cs) xs c
code-here d cs [] ys c further code e = let same : d ≡ c = cc e in code-first d cs c code same
code-here d cs (x ∷ xs) ys c further code e =
    let same : d ≡ x = cc e in
    let rest : code_cells cs ≡ xs ++ c ∷ ys = cc e in
    subst (λ k. CodeSpot (d ∷ cs) (k ∷ xs) c) same (code-later d cs xs ys c code (further xs rest))

pub code-spot : (cs xs ys : List Cell) (c : Cell) → code_cells cs ≡ xs ++ c ∷ ys → CodeSpot cs xs c
code-spot [] [] ys c e = absurd (cc e)
code-spot [] (x ∷ xs) ys c e = absurd (cc e)
code-spot (d ∷ cs) xs ys c e =
    elim (is_code d)
    as (λ b. is_code d ≡ b → cond b (d ∷ code_cells cs) (code_cells cs) ≡ xs ++ c ∷ ys → CodeSpot (d ∷ cs) xs c) [
      | true ↦ λ t f. code-here d cs xs ys c (λ zs g. code-spot cs zs ys c g) t f
      | false ↦ λ t f. code-past d cs xs c t (code-spot cs xs ys c f)
    ]
    refl
    e

-- a code cell of a section that branches from none
pub record MainSpot (ss : List Section) (xs : List Cell) (c : Cell) : Type 0 where
  pub front : List Section
  pub home : Section
  pub back : List Section
  pub parts : ss ≡ front ++ home ∷ back
  pub top : home.parent ≡ None
  pub early : List Cell
  pub late : List Cell
  pub cells : home.cells ≡ early ++ c ∷ late
  pub code : is_code c ≡ true
  pub ahead : main_cells front ++ code_cells early ≡ xs

main-first : (s : Section) (ss : List Section) (xs : List Cell) (c : Cell) → is_main s ≡ true → CodeSpot s.cells xs c → MainSpot (s ∷ ss) xs c
main-first s ss xs c top t = record {
  front = [];
  home = s;
  back = ss;
  parts = refl;
  top = none-of s.parent top;
  early = t.early;
  late = t.late;
  cells = t.cells;
  code = t.code;
  ahead = t.ahead;
}

main-later : (s : Section) (ss : List Section) (xs zs : List Cell) (c : Cell) → is_main s ≡ true → xs ≡ section_code s ++ zs → MainSpot ss zs c → MainSpot (s ∷ ss) xs c
main-later s ss xs zs c top e t = record {
  front = s ∷ t.front;
  home = t.home;
  back = t.back;
  parts = ap (λ ts. s ∷ ts) t.parts;
  top = t.top;
  early = t.early;
  late = t.late;
  cells = t.cells;
  code = t.code;
  ahead = ap (λ b. flat_map section_code (cond b (s ∷ filter is_main t.front) (filter is_main t.front)) ++ code_cells t.early) top
      ∙ (append_assoc (section_code s) (main_cells t.front) (code_cells t.early) ∙ (ap (λ ks. section_code s ++ ks) t.ahead ∙ sym e));
}

main-past : (s : Section) (ss : List Section) (xs : List Cell) (c : Cell) → is_main s ≡ false → MainSpot ss xs c → MainSpot (s ∷ ss) xs c
main-past s ss xs c other t = record {
  front = s ∷ t.front;
  home = t.home;
  back = t.back;
  parts = ap (λ ts. s ∷ ts) t.parts;
  top = t.top;
  early = t.early;
  late = t.late;
  cells = t.cells;
  code = t.code;
  ahead = ap (λ b. flat_map section_code (cond b (s ∷ filter is_main t.front) (filter is_main t.front)) ++ code_cells t.early) other ∙ t.ahead;
}

main-either : (s : Section) (ss : List Section) (xs ys : List Cell) (c : Cell) → ((zs : List Cell) → main_cells ss ≡ zs ++ c ∷ ys → MainSpot ss zs c) → is_main s ≡ true → SplitsAt (section_code s) (main_cells ss) xs c ys → MainSpot (s ∷ ss) xs c
main-either s ss xs ys c further top (inl (zs, e)) = main-first s ss xs c top (code-spot s.cells xs zs c e)
main-either s ss xs ys c further top (inr (zs, (e, f))) = main-later s ss xs zs c top e (further zs f)

pub main-spot : (ss : List Section) (xs ys : List Cell) (c : Cell) → main_cells ss ≡ xs ++ c ∷ ys → MainSpot ss xs c
main-spot [] [] ys c e = absurd (cc e)
main-spot [] (x ∷ xs) ys c e = absurd (cc e)
main-spot (s ∷ ss) xs ys c e =
    elim (is_main s)
    as (λ b. is_main s ≡ b → flat_map section_code (cond b (s ∷ filter is_main ss) (filter is_main ss)) ≡ xs ++ c ∷ ys → MainSpot (s ∷ ss) xs c) [
      | true ↦ λ t f. main-either s ss xs ys c (λ zs g. main-spot ss zs ys c g) t (split (section_code s) (main_cells ss) xs c ys f)
      | false ↦ λ t f. main-past s ss xs c t (main-spot ss xs ys c f)
    ]
    refl
    e

-- no number stands twice
contains-mid : (front back : List Cell) (c : Cell) → Contains (map cell_number (front ++ c ∷ back)) c.id
contains-mid [] back c = (0, omega arith, refl)
contains-mid (x ∷ front) back c =
    let t : Contains (map cell_number (front ++ c ∷ back)) c.id = contains-mid front back c in
    (suc t.0, omega (arith, t.1), t.2)

pub distinct-front : (front back : List Cell) (c : Cell) → AreDistinct (map cell_number (front ++ c ∷ back)) → list_any (is_cell c.id) front ≡ false
distinct-front [] back c h = refl
distinct-front (x ∷ front) back c h =
    elim (x.id == c.id)
    as (λ b. (x.id == c.id) ≡ b → (b || list_any (is_cell c.id) front) ≡ false) [
      | true ↦ λ same.
          let e : x.id ≡ c.id = eqb-true x.id c.id same in
          absurd (h.0 (subst (λ k. Contains (map cell_number (front ++ c ∷ back)) k) (sym e) (contains-mid front back c)))
      | false ↦ λ other. distinct-front front back c h.1
    ]
    refl

cells-clear : (id : ℕ) (cs : List Cell) → list_any (is_cell id) cs ≡ false → list_any (is_code_numbered id) cs ≡ false
cells-clear id [] e = refl
cells-clear id (c ∷ cs) e =
    let here : is_code_numbered id c ≡ false = ap (λ b. is_code c && b) (or_left (is_cell id c) (list_any (is_cell id) cs) e) ∙ and_no (is_code c) in
    ap (λ b. b || list_any (is_code_numbered id) cs) here ∙ cells-clear id cs (or_right (is_cell id c) (list_any (is_cell id) cs) e)

sections-clear : (id : ℕ) (ss : List Section) → list_any (is_cell id) (flat_map cells_of ss) ≡ false → find (has_code id) ss ≡ None
sections-clear id [] e = refl
sections-clear id (s ∷ ss) e =
    let both : (list_any (is_cell id) s.cells || list_any (is_cell id) (flat_map cells_of ss)) ≡ false = sym (list_any-append (is_cell id) s.cells (flat_map cells_of ss)) ∙ e in
    let here : has_code id s ≡ false = cells-clear id s.cells (or_left (list_any (is_cell id) s.cells) (list_any (is_cell id) (flat_map cells_of ss)) both) in
    ap (λ b. cond b (Some s) (find (has_code id) ss)) here ∙ sections-clear id ss (or_right (list_any (is_cell id) s.cells) (list_any (is_cell id) (flat_map cells_of ss)) both)

-- a code cell in a section, with the cells before it and after it
pub record In (n : Parts) (front : List Section) (home : Section) (back : List Section) (early : List Cell) (c : Cell) (late : List Cell) : Type 0 where
  pub parts : n.sections ≡ front ++ home ∷ back
  pub cells : home.cells ≡ early ++ c ∷ late
  pub code : is_code c ≡ true

in-cut : (n : Parts) (front : List Section) (home : Section) (back : List Section) (early : List Cell) (c : Cell) (late : List Cell) → In n front home back early c late → numbered_cells n ≡ (flat_map cells_of front ++ early) ++ c ∷ (late ++ (flat_map cells_of back ++ n.bin))
in-cut n front home back early c late t =
    let here : flat_map cells_of n.sections ≡ flat_map cells_of front ++ (home.cells ++ flat_map cells_of back) =
    ap (λ ss. flat_map cells_of ss) t.parts ∙ flat_map-append cells_of front (home ∷ back) in
    let inner : home.cells ≡ early ++ c ∷ late = t.cells in
    rw (here, inner) (simp append_assoc)

in-clear : (n : Parts) (front : List Section) (home : Section) (back : List Section) (early : List Cell) (c : Cell) (late : List Cell) → IsNotebook n → In n front home back early c late → (list_any (is_cell c.id) (flat_map cells_of front) || list_any (is_cell c.id) early) ≡ false
in-clear n front home back early c late book t =
    let apart : AreDistinct (map cell_number ((flat_map cells_of front ++ early) ++ c ∷ (late ++ (flat_map cells_of back ++ n.bin)))) =
    subst (λ (cs : List Cell). AreDistinct (map cell_number cs)) (in-cut n front home back early c late t) book.cell_numbers.1 in
    sym (list_any-append (is_cell c.id) (flat_map cells_of front) early) ∙ distinct-front (flat_map cells_of front ++ early) (late ++ (flat_map cells_of back ++ n.bin)) c apart

-- its number isn't the setup cell's
in-other : (n : Parts) (front : List Section) (home : Section) (back : List Section) (early : List Cell) (c : Cell) (late : List Cell) → IsNotebook n → In n front home back early c late → (n.setup.id == c.id) ≡ false
in-other n front home back early c late book t =
    let some : Contains (map cell_number (numbered_cells n)) c.id =
    subst (λ (cs : List Cell). Contains (map cell_number cs) c.id) (sym (in-cut n front home back early c late t)) (contains-mid (flat_map cells_of front ++ early) (late ++ (flat_map cells_of back ++ n.bin)) c) in
    elim (n.setup.id == c.id)
    as (λ b. (n.setup.id == c.id) ≡ b → b ≡ false) [
      | true ↦ λ same.
          let zero : c.id ≡ 0 = sym (eqb-true n.setup.id c.id same) ∙ book.setup_number in
          absurd (book.cell_numbers.0 (subst (λ k. Contains (map cell_number (numbered_cells n)) k) zero some))
      | false ↦ λ other. refl
    ]
    refl

abbrev in-spot : (n : Parts) (front : List Section) (home : Section) (back : List Section) (early : List Cell) (c : Cell) (late : List Cell) → IsNotebook n → In n front home back early c late → Spot n.sections c.id
in-spot n front home back early c late book t = record {
  front = front;
  home = home;
  back = back;
  parts = t.parts;
  none = sections-clear c.id front (or_left (list_any (is_cell c.id) (flat_map cells_of front)) (list_any (is_cell c.id) early) (in-clear n front home back early c late book t));
  early = early;
  cell = c;
  late = late;
  cells = t.cells;
  clear = cells-clear c.id early (or_right (list_any (is_cell c.id) (flat_map cells_of front)) (list_any (is_cell c.id) early) (in-clear n front home back early c late book t));
  here = and_both (is_code c) (is_cell c.id c) t.code (eq-eqb c.id c.id refl);
}

-- its lane and its flow
pub in-lane : (n : Parts) (front : List Section) (home : Section) (back : List Section) (early : List Cell) (c : Cell) (late : List Cell) → IsNotebook n → In n front home back early c late → lane_of n c.id ≡ Some (section_lane home)
in-lane n front home back early c late book t =
    spot-lane n c.id (in-spot n front home back early c late book t) (in-other n front home back early c late book t)

in-flow : (n : Parts) (front : List Section) (home : Section) (back : List Section) (early : List Cell) (c : Cell) (late : List Cell) → IsNotebook n → In n front home back early c late → flow n c.id ≡ Some ((n.setup ∷ (main_cells (sections_before n.sections front home.parent) ++ code_cells early)) ++ c ∷ [])
in-flow n front home back early c late book t =
    spot-flow n c.id (in-spot n front home back early c late book t) book (in-other n front home back early c late book t)

setup-flow : (n : Parts) → flow n n.setup.id ≡ Some (n.setup ∷ [])
setup-flow n =
    let here : (n.setup.id == n.setup.id) ≡ true = eq-eqb n.setup.id n.setup.id refl in
    ap (λ b. option_map (flow_in n n.setup.id) (if b then Some Main else option_map section_lane (find (has_code n.setup.id) n.sections))) here
    ∙ ap (λ b. Some (if b then n.setup ∷ [] else n.setup ∷ up_to (is_cell n.setup.id) (main_cells n.sections))) here

-- where the first section with a code cell of the number stands
record FoundHome (ss : List Section) (id : ℕ) (s : Section) : Type 0 where
  front : List Section
  back : List Section
  parts : ss ≡ front ++ s ∷ back
  none : find (has_code id) front ≡ None
  some : has_code id s ≡ true

found-home : (ss : List Section) (id : ℕ) (s : Section) → find (has_code id) ss ≡ Some s → FoundHome ss id s
found-home [] id s e = absurd (cc e)
found-home (x ∷ ss) id s e =
    elim (has_code id x)
    as (λ b. has_code id x ≡ b → cond b (Some x) (find (has_code id) ss) ≡ Some s → FoundHome (x ∷ ss) id s) [
      | true ↦ λ t f. let same : x ≡ s = cc f in record { front = []; back = ss; parts = ap (λ k. k ∷ ss) same; none = refl; some = ap (has_code id) (sym same) ∙ t }
      | false ↦ λ t f.
          let r : FoundHome ss id s = found-home ss id s f in
          record { front = x ∷ r.front; back = r.back; parts = ap (λ ks. x ∷ ks) r.parts; none = ap (λ b. cond b (Some x) (find (has_code id) r.front)) t ∙ r.none; some = r.some }
    ]
    refl
    e

record FoundCell (cs : List Cell) (id : ℕ) : Type 0 where
  early : List Cell
  cell : Cell
  late : List Cell
  cells : cs ≡ early ++ cell ∷ late
  clear : list_any (is_code_numbered id) early ≡ false
  here : is_code_numbered id cell ≡ true

found-cell : (cs : List Cell) (id : ℕ) → list_any (is_code_numbered id) cs ≡ true → FoundCell cs id
found-cell [] id e = absurd (cc e)
found-cell (x ∷ cs) id e =
    elim (is_code_numbered id x)
    as (λ b. is_code_numbered id x ≡ b → (b || list_any (is_code_numbered id) cs) ≡ true → FoundCell (x ∷ cs) id) [
      | true ↦ λ t f. record { early = []; cell = x; late = cs; cells = refl; clear = refl; here = t }
      | false ↦ λ t f.
          let r : FoundCell cs id = found-cell cs id f in
          record { early = x ∷ r.early; cell = r.cell; late = r.late; cells = ap (λ ks. x ∷ ks) r.cells; clear = ap (λ b. b || list_any (is_code_numbered id) r.early) t ∙ r.clear; here = r.here }
    ]
    refl
    e

abbrev found-spot : (ss : List Section) (id : ℕ) (s : Section) → find (has_code id) ss ≡ Some s → Spot ss id
found-spot ss id s e =
    let h : FoundHome ss id s = found-home ss id s e in
    let c : FoundCell s.cells id = found-cell s.cells id h.some in
    record {
      front = h.front;
      home = s;
      back = h.back;
      parts = h.parts;
      none = h.none;
      early = c.early;
      cell = c.cell;
      late = c.late;
      cells = c.cells;
      clear = c.clear;
      here = c.here;
    }

-- what stands before a section are the first sections of all
up_to-rest : {X : Type 0} (p : X → Bool) (xs : List X) → (ys : List X) × (xs ≡ up_to p xs ++ ys)
up_to-rest p [] = ([], refl)
up_to-rest {X} p (x ∷ xs) =
    elim (p x)
    as (λ b. (ys : List X) × (x ∷ xs ≡ (if b then x ∷ [] else x ∷ up_to p xs) ++ ys)) [
      | true ↦ (xs, refl)
      | false ↦ let r : (ys : List X) × (xs ≡ up_to p xs ++ ys) = up_to-rest p xs in (r.0, ap (λ ks. x ∷ ks) r.1)
    ]

before-rest : (ss front back : List Section) (s : Section) (parent : Option ℕ) → ss ≡ front ++ s ∷ back → (rest : List Section) × (ss ≡ sections_before ss front parent ++ rest)
before-rest ss front back s None e = (s ∷ back, e)
before-rest ss front back s (Some p) e = up_to-rest (is_section p) ss

-- a cell among those before the section, and one of the section's own up to the cell
prefix-main : (n : Parts) (f rest : List Section) (xs zs : List Cell) (k : Cell) → IsNotebook n → n.sections ≡ f ++ rest → main_cells f ≡ xs ++ k ∷ zs → flow n k.id ≡ Some ((n.setup ∷ xs) ++ k ∷ [])
prefix-main n f rest xs zs k book parts e =
    let t : MainSpot f xs k = main-spot f xs zs k e in
    let there : n.sections ≡ t.front ++ t.home ∷ (t.back ++ rest) = parts ∙ (ap (λ ss. ss ++ rest) t.parts ∙ append_assoc t.front (t.home ∷ t.back) rest) in
    let i : In n t.front t.home (t.back ++ rest) t.early k t.late = record { parts = there; cells = t.cells; code = t.code } in
    in-flow n t.front t.home (t.back ++ rest) t.early k t.late book i
    ∙ (ap (λ p. Some ((n.setup ∷ (main_cells (sections_before n.sections t.front p) ++ code_cells t.early)) ++ k ∷ [])) t.top
    ∙ ap (λ ks. Some ((n.setup ∷ ks) ++ k ∷ [])) t.ahead)

prefix-own : (n : Parts) (id : ℕ) (t : Spot n.sections id) (zs ys : List Cell) (k : Cell) → IsNotebook n → code_cells t.early ++ t.cell ∷ [] ≡ zs ++ k ∷ ys → flow n k.id ≡ Some ((n.setup ∷ (main_cells (sections_before n.sections t.front t.home.parent) ++ zs)) ++ k ∷ [])
prefix-own n id t zs ys k book e =
    let code : is_code t.cell ≡ true = and_first (is_code t.cell) (is_cell id t.cell) t.here in
    let all : code_cells (t.early ++ t.cell ∷ []) ≡ zs ++ k ∷ ys = filter-append is_code t.early (t.cell ∷ []) ∙ (ap (λ b. code_cells t.early ++ cond b (t.cell ∷ []) []) code ∙ e) in
    let c : CodeSpot (t.early ++ t.cell ∷ []) zs k = code-spot (t.early ++ t.cell ∷ []) zs ys k all in
    let cells : t.home.cells ≡ c.early ++ k ∷ (c.late ++ t.late) =
    t.cells ∙ (sym (append_assoc t.early (t.cell ∷ []) t.late) ∙ (ap (λ ks. ks ++ t.late) c.cells ∙ append_assoc c.early (k ∷ c.late) t.late)) in
    let i : In n t.front t.home t.back c.early k (c.late ++ t.late) = record { parts = t.parts; cells = cells; code = c.code } in
    in-flow n t.front t.home t.back c.early k (c.late ++ t.late) book i
    ∙ ap (λ ks. Some ((n.setup ∷ (main_cells (sections_before n.sections t.front t.home.parent) ++ ks)) ++ k ∷ [])) c.ahead

prefix-either : (n : Parts) (id : ℕ) (t : Spot n.sections id) (xs ys : List Cell) (k : Cell) → IsNotebook n → SplitsAt (main_cells (sections_before n.sections t.front t.home.parent)) (code_cells t.early ++ t.cell ∷ []) xs k ys → flow n k.id ≡ Some ((n.setup ∷ xs) ++ k ∷ [])
prefix-either n id t xs ys k book (inl (zs, e)) =
    let rest : (rest : List Section) × (n.sections ≡ sections_before n.sections t.front t.home.parent ++ rest) = before-rest n.sections t.front t.back t.home t.home.parent t.parts in
    prefix-main n (sections_before n.sections t.front t.home.parent) rest.0 xs zs k book rest.1 e
prefix-either n id t xs ys k book (inr (zs, (e, f))) = prefix-own n id t zs ys k book f ∙ ap (λ ks. Some ((n.setup ∷ ks) ++ k ∷ [])) (sym e)

prefix-spot : (n : Parts) (id : ℕ) (t : Spot n.sections id) (xs ys : List Cell) (k : Cell) → IsNotebook n → spot_before n id t t.home.parent ++ t.cell ∷ [] ≡ xs ++ k ∷ ys → flow n k.id ≡ Some (xs ++ k ∷ [])
prefix-spot n id t [] ys k book e = let same : n.setup ≡ k = cc e in subst (λ c. flow n c.id ≡ Some (c ∷ [])) same (setup-flow n)
prefix-spot n id t (x ∷ xs) ys k book e =
    let same : n.setup ≡ x = cc e in
    let m : List Cell = main_cells (sections_before n.sections t.front t.home.parent) in
    let rest : (m ++ code_cells t.early) ++ t.cell ∷ [] ≡ xs ++ k ∷ ys = cc e in
    let joined : m ++ (code_cells t.early ++ t.cell ∷ []) ≡ xs ++ k ∷ ys = sym (append_assoc m (code_cells t.early) (t.cell ∷ [])) ∙ rest in
    subst (λ c. flow n k.id ≡ Some ((c ∷ xs) ++ k ∷ [])) same
    (prefix-either n id t xs ys k book (split m (code_cells t.early ++ t.cell ∷ []) xs k ys joined))

only-one : (n : Parts) (xs ys : List Cell) (k : Cell) → n.setup ∷ [] ≡ xs ++ k ∷ ys → flow n k.id ≡ Some (xs ++ k ∷ [])
only-one n [] ys k e = let same : n.setup ≡ k = cc e in subst (λ c. flow n c.id ≡ Some (c ∷ [])) same (setup-flow n)
only-one n (x ∷ []) ys k e = absurd (cc e)
only-one n (x ∷ y ∷ xs) ys k e = absurd (cc e)

prefix-found : (n : Parts) (id : ℕ) (o : Option Section) (xs ys : List Cell) (k : Cell) → IsNotebook n → (n.setup.id == id) ≡ false → find (has_code id) n.sections ≡ o → option_map (flow_in n id) (option_map section_lane o) ≡ Some (xs ++ k ∷ ys) → flow n id ≡ Some (xs ++ k ∷ ys) → flow n k.id ≡ Some (xs ++ k ∷ [])
prefix-found n id None xs ys k book other o e f = absurd (cc e)
prefix-found n id (Some s) xs ys k book other o e f =
    let t : Spot n.sections id = found-spot n.sections id s o in
    let both : Some (spot_before n id t t.home.parent ++ t.cell ∷ []) ≡ Some (xs ++ k ∷ ys) = sym (spot-flow n id t book other) ∙ f in
    let same : spot_before n id t t.home.parent ++ t.cell ∷ [] ≡ xs ++ k ∷ ys = cc both in
    prefix-spot n id t xs ys k book same

-- where a cell that has a lane stands
found-lane : (n : Parts) (id : ℕ) (lane : Lane) (o : Option Section) → find (has_code id) n.sections ≡ o → option_map section_lane o ≡ Some lane → (t : Spot n.sections id) × (lane ≡ section_lane t.home)
found-lane n id lane None o e = absurd (cc e)
found-lane n id lane (Some s) o e = let same : section_lane s ≡ lane = cc e in (found-spot n.sections id s o, sym same)

pub lane-spot : (n : Parts) (id : ℕ) (lane : Lane) → (n.setup.id == id) ≡ false → lane_of n id ≡ Some lane → (t : Spot n.sections id) × (lane ≡ section_lane t.home)
lane-spot n id lane other e =
    let there : option_map section_lane (find (has_code id) n.sections) ≡ Some lane =
    sym (ap (λ b. if b then Some Main else option_map section_lane (find (has_code id) n.sections)) other) ∙ e in
    found-lane n id lane (find (has_code id) n.sections) refl there

-- each cell of a flow has the flow up to itself
pub prefix-flow : (n : Parts) (id : ℕ) (xs ys : List Cell) (k : Cell) → IsNotebook n → flow n id ≡ Some (xs ++ k ∷ ys) → flow n k.id ≡ Some (xs ++ k ∷ [])
prefix-flow n id xs ys k book e =
    elim (n.setup.id == id)
    as (λ b. (n.setup.id == id) ≡ b → option_map (flow_in n id) (if b then Some Main else option_map section_lane (find (has_code id) n.sections)) ≡ Some (xs ++ k ∷ ys) → flow n k.id ≡ Some (xs ++ k ∷ [])) [
      | true ↦ λ same f.
          let own : Some (n.setup ∷ []) ≡ Some (xs ++ k ∷ ys) = sym (ap (λ b. Some (if b then n.setup ∷ [] else n.setup ∷ up_to (is_cell id) (main_cells n.sections))) same) ∙ f in
          let one : n.setup ∷ [] ≡ xs ++ k ∷ ys = cc own in
          only-one n xs ys k one
      | false ↦ λ other f. prefix-found n id (find (has_code id) n.sections) xs ys k book other refl f e
    ]
    refl
    e
