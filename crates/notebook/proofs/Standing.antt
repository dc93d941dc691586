-- Where a cell stands in its flow.
use Rattle.std.proofs.Common.{◌≡◌, ℕ, ◌+◌, ◌<◌, ◌==◌, ◌&&◌, ◌||◌, Bool, true, false, cond, List, [], ◌∷◌, ◌++◌, Option, Some, None, length, take, drop, get_or, map, refl, sym, ap, subst, ◌∙◌, arith, append_assoc, eq-eqb, eqb-true, zero, suc, find, filter}
use Rattle.std.specs.Prelude.{Contains, is_none, if◌then◌else◌}
use Rattle.std.specs.Borrow.{Bor}
use Rattle.std.specs.List.{list_any, flat_map}
use Rattle.std.specs.Option.{option_map}
use Rattle.std.proofs.lemmas.List.{take_more, length-take-le, append-nil}
use Rattle.std.proofs.lemmas.List.Elements.{filter-append}
use Rattle.std.proofs.lemmas.List.Folds.{find-append, list_any-append}
use Rattle.std.proofs.lemmas.Grind.{flat_map-append}
use Rattle.std.proofs.lemmas.Bool.Decides.{nat_tests}
use Rattle.notebook.specs.declared.parts.Cell.{Cell}
use Rattle.notebook.specs.declared.parts.Section.{Section}
use Rattle.notebook.specs.declared.parts.Parts.{Parts}
use Rattle.notebook.specs.declared.parts.Kind.TheVariants.{Setup}
use Rattle.notebook.specs.declared.states.Lane.{Lane}
use Rattle.notebook.specs.declared.states.Lane.TheVariants.{Main, Branch}
use Rattle.notebook.specs.declared.before.FlowCells.{FlowCells}
use Rattle.notebook.specs.declared.before.Cut.{Cut}
use Rattle.notebook.specs.declared.before.Home.{Home}
use Rattle.notebook.specs.declared.before.Before.{Before}
use Rattle.notebook.specs.Before.{lent, left, IsCut, IsHome, sections_before, IsBefore}
use Rattle.notebook.specs.Flow.{is_code, code_cells, section_code, is_main, main_cells, is_cell, is_section, up_to, stem_cells, branch_cells, lane_cells, lane_by, section_lane, is_code_numbered, has_code, lane_of, flow_in, flow}
use Rattle.notebook.specs.Rules.{IsNotebook, section_number, AreDistinct, IsParentAmong, ParentsStand}
use Rattle.notebook.proofs.Finding.{cut_here}

-- tests
and_both : (a b : Bool) → a ≡ true → b ≡ true → (a && b) ≡ true
and_both true b x y = y
and_both false b x y = absurd (cc x)

and_right : (a b : Bool) → (a && b) ≡ true → b ≡ true
and_right true b e = e
and_right false b e = absurd (cc e)

and_left : (a b : Bool) → (a && b) ≡ true → a ≡ true
and_left true b e = refl
and_left false b e = e

or_left : (a b : Bool) → (a || b) ≡ false → a ≡ false
or_left true b e = e
or_left false b e = refl

or_right : (a b : Bool) → (a || b) ≡ false → b ≡ false
or_right true b e = absurd (cc e)
or_right false b e = e

or_yes : (a : Bool) → (a || true) ≡ true
or_yes true = refl
or_yes false = refl

find-first : {X : Type 0} (p : X → Bool) (x : X) (xs : List X) → find p (x ∷ xs) ≡ None → p x ≡ false
find-first p x xs e = elim (p x) as (λ b. cond b (Some x) (find p xs) ≡ None → b ≡ false) [ true ↦ λ h. absurd (cc h) | false ↦ λ h. refl ] e

find-rest : {X : Type 0} (p : X → Bool) (x : X) (xs : List X) → find p (x ∷ xs) ≡ None → find p xs ≡ None
find-rest p x xs e = elim (p x) as (λ b. cond b (Some x) (find p xs) ≡ None → find p xs ≡ None) [ true ↦ λ h. absurd (cc h) | false ↦ λ h. h ] e

-- where nothing passes, the whole finds what the rest finds
pub find-past : {X : Type 0} (p : X → Bool) (xs ys : List X) → find p xs ≡ None → find p (xs ++ ys) ≡ find p ys
find-past p [] ys e = refl
find-past p (x ∷ xs) ys e =
    ap (λ b. cond b (Some x) (find p (xs ++ ys))) (find-first p x xs e) ∙ find-past p xs ys (find-rest p x xs e)

-- up to the first that passes
pub up_to-past : {X : Type 0} (p : X → Bool) (xs ys : List X) → list_any p xs ≡ false → up_to p (xs ++ ys) ≡ xs ++ up_to p ys
up_to-past p [] ys e = refl
up_to-past p (x ∷ xs) ys e =
    ap (λ b. if b then x ∷ [] else x ∷ up_to p (xs ++ ys)) (or_left (p x) (list_any p xs) e) ∙ ap (λ zs. x ∷ zs) (up_to-past p xs ys (or_right (p x) (list_any p xs) e))

pub up_to-at : {X : Type 0} (p : X → Bool) (x : X) (xs : List X) → p x ≡ true → up_to p (x ∷ xs) ≡ x ∷ []
up_to-at p x xs e = ap (λ b. if b then x ∷ [] else x ∷ up_to p xs) e

-- what isn't before isn't up to one of those before
up_to-none : {X : Type 0} (p q : X → Bool) (xs ys : List X) → find q xs ≡ None → list_any p xs ≡ true → find q (up_to p (xs ++ ys)) ≡ None
up_to-none p q [] ys none some = absurd (cc some)
up_to-none p q (x ∷ xs) ys none some =
    elim (p x)
    as (λ b. (b || list_any p xs) ≡ true → find q (if b then x ∷ [] else x ∷ up_to p (xs ++ ys)) ≡ None) [
      | true ↦ λ h. ap (λ b. cond b (Some x) None) (find-first q x xs none)
      | false ↦ λ h. ap (λ b. cond b (Some x) (find q (up_to p (xs ++ ys)))) (find-first q x xs none) ∙ up_to-none p q xs ys (find-rest q x xs none) h
    ]
    some

-- no code cell of the number
code-none : (id : ℕ) (cs : List Cell) → list_any (is_code_numbered id) cs ≡ false → list_any (is_cell id) (code_cells cs) ≡ false
code-none id [] e = refl
code-none id (c ∷ cs) e =
    let rest : list_any (is_cell id) (code_cells cs) ≡ false = code-none id cs (or_right (is_code_numbered id c) (list_any (is_code_numbered id) cs) e) in
    let here : (is_code c && is_cell id c) ≡ false = or_left (is_code_numbered id c) (list_any (is_code_numbered id) cs) e in
    elim (is_code c)
    as (λ b. (b && is_cell id c) ≡ false → list_any (is_cell id) (cond b (c ∷ code_cells cs) (code_cells cs)) ≡ false) [
      | true ↦ λ h. ap (λ b. b || list_any (is_cell id) (code_cells cs)) h ∙ rest
      | false ↦ λ h. rest
    ]
    here

main-none : (id : ℕ) (ss : List Section) → find (has_code id) ss ≡ None → list_any (is_cell id) (main_cells ss) ≡ false
main-none id [] e = refl
main-none id (s ∷ ss) e =
    let rest : list_any (is_cell id) (main_cells ss) ≡ false = main-none id ss (find-rest (has_code id) s ss e) in
    let here : list_any (is_cell id) (section_code s) ≡ false = code-none id s.cells (find-first (has_code id) s ss e) in
    elim (is_main s)
    as (λ b. list_any (is_cell id) (flat_map section_code (cond b (s ∷ filter is_main ss) (filter is_main ss))) ≡ false) [
      | true ↦ list_any-append (is_cell id) (section_code s) (main_cells ss) ∙ (ap (λ b. b || list_any (is_cell id) (main_cells ss)) here ∙ rest)
      | false ↦ rest
    ]

-- the first code cell of the number at a place
pub cut-made : (cs : List Cell) (id at : ℕ) (x : Cell) (c : Cut) → at < length cs → x ≡ get_or cs at x → c.cell.now ≡ x → c.earlier.now ≡ take at cs → c.through.now ≡ take (at + 1) cs → list_any (is_code_numbered id) (take at cs) ≡ false → is_code x ≡ true → x.id ≡ id → IsCut cs id c
cut-made cs id at x c within is cell earlier through none code same =
    let number : is_cell id x ≡ true = eq-eqb x.id id same in
    let here : is_code_numbered id x ≡ true = and_both (is_code x) (is_cell id x) code number in
    record {
      back = drop (at + 1) cs;
      parts = rw (earlier, cell) (cut_here cs at x within is);
      none = rw earlier none;
      here = rw cell here;
      whole = rw (through, earlier, cell) (take_more cs at x within ∙ ap (λ y. take at cs ++ y ∷ []) (sym is));
    }

pub cut-more : (cs : List Cell) (id at : ℕ) (x : Cell) → at < length cs → x ≡ get_or cs at x → list_any (is_code_numbered id) (take at cs) ≡ false → is_code_numbered id x ≡ false → list_any (is_code_numbered id) (take (at + 1) cs) ≡ false
cut-more cs id at x within is none other =
    let e : take (at + 1) cs ≡ take at cs ++ x ∷ [] = take_more cs at x within ∙ ap (λ y. take at cs ++ y ∷ []) (sym is) in
    rw e (list_any-append (is_code_numbered id) (take at cs) (x ∷ []) ∙ (ap (λ b. b || (is_code_numbered id x || false)) none ∙ ap (λ b. b || false) other))

pub home-made : (ss : List Section) (id at : ℕ) (s : Section) (cs : List Cell) (h : Home) → at < length ss → s ≡ get_or ss at s → h.section.now ≡ s → h.front.now ≡ take at ss → cs ≡ s.cells → find (has_code id) (take at ss) ≡ None → IsCut cs id h.cut → IsHome ss id h
home-made ss id at s cs h within is section front own none inside =
    let there : h.section.now.cells ≡ cs = ap (λ (t : Section). t.cells) section ∙ sym own in
    record {
      back = drop (at + 1) ss;
      parts = rw (front, section) (cut_here ss at s within is);
      none = rw front none;
      inside = subst (λ ds. IsCut ds id h.cut) (sym there) inside;
    }

pub home-more : (ss : List Section) (id at : ℕ) (s : Section) (cs : List Cell) → at < length ss → s ≡ get_or ss at s → cs ≡ s.cells → find (has_code id) (take at ss) ≡ None → list_any (is_code_numbered id) cs ≡ false → find (has_code id) (take (at + 1) ss) ≡ None
home-more ss id at s cs within is own none other =
    let e : take (at + 1) ss ≡ take at ss ++ s ∷ [] = take_more ss at s within ∙ ap (λ y. take at ss ++ y ∷ []) (sym is) in
    let here : has_code id s ≡ false = ap (list_any (is_code_numbered id)) (sym own) ∙ other in
    rw e (find-past (has_code id) (take at ss) (s ∷ []) none ∙ ap (λ b. cond b (Some s) None) here)

-- the parent of a branch is among the sections before it
parent-among : (before front back : List Section) (s : Section) → ParentsStand before (front ++ s ∷ back) → IsParentAmong (before ++ front) s.parent
parent-among before [] back s h = subst (λ (ss : List Section). IsParentAmong ss s.parent) (sym (append-nil before)) h.0
parent-among before (x ∷ front) back s h =
    subst (λ (ss : List Section). IsParentAmong ss s.parent) (append_assoc before (x ∷ []) front) (parent-among (before ++ x ∷ []) front back s h.1)

contains-any : (p : ℕ) (ss : List Section) (s : Section) → Contains ss s → s.id ≡ p → list_any (is_section p) ss ≡ true
contains-any p [] s (k, within, at) same = absurd (omega (arith, within))
contains-any p (x ∷ ss) s (zero, within, at) same =
    let here : is_section p x ≡ true = eq-eqb x.id p (ap (λ (t : Section). t.id) at ∙ same) in
    ap (λ b. b || list_any (is_section p) ss) here
contains-any p (x ∷ ss) s (suc k, within, at) same =
    ap (λ b. is_section p x || b) (contains-any p ss s (k, omega (arith, within), at) same) ∙ or_yes (is_section p x)

among-any : (p : ℕ) (ss : List Section) → IsParentAmong ss (Some p) → list_any (is_section p) ss ≡ true
among-any p ss (s, (contains, (same, top))) = contains-any p ss s contains same

-- a number stands once
contains-mid : (front back : List Section) (s : Section) → Contains (map section_number (front ++ s ∷ back)) s.id
contains-mid [] back s = (0, omega arith, refl)
contains-mid (x ∷ front) back s =
    let t : Contains (map section_number (front ++ s ∷ back)) s.id = contains-mid front back s in
    (suc t.0, omega (arith, t.1), t.2)

pub first-numbered : (front back : List Section) (s : Section) → AreDistinct (map section_number (front ++ s ∷ back)) → find (is_section s.id) front ≡ None
first-numbered [] back s h = refl
first-numbered (x ∷ front) back s h =
    elim (x.id == s.id)
    as (λ b. (x.id == s.id) ≡ b → cond b (Some x) (find (is_section s.id) front) ≡ None) [
      | true ↦ λ same.
          let e : x.id ≡ s.id = eqb-true x.id s.id same in
          absurd (h.0 (subst (λ k. Contains (map section_number (front ++ s ∷ back)) k) (sym e) (contains-mid front back s)))
      | false ↦ λ other. first-numbered front back s h.1
    ]
    refl

-- where the first code cell of a number stands
pub record Spot (ss : List Section) (id : ℕ) : Type 0 where
  pub front : List Section
  pub home : Section
  pub back : List Section
  pub parts : ss ≡ front ++ home ∷ back
  pub none : find (has_code id) front ≡ None
  pub early : List Cell
  pub cell : Cell
  pub late : List Cell
  pub cells : home.cells ≡ early ++ cell ∷ late
  pub clear : list_any (is_code_numbered id) early ≡ false
  pub here : is_code_numbered id cell ≡ true

abbrev spot-of : (ss : List Section) (id : ℕ) (h : Home) → IsHome ss id h → Spot ss id
spot-of ss id h t = record {
  front = h.front.now;
  home = h.section.now;
  back = t.back;
  parts = t.parts;
  none = t.none;
  early = h.cut.earlier.now;
  cell = h.cut.cell.now;
  late = t.inside.back;
  cells = t.inside.parts;
  clear = t.inside.none;
  here = t.inside.here;
}

pub spot-code : (ss : List Section) (id : ℕ) (t : Spot ss id) → is_code t.cell ≡ true
spot-code ss id t = and_left (is_code t.cell) (is_cell id t.cell) t.here

spot-number : (ss : List Section) (id : ℕ) (t : Spot ss id) → is_cell id t.cell ≡ true
spot-number ss id t = and_right (is_code t.cell) (is_cell id t.cell) t.here

spot-some : (ss : List Section) (id : ℕ) (t : Spot ss id) → has_code id t.home ≡ true
spot-some ss id t =
    ap (list_any (is_code_numbered id)) t.cells
    ∙ (list_any-append (is_code_numbered id) t.early (t.cell ∷ t.late)
    ∙ (ap (λ b. b || (is_code_numbered id t.cell || list_any (is_code_numbered id) t.late)) t.clear ∙ ap (λ b. b || list_any (is_code_numbered id) t.late) t.here))

-- the lane of a cell in a section
pub spot-lane : (n : Parts) (id : ℕ) (t : Spot n.sections id) → (n.setup.id == id) ≡ false → lane_of n id ≡ Some (section_lane t.home)
spot-lane n id t other =
    let there : find (has_code id) n.sections ≡ Some t.home =
    ap (find (has_code id)) t.parts ∙ (find-past (has_code id) t.front (t.home ∷ t.back) t.none ∙ ap (λ b. cond b (Some t.home) (find (has_code id) t.back)) (spot-some n.sections id t)) in
    ap (λ b. if b then Some Main else option_map section_lane (find (has_code id) n.sections)) other ∙ ap (option_map section_lane) there

-- up to the cell, over what stands before its section and the section's code
spot-line : (n : Parts) (id : ℕ) (t : Spot n.sections id) (front rest : List Cell) → (n.setup.id == id) ≡ false → list_any (is_cell id) front ≡ false → up_to (is_cell id) (n.setup ∷ (front ++ (section_code t.home ++ rest))) ≡ n.setup ∷ (front ++ (code_cells t.early ++ t.cell ∷ []))
spot-line n id t front rest other none =
    let own : section_code t.home ≡ code_cells t.early ++ t.cell ∷ code_cells t.late =
    ap code_cells t.cells ∙ (filter-append is_code t.early (t.cell ∷ t.late) ∙ ap (λ b. code_cells t.early ++ cond b (t.cell ∷ code_cells t.late) (code_cells t.late)) (spot-code n.sections id t)) in
    let whole : section_code t.home ++ rest ≡ code_cells t.early ++ t.cell ∷ (code_cells t.late ++ rest) =
    ap (λ ds. ds ++ rest) own ∙ append_assoc (code_cells t.early) (t.cell ∷ code_cells t.late) rest in
    ap (λ b. if b then n.setup ∷ [] else n.setup ∷ up_to (is_cell id) (front ++ (section_code t.home ++ rest))) other
    ∙ ap (λ ds. n.setup ∷ ds) (up_to-past (is_cell id) front (section_code t.home ++ rest) none
    ∙ ap (λ ds. front ++ ds) (ap (up_to (is_cell id)) whole
    ∙ (up_to-past (is_cell id) (code_cells t.early) (t.cell ∷ (code_cells t.late ++ rest)) (code-none id t.early t.clear)
    ∙ ap (λ ds. code_cells t.early ++ ds) (up_to-at (is_cell id) t.cell (code_cells t.late ++ rest) (spot-number n.sections id t)))))

-- the code with the cell
through-code : (cs : List Cell) (id : ℕ) (c : Cut) → IsCut cs id c → code_cells c.through.now ≡ code_cells c.earlier.now ++ c.cell.now ∷ []
through-code cs id c cut =
    let code : is_code c.cell.now ≡ true = and_left (is_code c.cell.now) (is_cell id c.cell.now) cut.here in
    ap code_cells cut.whole ∙ (filter-append is_code c.earlier.now (c.cell.now ∷ []) ∙ ap (λ b. code_cells c.earlier.now ++ cond b (c.cell.now ∷ []) []) code)

-- a main section's code among that of all
pub main-split : (front back : List Section) (s : Section) → s.parent ≡ None → main_cells (front ++ s ∷ back) ≡ main_cells front ++ (section_code s ++ main_cells back)
main-split front back s top =
    let here : is_main s ≡ true = ap (λ (p : Option ℕ). is_none p) top in
    ap (flat_map section_code) (filter-append is_main front (s ∷ back) ∙ ap (λ b. filter is_main front ++ cond b (s ∷ filter is_main back) (filter is_main back)) here)
    ∙ flat_map-append section_code (filter is_main front) (s ∷ filter is_main back)

-- what stands before a cell of a section in its flow
abbrev pub spot_before : (n : Parts) (id : ℕ) → Spot n.sections id → Option ℕ → List Cell
spot_before n id t parent = n.setup ∷ (main_cells (sections_before n.sections t.front parent) ++ code_cells t.early)

section-flow : (n : Parts) (id : ℕ) (t : Spot n.sections id) (parent : Option ℕ) → IsNotebook n → (n.setup.id == id) ≡ false → t.home.parent ≡ parent → flow_in n id (lane_by t.home.id parent) ≡ n.setup ∷ (main_cells (sections_before n.sections t.front parent) ++ (code_cells t.early ++ t.cell ∷ []))
section-flow n id t None book other top =
    ap (λ ss. up_to (is_cell id) (n.setup ∷ main_cells ss)) t.parts
    ∙ (ap (λ cs. up_to (is_cell id) (n.setup ∷ cs)) (main-split t.front t.back t.home top)
    ∙ spot-line n id t (main_cells t.front) (main_cells t.back) other (main-none id t.front t.none))
section-flow n id t (Some p) book other top =
    let s : Section = t.home in
    let stand : ParentsStand [] (t.front ++ s ∷ t.back) = subst (λ ss. ParentsStand [] ss) t.parts book.parents in
    let parent : IsParentAmong t.front (Some p) = subst (λ (q : Option ℕ). IsParentAmong t.front q) top (parent-among [] t.front t.back s stand) in
    let there : list_any (is_section p) t.front ≡ true = among-any p t.front parent in
    let none : find (has_code id) (up_to (is_section p) n.sections) ≡ None =
    ap (λ ss. find (has_code id) (up_to (is_section p) ss)) t.parts ∙ up_to-none (is_section p) (has_code id) t.front (s ∷ t.back) t.none there in
    let apart : AreDistinct (map section_number (t.front ++ s ∷ t.back)) = subst (λ ss. AreDistinct (map section_number ss)) t.parts book.section_numbers.1 in
    let own : (s.id == s.id) ≡ true = eq-eqb s.id s.id refl in
    let found : find (is_section s.id) n.sections ≡ Some s =
    ap (find (is_section s.id)) t.parts
    ∙ (find-past (is_section s.id) t.front (s ∷ t.back) (first-numbered t.front t.back s apart) ∙ ap (λ b. cond b (Some s) (find (is_section s.id) t.back)) own) in
    let stem : List Cell = main_cells (up_to (is_section p) n.sections) in
    let cells : branch_cells n.sections (find (is_section s.id) n.sections) ≡ stem ++ (section_code s ++ []) =
    ap (branch_cells n.sections) found ∙ (ap (λ q. stem_cells n.sections q ++ section_code s) top ∙ ap (λ ds. stem ++ ds) (sym (append-nil (section_code s)))) in
    ap (λ ds. up_to (is_cell id) (n.setup ∷ ds)) cells ∙ spot-line n id t stem [] other (main-none id (up_to (is_section p) n.sections) none)

pub spot-flow : (n : Parts) (id : ℕ) (t : Spot n.sections id) → IsNotebook n → (n.setup.id == id) ≡ false → flow n id ≡ Some (spot_before n id t t.home.parent ++ t.cell ∷ [])
spot-flow n id t book other =
    ap (option_map (flow_in n id)) (spot-lane n id t other)
    ∙ ap (λ ds. Some ds) (section-flow n id t t.home.parent book other refl
    ∙ ap (λ ds. n.setup ∷ ds) (sym (append_assoc (main_cells (sections_before n.sections t.front t.home.parent)) (code_cells t.early) (t.cell ∷ []))))

-- a code cell of a section
pub stands-home : (n : Parts) (id : ℕ) (ss front : List Section) (h : Home) (b : Before) → IsNotebook n → (n.setup.id == id) ≡ false → ss ≡ n.sections → IsHome ss id h → front ≡ sections_before ss h.front.now h.section.now.parent → b.lane ≡ section_lane h.section.now → b.cell.now ≡ h.cut.cell.now → left b.earlier ≡ n.setup ∷ (main_cells front ++ code_cells h.cut.earlier.now) → left b.flow ≡ n.setup ∷ (main_cells front ++ code_cells h.cut.through.now) → IsBefore n id b
stands-home n id ss front h b book other same at ahead lane cell earlier whole =
    let home : IsHome n.sections id h = subst (λ ts. IsHome ts id h) same at in
    let before : front ≡ sections_before n.sections h.front.now h.section.now.parent = ahead ∙ ap (λ ts. sections_before ts h.front.now h.section.now.parent) same in
    let spot : Spot n.sections id = spot-of n.sections id h home in
    let there : lane_of n id ≡ Some (section_lane h.section.now) = spot-lane n id spot other in
    let line : List Cell = n.setup ∷ (main_cells front ++ (code_cells h.cut.earlier.now ++ h.cut.cell.now ∷ [])) in
    let flows : flow n id ≡ Some line =
    ap (option_map (flow_in n id)) there
    ∙ ap (λ ds. Some ds) (section-flow n id spot h.section.now.parent book other refl ∙ ap (λ ts. n.setup ∷ (main_cells ts ++ (code_cells h.cut.earlier.now ++ h.cut.cell.now ∷ []))) (sym before)) in
    let number : is_cell id h.cut.cell.now ≡ true = and_right (is_code h.cut.cell.now) (is_cell id h.cut.cell.now) home.inside.here in
    let first : left b.earlier ++ b.cell.now ∷ [] ≡ line =
    ap (λ ds. ds ++ b.cell.now ∷ []) earlier
    ∙ (ap (λ c. (n.setup ∷ (main_cells front ++ code_cells h.cut.earlier.now)) ++ c ∷ []) cell
    ∙ ap (λ ds. n.setup ∷ ds) (append_assoc (main_cells front) (code_cells h.cut.earlier.now) (h.cut.cell.now ∷ []))) in
    let all : left b.flow ≡ line = whole ∙ ap (λ ds. n.setup ∷ (main_cells front ++ ds)) (through-code h.section.now.cells id h.cut home.inside) in
    record {
      home = there ∙ ap (λ l. Some l) (sym lane);
      number = ap (λ (c : Cell). c.id) cell ∙ eqb-true h.cut.cell.now.id id number;
      ahead = flows ∙ ap (λ ds. Some ds) (sym first);
      whole = flows ∙ ap (λ ds. Some ds) (sym all);
    }

-- the setup cell
pub stands-setup : (n : Parts) (id : ℕ) (b : Before) → n.setup.id ≡ id → b.lane ≡ Main → b.cell.now ≡ n.setup → left b.earlier ≡ [] → left b.flow ≡ n.setup ∷ [] → IsBefore n id b
stands-setup n id b same lane cell earlier whole =
    let here : (n.setup.id == id) ≡ true = eq-eqb n.setup.id id same in
    let there : lane_of n id ≡ Some Main = ap (λ b. if b then Some Main else option_map section_lane (find (has_code id) n.sections)) here in
    let flows : flow n id ≡ Some (n.setup ∷ []) = ap (option_map (flow_in n id)) there ∙ ap (λ b. Some (if b then n.setup ∷ [] else n.setup ∷ up_to (is_cell id) (main_cells n.sections))) here in
    record {
      home = there ∙ ap (λ l. Some l) (sym lane);
      number = ap (λ (c : Cell). c.id) cell ∙ same;
      ahead = flows ∙ ap (λ ds. Some ds) (sym (ap (λ ds. ds ++ b.cell.now ∷ []) earlier ∙ ap (λ c. c ∷ []) cell));
      whole = flows ∙ ap (λ ds. Some ds) (sym whole);
    }

pub stands-nowhere : (n : Parts) (id : ℕ) (ss : List Section) → (n.setup.id == id) ≡ false → ss ≡ n.sections → find (has_code id) ss ≡ None → lane_of n id ≡ None
stands-nowhere n id ss other same none =
    ap (λ b. if b then Some Main else option_map section_lane (find (has_code id) n.sections)) other ∙ ap (option_map section_lane) (ap (find (has_code id)) (sym same) ∙ none)
