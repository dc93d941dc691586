-- What stands before a cell that may start, and its lane.
use Rattle.std.proofs.Common.{◌≡◌, ℕ, ◌==◌, ◌&&◌, Bool, true, false, cond, List, [], ◌∷◌, ◌++◌, Option, Some, None, map, find, refl, sym, ap, subst, ◌∙◌, eq-eqb, eqb-true}
use Rattle.std.specs.Prelude.{if◌then◌else◌, is_some, unwrap_or, option_map, option_and_then}
use Rattle.std.specs.List.{list_any, list_all}
use Rattle.notebook.specs.declared.parts.Cell.{Cell}
use Rattle.notebook.specs.declared.parts.Parts.{Parts}
use Rattle.notebook.specs.declared.parts.Section.{Section}
use Rattle.notebook.specs.declared.states.Lane.{Lane}
use Rattle.notebook.specs.declared.states.Lane.TheVariants.{Main, Branch}
use Rattle.notebook.specs.Rules.{IsNotebook, cell_number}
use Rattle.notebook.specs.Flow.{main_cells, section_code, section_lane, lane_by, lane_of, has_code, is_section}
use Rattle.notebook.proofs.Flows.{In, in-lane, CodeSpot, code-spot, MainSpot, main-spot}
use Rattle.section_queues.specs.Facts.{Facts}
use Rattle.section_queues.specs.Wanted.{Wanted, runs_in}
use Rattle.section_queues.specs.Starts.{is_due, earlier, is_settled, settled_before, is_branch, own_cells, may_start}

and_first : (a b : Bool) → (a && b) ≡ true → a ≡ true
and_first true b e = refl
and_first false b e = e

and_second : (a b : Bool) → (a && b) ≡ true → b ≡ true
and_second true b e = e
and_second false b e = absurd (cc e)

-- the cell that may start is the first due one, and what stands before it is settled
pub record MayStart (n : Parts) (v : Facts) (w : Wanted) (lane : Lane) (c : ℕ) : Type 0 where
  pub free : list_any (runs_in lane) w.running ≡ false
  pub first : find (is_due n v w) (map cell_number (own_cells n lane)) ≡ Some c
  pub settled : list_all (is_settled v w) (earlier n c) ≡ true

settled-same : (n : Parts) (v : Facts) (w : Wanted) (d c : ℕ) → settled_before n v w d ≡ Some c → (d ≡ c) × (list_all (is_settled v w) (earlier n c) ≡ true)
settled-same n v w d c e =
    elim (list_all (is_settled v w) (earlier n d))
    as (λ b. list_all (is_settled v w) (earlier n d) ≡ b → (if b then Some d else None) ≡ Some c → (d ≡ c) × (list_all (is_settled v w) (earlier n c) ≡ true)) [
      | true ↦ λ t f. let same : d ≡ c = cc f in (same, subst (λ k. list_all (is_settled v w) (earlier n k) ≡ true) same t)
      | false ↦ λ t f. absurd (cc f)
    ]
    refl
    e

free-start : (n : Parts) (v : Facts) (w : Wanted) (lane : Lane) (c : ℕ) (o : Option ℕ) → list_any (runs_in lane) w.running ≡ false → find (is_due n v w) (map cell_number (own_cells n lane)) ≡ o → option_and_then (settled_before n v w) o ≡ Some c → MayStart n v w lane c
free-start n v w lane c None free f e = absurd (cc e)
free-start n v w lane c (Some d) free f e =
    let s : (d ≡ c) × (list_all (is_settled v w) (earlier n c) ≡ true) = settled-same n v w d c e in
    record { free = free; first = f ∙ ap (λ k. Some k) s.0; settled = s.1 }

pub may-start : (n : Parts) (v : Facts) (w : Wanted) (lane : Lane) (c : ℕ) → may_start n v w lane ≡ Some c → MayStart n v w lane c
may-start n v w lane c e =
    elim (list_any (runs_in lane) w.running)
    as (λ b. list_any (runs_in lane) w.running ≡ b → (if b then None else option_and_then (settled_before n v w) (find (is_due n v w) (map cell_number (own_cells n lane)))) ≡ Some c → MayStart n v w lane c) [
      | true ↦ λ t f. absurd (cc f)
      | false ↦ λ t f. free-start n v w lane c (find (is_due n v w) (map cell_number (own_cells n lane))) t refl f
    ]
    refl
    e

-- the first that passes is one of the list
record Found (p : ℕ → Bool) (cs : List Cell) (c : ℕ) : Type 0 where
  front : List Cell
  cell : Cell
  back : List Cell
  parts : cs ≡ front ++ cell ∷ back
  number : cell.id ≡ c

found-one : (p : ℕ → Bool) (cs : List Cell) (c : ℕ) → find p (map cell_number cs) ≡ Some c → Found p cs c
found-one p [] c e = absurd (cc e)
found-one p (x ∷ cs) c e =
    elim (p x.id)
    as (λ b. cond b (Some x.id) (find p (map cell_number cs)) ≡ Some c → Found p (x ∷ cs) c) [
      | true ↦ λ h. let same : x.id ≡ c = cc h in record { front = []; cell = x; back = cs; parts = refl; number = same }
      | false ↦ λ h. let r : Found p cs c = found-one p cs c h in record { front = x ∷ r.front; cell = r.cell; back = r.back; parts = ap (λ ks. x ∷ ks) r.parts; number = r.number }
    ]
    e

-- the cells of a lane have that lane
main-lane : (n : Parts) (xs ys : List Cell) (y : Cell) → IsNotebook n → n.setup ∷ main_cells n.sections ≡ xs ++ y ∷ ys → lane_of n y.id ≡ Some Main
main-lane n [] ys y book e =
    let same : n.setup ≡ y = cc e in
    let here : (n.setup.id == n.setup.id) ≡ true = eq-eqb n.setup.id n.setup.id refl in
    subst (λ (c : Cell). lane_of n c.id ≡ Some Main) same (ap (λ b. if b then Some Main else option_map section_lane (find (has_code n.setup.id) n.sections)) here)
main-lane n (x ∷ xs) ys y book e =
    let rest : main_cells n.sections ≡ xs ++ y ∷ ys = cc e in
    let t : MainSpot n.sections xs y = main-spot n.sections xs ys y rest in
    let i : In n t.front t.home t.back t.early y t.late = record { parts = t.parts; cells = t.cells; code = t.code } in
    in-lane n t.front t.home t.back t.early y t.late book i ∙ ap (λ p. Some (lane_by t.home.id p)) t.top

record FoundBranch (ss : List Section) (b : ℕ) (s : Section) : Type 0 where
  front : List Section
  back : List Section
  parts : ss ≡ front ++ s ∷ back
  here : is_branch b s ≡ true

found-branch : (ss : List Section) (b : ℕ) (s : Section) → find (is_branch b) ss ≡ Some s → FoundBranch ss b s
found-branch [] b s e = absurd (cc e)
found-branch (x ∷ ss) b s e =
    elim (is_branch b x)
    as (λ k. is_branch b x ≡ k → cond k (Some x) (find (is_branch b) ss) ≡ Some s → FoundBranch (x ∷ ss) b s) [
      | true ↦ λ t f. let same : x ≡ s = cc f in record { front = []; back = ss; parts = ap (λ k. k ∷ ss) same; here = ap (is_branch b) (sym same) ∙ t }
      | false ↦ λ t f. let r : FoundBranch ss b s = found-branch ss b s f in record { front = x ∷ r.front; back = r.back; parts = ap (λ ks. x ∷ ks) r.parts; here = r.here }
    ]
    refl
    e

branch-of : (b : ℕ) (parent : Option ℕ) → is_some parent ≡ true → lane_by b parent ≡ Branch b
branch-of b None e = absurd (cc e)
branch-of b (Some p) e = refl

branch-lane : (n : Parts) (b : ℕ) (o : Option Section) (xs ys : List Cell) (y : Cell) → IsNotebook n → find (is_branch b) n.sections ≡ o → unwrap_or (option_map section_code o) [] ≡ xs ++ y ∷ ys → lane_of n y.id ≡ Some (Branch b)
branch-lane n b None [] ys y book f e = absurd (cc e)
branch-lane n b None (x ∷ xs) ys y book f e = absurd (cc e)
branch-lane n b (Some s) xs ys y book f e =
    let r : FoundBranch n.sections b s = found-branch n.sections b s f in
    let t : CodeSpot s.cells xs y = code-spot s.cells xs ys y e in
    let i : In n r.front s r.back t.early y t.late = record { parts = r.parts; cells = t.cells; code = t.code } in
    let number : s.id ≡ b = eqb-true s.id b (and_first (is_section b s) (is_some s.parent) r.here) in
    in-lane n r.front s r.back t.early y t.late book i
    ∙ ap (λ l. Some l) (branch-of s.id s.parent (and_second (is_section b s) (is_some s.parent) r.here) ∙ ap (λ k. Branch k) number)

own-lane : (n : Parts) (lane : Lane) (xs ys : List Cell) (y : Cell) → IsNotebook n → own_cells n lane ≡ xs ++ y ∷ ys → lane_of n y.id ≡ Some lane
own-lane n Main xs ys y book e = main-lane n xs ys y book e
own-lane n (Branch b) xs ys y book e = branch-lane n b (find (is_branch b) n.sections) xs ys y book refl e

-- the cell that may start in a lane has that lane
pub starts-lane : (n : Parts) (v : Facts) (w : Wanted) (lane : Lane) (c : ℕ) → IsNotebook n → may_start n v w lane ≡ Some c → lane_of n c ≡ Some lane
starts-lane n v w lane c book e =
    let m : MayStart n v w lane c = may-start n v w lane c e in
    let r : Found (is_due n v w) (own_cells n lane) c = found-one (is_due n v w) (own_cells n lane) c m.first in
    subst (λ k. lane_of n k ≡ Some lane) r.number (own-lane n lane r.front r.back r.cell book r.parts)

-- what stands before it is settled
pub starts-settled : (n : Parts) (v : Facts) (w : Wanted) (lane : Lane) (c : ℕ) → may_start n v w lane ≡ Some c → list_all (is_settled v w) (earlier n c) ≡ true
starts-settled n v w lane c e = (may-start n v w lane c e).settled
