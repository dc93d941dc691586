-- What stands before a cell that may start.
use Rattle.std.proofs.Common.{◌≡◌, ℕ, ◌==◌, ◌&&◌, not, Bool, true, false, cond, List, [], ◌∷◌, ◌++◌, Option, Some, None, map, find, refl, sym, ap, subst, ◌∙◌, append_assoc, eq-eqb, eqb-true}
use Rattle.std.specs.Prelude.{if◌then◌else◌, nat_eq, is_some, unwrap_or, option_map, option_and_then}
use Rattle.std.specs.List.{list_any, list_all}
use Rattle.std.specs.Cmp.Lexicographic.{pointwise, same_text}
use Rattle.ex_value.specs.declared.Value.{Value}
use Rattle.ex_model.specs.declared.ran.Outcome.{Outcome}
use Rattle.ex_model.specs.declared.ran.Outcome.TheVariants as Outcomes
use Rattle.notebook.specs.declared.parts.Cell.{Cell}
use Rattle.notebook.specs.declared.parts.Parts.{Parts}
use Rattle.notebook.specs.declared.parts.Passed.{Passed}
use Rattle.notebook.specs.declared.parts.Section.{Section}
use Rattle.notebook.specs.declared.states.Lane.{Lane}
use Rattle.notebook.specs.declared.states.Lane.TheVariants.{Main, Branch}
use Rattle.notebook.specs.Rules.{IsNotebook, cell_number}
use Rattle.notebook.specs.Flow.{flow, path, passed, main_cells, section_code, section_lane, lane_by, lane_of, has_code, is_section}
use Rattle.notebook.specs.Validity.{same_path, same_passed, validity_by, is_evaluated_so}
use Rattle.notebook.specs.declared.states.Validity.TheVariants.{Evaluated, Stale}
use Rattle.notebook.proofs.Flows.{prefix-flow, In, in-lane, CodeSpot, code-spot, MainSpot, main-spot}
use Rattle.lanes.specs.declared.work.Finished.{Finished}
use Rattle.lanes.specs.declared.work.Work.{Work}
use Rattle.lanes.specs.Work.{is_queued, is_running, is_aborted, last_finished, path_read, has_path, is_fault, shows_fault, is_evaluated, is_due, earlier, is_settled, settled_before, runs_in, is_branch, own_cells, may_start}
use Rattle.lanes.proofs.Earlier.{earlier-flow}

and_first : (a b : Bool) → (a && b) ≡ true → a ≡ true
and_first true b e = refl
and_first false b e = e

and_second : (a b : Bool) → (a && b) ≡ true → b ≡ true
and_second true b e = e
and_second false b e = absurd (cc e)

not-true : (b : Bool) → not b ≡ true → b ≡ false
not-true true e = absurd (cc e)
not-true false e = refl

-- equal paths, by the test
pub paths-equal : (p q : List Passed) → same_path p q ≡ true → p ≡ q
paths-equal [] [] e = refl
paths-equal [] (y ∷ q) e = absurd (cc e)
paths-equal (x ∷ p) [] e = absurd (cc e)
paths-equal (x ∷ p) (y ∷ q) e =
    let here : same_passed x y ≡ true = and_first (same_passed x y) (same_path p q) e in
    let number : x.cell ≡ y.cell = eqb-true x.cell y.cell (and_first (x.cell == y.cell) (pointwise nat_eq x.source y.source) here) in
    let source : x.source ≡ y.source = same_text x.source y.source (sym (and_second (x.cell == y.cell) (pointwise nat_eq x.source y.source) here)) in
    let first : x ≡ y = ap (λ k. record x { cell = k }) number ∙ ap (λ s. record y { source = s }) source in
    ap (λ z. z ∷ p) first ∙ ap (λ zs. y ∷ zs) (paths-equal p q (and_second (same_passed x y) (same_path p q) e))

-- an evaluated cell without a fault: its last finished evaluation read its present path, and showed a value
pub record IsSound (w : Work) (k : ℕ) (present : List Passed) : Type 0 where
  pub finished : Finished
  pub last : last_finished w k ≡ Some finished
  pub read : finished.path ≡ present
  pub unfailed : is_fault finished.shown.outcome ≡ false

sound-path : (p q : List Passed) → is_evaluated_so (validity_by false (Some p) q) ≡ true → same_path p q ≡ true
sound-path p q e =
    elim (same_path p q)
    as (λ b. is_evaluated_so (if b then Evaluated else Stale) ≡ true → b ≡ true) [ true ↦ λ h. refl | false ↦ λ h. absurd (cc h) ]
    e

sound-by : (w : Work) (k : ℕ) (present : List Passed) (marked : Bool) (o : Option Finished) → last_finished w k ≡ o → is_evaluated_so (validity_by marked (option_map path_read o) present) ≡ true → shows_fault o ≡ false → IsSound w k present
sound-by w k present true o l e f = absurd (cc e)
sound-by w k present false None l e f = absurd (cc e)
sound-by w k present false (Some x) l e f =
    let same : same_path x.path present ≡ true = sound-path x.path present e in
    record { finished = x; last = l; read = paths-equal x.path present same; unfailed = f }

pub sound-of : (n : Parts) (w : Work) (k : ℕ) (present : List Passed) → path n k ≡ Some present → is_evaluated n w k ≡ true → shows_fault (last_finished w k) ≡ false → IsSound w k present
sound-of n w k present live e f = sound-by w k present (is_aborted w k) (last_finished w k) refl (sym (ap (has_path w k) live) ∙ e) f

settled-sound : (n : Parts) (w : Work) (k : ℕ) (present : List Passed) → path n k ≡ Some present → is_settled n w k ≡ true → IsSound w k present
settled-sound n w k present live s =
    let rest : (not (is_running w k) && (is_evaluated n w k && not (shows_fault (last_finished w k)))) ≡ true =
    and_second (not (is_queued w k)) (not (is_running w k) && (is_evaluated n w k && not (shows_fault (last_finished w k)))) s in
    let both : (is_evaluated n w k && not (shows_fault (last_finished w k))) ≡ true =
    and_second (not (is_running w k)) (is_evaluated n w k && not (shows_fault (last_finished w k))) rest in
    sound-of n w k present live (and_first (is_evaluated n w k) (not (shows_fault (last_finished w k))) both) (not-true (shows_fault (last_finished w k)) (and_second (is_evaluated n w k) (not (shows_fault (last_finished w k))) both))

-- cells that stand one after the other after others are sound, each along all those up to itself
abbrev pub AreSound : Work → List Cell → List Cell → Type 0
AreSound w done [] = Unit {0}
AreSound w done (x ∷ xs) = IsSound w x.id (map passed (done ++ x ∷ [])) × AreSound w (done ++ x ∷ []) xs

all-sound : (n : Parts) (w : Work) (c : ℕ) (done xs rest : List Cell) → IsNotebook n → flow n c ≡ Some ((done ++ xs) ++ rest) → list_all (is_settled n w) (map cell_number xs) ≡ true → AreSound w done xs
all-sound n w c done [] rest book flows s = tt
all-sound n w c done (x ∷ xs) rest book flows s =
    let line : (done ++ x ∷ xs) ++ rest ≡ done ++ x ∷ (xs ++ rest) = append_assoc done (x ∷ xs) rest in
    let own : flow n x.id ≡ Some (done ++ x ∷ []) = prefix-flow n c done (xs ++ rest) x book (flows ∙ ap (λ cs. Some cs) line) in
    let live : path n x.id ≡ Some (map passed (done ++ x ∷ [])) = ap (option_map (map passed)) own in
    let again : (done ++ x ∷ xs) ++ rest ≡ ((done ++ x ∷ []) ++ xs) ++ rest = ap (λ cs. cs ++ rest) (sym (append_assoc done (x ∷ []) xs)) in (
      settled-sound n w x.id (map passed (done ++ x ∷ [])) live (and_first (is_settled n w x.id) (list_all (is_settled n w) (map cell_number xs)) s),
      all-sound n w c (done ++ x ∷ []) xs rest book (flows ∙ ap (λ cs. Some cs) again) (and_second (is_settled n w x.id) (list_all (is_settled n w) (map cell_number xs)) s),
    )

-- the cell that may start is the first due one, and what stands before it is settled
pub record MayStart (n : Parts) (w : Work) (lane : Lane) (c : ℕ) : Type 0 where
  pub free : list_any (runs_in lane) w.running ≡ false
  pub first : find (is_due n w) (map cell_number (own_cells n lane)) ≡ Some c
  pub settled : list_all (is_settled n w) (earlier n c) ≡ true

settled-same : (n : Parts) (w : Work) (d c : ℕ) → settled_before n w d ≡ Some c → (d ≡ c) × (list_all (is_settled n w) (earlier n c) ≡ true)
settled-same n w d c e =
    elim (list_all (is_settled n w) (earlier n d))
    as (λ b. list_all (is_settled n w) (earlier n d) ≡ b → (if b then Some d else None) ≡ Some c → (d ≡ c) × (list_all (is_settled n w) (earlier n c) ≡ true)) [
      | true ↦ λ t f. let same : d ≡ c = cc f in (same, subst (λ k. list_all (is_settled n w) (earlier n k) ≡ true) same t)
      | false ↦ λ t f. absurd (cc f)
    ]
    refl
    e

free-start : (n : Parts) (w : Work) (lane : Lane) (c : ℕ) (o : Option ℕ) → list_any (runs_in lane) w.running ≡ false → find (is_due n w) (map cell_number (own_cells n lane)) ≡ o → option_and_then (settled_before n w) o ≡ Some c → MayStart n w lane c
free-start n w lane c None free f e = absurd (cc e)
free-start n w lane c (Some d) free f e =
    let s : (d ≡ c) × (list_all (is_settled n w) (earlier n c) ≡ true) = settled-same n w d c e in
    record { free = free; first = f ∙ ap (λ k. Some k) s.0; settled = s.1 }

pub may-start : (n : Parts) (w : Work) (lane : Lane) (c : ℕ) → may_start n w lane ≡ Some c → MayStart n w lane c
may-start n w lane c e =
    elim (list_any (runs_in lane) w.running)
    as (λ b. list_any (runs_in lane) w.running ≡ b → (if b then None else option_and_then (settled_before n w) (find (is_due n w) (map cell_number (own_cells n lane)))) ≡ Some c → MayStart n w lane c) [
      | true ↦ λ t f. absurd (cc f)
      | false ↦ λ t f. free-start n w lane c (find (is_due n w) (map cell_number (own_cells n lane))) t refl f
    ]
    refl
    e

-- every cell before the one that may start is evaluated along its present path, and shows a value
pub starts-sound : (n : Parts) (w : Work) (lane : Lane) (c : ℕ) (xs : List Cell) (y : Cell) → IsNotebook n → may_start n w lane ≡ Some c → flow n c ≡ Some (xs ++ y ∷ []) → y.id ≡ c → AreSound w [] xs
starts-sound n w lane c xs y book e flows same =
    let m : MayStart n w lane c = may-start n w lane c e in
    all-sound n w c [] xs (y ∷ []) book flows (ap (list_all (is_settled n w)) (sym (earlier-flow n c xs y flows same)) ∙ m.settled)

-- an outcome that isn't a fault is a value
pub value-of : (o : Outcome) → is_fault o ≡ false → (v : Value) × (o ≡ Outcomes.Value v)
value-of (Outcomes.Value v) e = (v, refl)
value-of (Outcomes.Fault f) e = absurd (cc e)

-- the first that passes is one of the list
record Found (p : ℕ → Bool) (cs : List Cell) (c : ℕ) : Type 0 where
  front : List Cell
  cell : Cell
  back : List Cell
  parts : cs ≡ front ++ cell ∷ back
  number : cell.id ≡ c

found-one : (p : ℕ → Bool) (cs : List Cell) (c : ℕ) → find p (map cell_number cs) ≡ Some c → Found p cs c
found-one p [] c e = absurd (cc e)
found-one p (x ∷ cs) c e =
    elim (p x.id)
    as (λ b. cond b (Some x.id) (find p (map cell_number cs)) ≡ Some c → Found p (x ∷ cs) c) [
      | true ↦ λ h. let same : x.id ≡ c = cc h in record { front = []; cell = x; back = cs; parts = refl; number = same }
      | false ↦ λ h. let r : Found p cs c = found-one p cs c h in record { front = x ∷ r.front; cell = r.cell; back = r.back; parts = ap (λ ks. x ∷ ks) r.parts; number = r.number }
    ]
    e

-- the cells of a lane have that lane
main-lane : (n : Parts) (xs ys : List Cell) (y : Cell) → IsNotebook n → n.setup ∷ main_cells n.sections ≡ xs ++ y ∷ ys → lane_of n y.id ≡ Some Main
main-lane n [] ys y book e =
    let same : n.setup ≡ y = cc e in
    let here : (n.setup.id == n.setup.id) ≡ true = eq-eqb n.setup.id n.setup.id refl in
    subst (λ (c : Cell). lane_of n c.id ≡ Some Main) same (ap (λ b. if b then Some Main else option_map section_lane (find (has_code n.setup.id) n.sections)) here)
main-lane n (x ∷ xs) ys y book e =
    let rest : main_cells n.sections ≡ xs ++ y ∷ ys = cc e in
    let t : MainSpot n.sections xs y = main-spot n.sections xs ys y rest in
    let i : In n t.front t.home t.back t.early y t.late = record { parts = t.parts; cells = t.cells; code = t.code } in
    in-lane n t.front t.home t.back t.early y t.late book i ∙ ap (λ p. Some (lane_by t.home.id p)) t.top

record FoundBranch (ss : List Section) (b : ℕ) (s : Section) : Type 0 where
  front : List Section
  back : List Section
  parts : ss ≡ front ++ s ∷ back
  here : is_branch b s ≡ true

found-branch : (ss : List Section) (b : ℕ) (s : Section) → find (is_branch b) ss ≡ Some s → FoundBranch ss b s
found-branch [] b s e = absurd (cc e)
found-branch (x ∷ ss) b s e =
    elim (is_branch b x)
    as (λ k. is_branch b x ≡ k → cond k (Some x) (find (is_branch b) ss) ≡ Some s → FoundBranch (x ∷ ss) b s) [
      | true ↦ λ t f. let same : x ≡ s = cc f in record { front = []; back = ss; parts = ap (λ k. k ∷ ss) same; here = ap (is_branch b) (sym same) ∙ t }
      | false ↦ λ t f. let r : FoundBranch ss b s = found-branch ss b s f in record { front = x ∷ r.front; back = r.back; parts = ap (λ ks. x ∷ ks) r.parts; here = r.here }
    ]
    refl
    e

branch-of : (b : ℕ) (parent : Option ℕ) → is_some parent ≡ true → lane_by b parent ≡ Branch b
branch-of b None e = absurd (cc e)
branch-of b (Some p) e = refl

branch-lane : (n : Parts) (b : ℕ) (o : Option Section) (xs ys : List Cell) (y : Cell) → IsNotebook n → find (is_branch b) n.sections ≡ o → unwrap_or (option_map section_code o) [] ≡ xs ++ y ∷ ys → lane_of n y.id ≡ Some (Branch b)
branch-lane n b None [] ys y book f e = absurd (cc e)
branch-lane n b None (x ∷ xs) ys y book f e = absurd (cc e)
branch-lane n b (Some s) xs ys y book f e =
    let r : FoundBranch n.sections b s = found-branch n.sections b s f in
    let t : CodeSpot s.cells xs y = code-spot s.cells xs ys y e in
    let i : In n r.front s r.back t.early y t.late = record { parts = r.parts; cells = t.cells; code = t.code } in
    let number : s.id ≡ b = eqb-true s.id b (and_first (is_section b s) (is_some s.parent) r.here) in
    in-lane n r.front s r.back t.early y t.late book i
    ∙ ap (λ l. Some l) (branch-of s.id s.parent (and_second (is_section b s) (is_some s.parent) r.here) ∙ ap (λ k. Branch k) number)

own-lane : (n : Parts) (lane : Lane) (xs ys : List Cell) (y : Cell) → IsNotebook n → own_cells n lane ≡ xs ++ y ∷ ys → lane_of n y.id ≡ Some lane
own-lane n Main xs ys y book e = main-lane n xs ys y book e
own-lane n (Branch b) xs ys y book e = branch-lane n b (find (is_branch b) n.sections) xs ys y book refl e

-- the cell that may start in a lane has that lane
pub starts-lane : (n : Parts) (w : Work) (lane : Lane) (c : ℕ) → IsNotebook n → may_start n w lane ≡ Some c → lane_of n c ≡ Some lane
starts-lane n w lane c book e =
    let m : MayStart n w lane c = may-start n w lane c e in
    let r : Found (is_due n w) (own_cells n lane) c = found-one (is_due n w) (own_cells n lane) c m.first in
    subst (λ k. lane_of n k ≡ Some lane) r.number (own-lane n lane r.front r.back r.cell book r.parts)
