-- Where a queued cell isn't hopeless and nothing runs, some lane may start.
use Rattle.std.proofs.Common.{◌≡◌, ℕ, ◌==◌, ◌&&◌, ◌||◌, not, Bool, true, false, cond, List, [], ◌∷◌, ◌++◌, Option, Some, None, map, find, filter, refl, sym, ap, subst, ◌∙◌, append_assoc, eq-eqb, eqb-true}
use Rattle.std.specs.Prelude.{if◌then◌else◌, is_some, unwrap_or, option_map, option_and_then}
use Rattle.std.specs.List.{list_any, list_all}
use Rattle.std.proofs.lemmas.List.{map-append}
use Rattle.std.proofs.lemmas.List.Elements.{filter-append}
use Rattle.std.proofs.lemmas.List.Folds.{list_any-append}
use Rattle.notebook.specs.declared.parts.Cell.{Cell}
use Rattle.notebook.specs.declared.parts.Section.{Section}
use Rattle.notebook.specs.declared.parts.Parts.{Parts}
use Rattle.notebook.specs.declared.states.Lane.{Lane}
use Rattle.notebook.specs.declared.states.Lane.TheVariants.{Main, Branch}
use Rattle.notebook.specs.Before.{sections_before}
use Rattle.notebook.specs.Rules.{IsNotebook, cell_number, section_number, AreDistinct}
use Rattle.notebook.specs.Flow.{is_code, code_cells, section_code, main_cells, is_cell, is_section, flow_in, lane_of, lane_by, section_lane, up_to, flow, has_code}
use Rattle.notebook.proofs.Standing.{Spot, spot_before, spot-code, spot-flow, main-split, first-numbered}
use Rattle.notebook.proofs.Flows.{lane-spot, prefix-flow}
use Rattle.section_queues.specs.Facts.{Facts, is_in, is_evaluated, shows_fault, has_failed}
use Rattle.section_queues.specs.Wanted.{Wanted, is_queued, is_running, runs_cell, runs_in}
use Rattle.section_queues.specs.Starts.{earlier, failed_ancestor, stands_in, is_due, is_branch, own_cells, is_settled, settled_before, may_start, branch_lane, branches, lanes_of, may_start_in, ready_lane}
use Rattle.section_queues.proofs.Lists.{find-past, find-first, find-rest}
use Rattle.section_queues.proofs.Earlier.{earlier-flow}

-- tests
or_left : (a b : Bool) → (a || b) ≡ false → a ≡ false
or_left true b e = e
or_left false b e = refl

or_right : (a b : Bool) → (a || b) ≡ false → b ≡ false
or_right true b e = absurd (cc e)
or_right false b e = e

or_yes : (a : Bool) → (a || true) ≡ true
or_yes true = refl
or_yes false = refl

-- of two facts of which not both hold the second holds: the first doesn't
not-both : (a b : Bool) → (not a && b) ≡ false → b ≡ true → a ≡ true
not-both true b e h = refl
not-both false b e h = absurd (cc (e, h))

and_fails : (a b : Bool) → (a && b) ≡ false → a ≡ true → b ≡ false
and_fails true b e h = e
and_fails false b e h = absurd (cc h)

none-back : {X : Type 0} (p : X → Bool) (xs ys : List X) → find p (xs ++ ys) ≡ None → find p ys ≡ None
none-back p [] ys e = e
none-back p (x ∷ xs) ys e = none-back p xs ys (find-rest p x (xs ++ ys) e)

none-front : {X : Type 0} (p : X → Bool) (xs ys : List X) → find p (xs ++ ys) ≡ None → find p xs ≡ None
none-front p [] ys e = refl
none-front p (x ∷ xs) ys e = ap (λ b. cond b (Some x) (find p xs)) (find-first p x (xs ++ ys) e) ∙ none-front p xs ys (find-rest p x (xs ++ ys) e)

and_then_second : (a b : Bool) → (a && b) ≡ true → b ≡ true
and_then_second true b e = e
and_then_second false b e = absurd (cc e)

-- the first that passes, where one does
pub record FirstOf (p : ℕ → Bool) (cs : List Cell) : Type 0 where
  pub front : List Cell
  pub cell : Cell
  pub back : List Cell
  pub parts : cs ≡ front ++ cell ∷ back
  pub none : find p (map cell_number front) ≡ None
  pub here : p cell.id ≡ true

first-of : (p : ℕ → Bool) (xs : List Cell) (c : Cell) → p c.id ≡ true → FirstOf p (xs ++ c ∷ [])
first-of p [] c h = record { front = []; cell = c; back = []; parts = refl; none = refl; here = h }
first-of p (x ∷ xs) c h =
    elim (p x.id)
    as (λ b. p x.id ≡ b → FirstOf p (x ∷ (xs ++ c ∷ []))) [
      | true ↦ λ t. record { front = []; cell = x; back = xs ++ c ∷ []; parts = refl; none = refl; here = t }
      | false ↦ λ t.
          let r : FirstOf p (xs ++ c ∷ []) = first-of p xs c h in
          record { front = x ∷ r.front; cell = r.cell; back = r.back; parts = ap (λ ds. x ∷ ds) r.parts; none = ap (λ b. cond b (Some x.id) (find p (map cell_number r.front))) t ∙ r.none; here = r.here }
    ]
    refl

-- a lane's own cells, up to a cell of the lane: they end what stands before it in its flow
record Own (n : Parts) (k : ℕ) (line : List Cell) (lane : Lane) (c : Cell) : Type 0 where
  ahead : List Cell
  early : List Cell
  late : List Cell
  cells : own_cells n lane ≡ early ++ c ∷ late
  ends : line ≡ ahead ++ early

-- the branch of a number
branch-numbered : (front back : List Section) (s : Section) → find (is_section s.id) front ≡ None → find (is_branch s.id) front ≡ None
branch-numbered [] back s e = refl
branch-numbered (x ∷ front) back s e =
    let here : (x.id == s.id) ≡ false = find-first (is_section s.id) x front e in
    ap (λ b. cond (b && is_some x.parent) (Some x) (find (is_branch s.id) front)) here ∙ branch-numbered front back s (find-rest (is_section s.id) x front e)

spot-own : (n : Parts) (k : ℕ) (t : Spot n.sections k) (parent : Option ℕ) → IsNotebook n → t.home.parent ≡ parent → Own n k (spot_before n k t parent) (lane_by t.home.id parent) t.cell
spot-own n k t None book top =
    let own : section_code t.home ≡ code_cells t.early ++ t.cell ∷ code_cells t.late =
    ap code_cells t.cells ∙ (filter-append is_code t.early (t.cell ∷ t.late) ∙ ap (λ b. code_cells t.early ++ cond b (t.cell ∷ code_cells t.late) (code_cells t.late)) (spot-code n.sections k t)) in
    let all : main_cells n.sections ≡ (main_cells t.front ++ code_cells t.early) ++ t.cell ∷ (code_cells t.late ++ main_cells t.back) =
    ap main_cells t.parts
    ∙ (main-split t.front t.back t.home top
    ∙ (ap (λ cs. main_cells t.front ++ (cs ++ main_cells t.back)) own
    ∙ (ap (λ cs. main_cells t.front ++ cs) (append_assoc (code_cells t.early) (t.cell ∷ code_cells t.late) (main_cells t.back))
    ∙ sym (append_assoc (main_cells t.front) (code_cells t.early) (t.cell ∷ (code_cells t.late ++ main_cells t.back)))))) in
    record {
      ahead = [];
      early = n.setup ∷ (main_cells t.front ++ code_cells t.early);
      late = code_cells t.late ++ main_cells t.back;
      cells = ap (λ cs. n.setup ∷ cs) all;
      ends = refl;
    }
spot-own n k t (Some p) book top =
    let s : Section = t.home in
    let own : section_code s ≡ code_cells t.early ++ t.cell ∷ code_cells t.late =
    ap code_cells t.cells ∙ (filter-append is_code t.early (t.cell ∷ t.late) ∙ ap (λ b. code_cells t.early ++ cond b (t.cell ∷ code_cells t.late) (code_cells t.late)) (spot-code n.sections k t)) in
    let apart : AreDistinct (map section_number (t.front ++ s ∷ t.back)) = subst (λ ss. AreDistinct (map section_number ss)) t.parts book.section_numbers.1 in
    let none : find (is_branch s.id) t.front ≡ None = branch-numbered t.front t.back s (first-numbered t.front t.back s apart) in
    let same : (s.id == s.id) ≡ true = eq-eqb s.id s.id refl in
    let here : is_branch s.id s ≡ true = ap (λ b. b && is_some s.parent) same ∙ ap (λ (o : Option ℕ). is_some o) top in
    let found : find (is_branch s.id) n.sections ≡ Some s =
    ap (find (is_branch s.id)) t.parts ∙ (find-past (is_branch s.id) t.front (s ∷ t.back) none ∙ ap (λ b. cond b (Some s) (find (is_branch s.id) t.back)) here) in
    record {
      ahead = n.setup ∷ main_cells (sections_before n.sections t.front (Some p));
      early = code_cells t.early;
      late = code_cells t.late;
      cells = ap (λ o. unwrap_or (option_map section_code o) []) found ∙ own;
      ends = refl;
    }

-- where nothing runs
rests-start : (n : Parts) (v : Facts) (w : Wanted) (lane : Lane) → w.running ≡ [] → may_start n v w lane ≡ option_and_then (settled_before n v w) (find (is_due n v w) (map cell_number (own_cells n lane)))
rests-start n v w lane rests = ap (λ rs. if list_any (runs_in lane) rs then None else option_and_then (settled_before n v w) (find (is_due n v w) (map cell_number (own_cells n lane)))) rests

rests-run : (w : Wanted) (k : ℕ) → w.running ≡ [] → is_running w k ≡ false
rests-run w k rests = ap (λ rs. list_any (runs_cell k) rs) rests

-- the first due cell of a lane starts, where what stands before it is settled
own-starts : (n : Parts) (v : Facts) (w : Wanted) (k : ℕ) (line : List Cell) (lane : Lane) (c : Cell) → w.running ≡ [] → c.id ≡ k → Own n k line lane c → find (is_due n v w) (map cell_number line) ≡ None → is_due n v w k ≡ true → earlier n k ≡ map cell_number line → list_all (is_settled v w) (map cell_number line) ≡ true → may_start n v w lane ≡ Some k
own-starts n v w k line lane c rests same o none due ahead settled =
    let both : map cell_number line ≡ map cell_number o.ahead ++ map cell_number o.early = ap (map cell_number) o.ends ∙ map-append cell_number o.ahead o.early in
    let early : find (is_due n v w) (map cell_number o.early) ≡ None = none-back (is_due n v w) (map cell_number o.ahead) (map cell_number o.early) (ap (find (is_due n v w)) (sym both) ∙ none) in
    let own : map cell_number (own_cells n lane) ≡ map cell_number o.early ++ k ∷ map cell_number o.late =
    ap (map cell_number) o.cells ∙ (map-append cell_number o.early (c ∷ o.late) ∙ ap (λ j. map cell_number o.early ++ j ∷ map cell_number o.late) same) in
    let first : find (is_due n v w) (map cell_number (own_cells n lane)) ≡ Some k =
    ap (find (is_due n v w)) own ∙ (find-past (is_due n v w) (map cell_number o.early) (k ∷ map cell_number o.late) early ∙ ap (λ b. cond b (Some k) (find (is_due n v w) (map cell_number o.late))) due) in
    rests-start n v w lane rests
    ∙ (ap (option_and_then (settled_before n v w)) first
    ∙ (ap (λ ks. if list_all (is_settled v w) ks then Some k else None) ahead ∙ ap (λ b. if b then Some k else None) settled))

-- a cell that stands in the flow of a queued one was asked for
asked-by : (n : Parts) (j : ℕ) (ks : List ℕ) (c : ℕ) → is_in c ks ≡ true → stands_in n j c ≡ true → list_any (stands_in n j) ks ≡ true
asked-by n j [] c e h = absurd (cc e)
asked-by n j (k ∷ ks) c e h =
    elim (k == c)
    as (λ b. (k == c) ≡ b → (b || is_in c ks) ≡ true → list_any (stands_in n j) (k ∷ ks) ≡ true) [
      | true ↦ λ t _. ap (λ b. b || list_any (stands_in n j) ks) (ap (stands_in n j) (eqb-true k c t) ∙ h)
      | false ↦ λ t more. ap (λ b. stands_in n j k || b) (asked-by n j ks c more h) ∙ or_yes (stands_in n j k)
    ]
    refl
    e

is-in : (cs rest : List Cell) (x : Cell) → list_any (is_cell x.id) (cs ++ x ∷ rest) ≡ true
is-in [] rest x = ap (λ b. b || list_any (is_cell x.id) rest) (eq-eqb x.id x.id refl)
is-in (c ∷ cs) rest x = ap (λ b. is_cell x.id c || b) (is-in cs rest x) ∙ or_yes (is_cell x.id c)

-- what stands before the first due cell in the flow of a queued cell is settled
settled-one : (n : Parts) (v : Facts) (w : Wanted) (c : ℕ) (line : List Cell) (x : Cell) → w.running ≡ [] → is_queued w c ≡ true → flow n c ≡ Some line → list_any (is_cell x.id) line ≡ true → is_due n v w x.id ≡ false → has_failed v x.id ≡ false → is_settled v w x.id ≡ true
settled-one n v w c line x rests q flows there due unfailed =
    let stands : stands_in n x.id c ≡ true = ap (λ o. list_any (is_cell x.id) (unwrap_or o [])) flows ∙ there in
    let asked : list_any (stands_in n x.id) w.queued ≡ true = asked-by n x.id w.queued c q stands in
    let queued : is_queued w x.id ≡ false = or_left (is_queued w x.id) (not (is_evaluated v x.id) && list_any (stands_in n x.id) w.queued) due in
    let evaluated : is_evaluated v x.id ≡ true =
    not-both (is_evaluated v x.id) (list_any (stands_in n x.id) w.queued) (or_right (is_queued w x.id) (not (is_evaluated v x.id) && list_any (stands_in n x.id) w.queued) due) asked in
    let fault : shows_fault v x.id ≡ false = and_fails (is_evaluated v x.id) (shows_fault v x.id) unfailed evaluated in
    ap (λ b. not b && (not (is_running w x.id) && (is_evaluated v x.id && not (shows_fault v x.id)))) queued
    ∙ (ap (λ b. not b && (is_evaluated v x.id && not (shows_fault v x.id))) (rests-run w x.id rests)
    ∙ (ap (λ b. b && not (shows_fault v x.id)) evaluated ∙ ap not fault))

settled-all : (n : Parts) (v : Facts) (w : Wanted) (c : ℕ) (done xs rest : List Cell) → w.running ≡ [] → is_queued w c ≡ true → flow n c ≡ Some ((done ++ xs) ++ rest) → find (is_due n v w) (map cell_number xs) ≡ None → find (has_failed v) (map cell_number xs) ≡ None → list_all (is_settled v w) (map cell_number xs) ≡ true
settled-all n v w c done [] rest rests q flows due failed = refl
settled-all n v w c done (x ∷ xs) rest rests q flows due failed =
    let line : (done ++ x ∷ xs) ++ rest ≡ done ++ x ∷ (xs ++ rest) = append_assoc done (x ∷ xs) rest in
    let there : list_any (is_cell x.id) ((done ++ x ∷ xs) ++ rest) ≡ true = ap (list_any (is_cell x.id)) line ∙ is-in done (xs ++ rest) x in
    let here : is_settled v w x.id ≡ true =
    settled-one n v w c ((done ++ x ∷ xs) ++ rest) x rests q flows there (find-first (is_due n v w) x.id (map cell_number xs) due) (find-first (has_failed v) x.id (map cell_number xs) failed) in
    let again : (done ++ x ∷ xs) ++ rest ≡ ((done ++ x ∷ []) ++ xs) ++ rest = ap (λ cs. cs ++ rest) (sym (append_assoc done (x ∷ []) xs)) in
    ap (λ b. b && list_all (is_settled v w) (map cell_number xs)) here
    ∙ settled-all n v w c (done ++ x ∷ []) xs rest rests q (flows ∙ ap (λ cs. Some cs) again) (find-rest (is_due n v w) x.id (map cell_number xs) due) (find-rest (has_failed v) x.id (map cell_number xs) failed)

-- a lane of the notebook that may start is among those that are looked at
find-some : {X : Type 0} (p : X → Bool) (xs : List X) → list_any p xs ≡ true → (x : X) × (find p xs ≡ Some x)
find-some p [] e = absurd (cc e)
find-some {X} p (x ∷ xs) e =
    elim (p x)
    as (λ b. (b || list_any p xs) ≡ true → (y : X) × (cond b (Some x) (find p xs) ≡ Some y)) [
      | true ↦ λ h. (x, refl)
      | false ↦ λ h. find-some p xs h
    ]
    e

main-ready : (n : Parts) (v : Facts) (w : Wanted) → may_start_in n v w Main ≡ true → list_any (may_start_in n v w) (lanes_of n) ≡ true
main-ready n v w e = ap (λ b. b || list_any (may_start_in n v w) (map branch_lane (filter branches n.sections))) e

branch-ready : (n : Parts) (v : Facts) (w : Wanted) (front back : List Section) (s : Section) (p : ℕ) → n.sections ≡ front ++ s ∷ back → s.parent ≡ Some p → may_start_in n v w (Branch s.id) ≡ true → list_any (may_start_in n v w) (lanes_of n) ≡ true
branch-ready n v w front back s p parts top e =
    let here : branches s ≡ true = ap (λ (o : Option ℕ). is_some o) top in
    let kept : filter branches n.sections ≡ filter branches front ++ s ∷ filter branches back =
    ap (filter branches) parts ∙ (filter-append branches front (s ∷ back) ∙ ap (λ b. filter branches front ++ cond b (s ∷ filter branches back) (filter branches back)) here) in
    let lanes : map branch_lane (filter branches n.sections) ≡ map branch_lane (filter branches front) ++ Branch s.id ∷ map branch_lane (filter branches back) =
    ap (map branch_lane) kept ∙ map-append branch_lane (filter branches front) (s ∷ filter branches back) in
    let some : list_any (may_start_in n v w) (map branch_lane (filter branches n.sections)) ≡ true =
    ap (list_any (may_start_in n v w)) lanes
    ∙ (list_any-append (may_start_in n v w) (map branch_lane (filter branches front)) (Branch s.id ∷ map branch_lane (filter branches back))
    ∙ (ap (λ b. list_any (may_start_in n v w) (map branch_lane (filter branches front)) || (b || list_any (may_start_in n v w) (map branch_lane (filter branches back)))) e
    ∙ or_yes (list_any (may_start_in n v w) (map branch_lane (filter branches front))))) in
    ap (λ b. may_start_in n v w Main || b) some ∙ or_yes (may_start_in n v w Main)

spot-ready : (n : Parts) (v : Facts) (w : Wanted) (k : ℕ) (t : Spot n.sections k) (parent : Option ℕ) → t.home.parent ≡ parent → may_start n v w (lane_by t.home.id parent) ≡ Some k → list_any (may_start_in n v w) (lanes_of n) ≡ true
spot-ready n v w k t None top e = main-ready n v w (ap is_some e)
spot-ready n v w k t (Some p) top e = branch-ready n v w t.front t.back t.home p t.parts top (ap is_some e)

setup-starts : (n : Parts) (v : Facts) (w : Wanted) (k : ℕ) (line : List Cell) (c : Cell) → w.running ≡ [] → c.id ≡ k → (n.setup.id == k) ≡ true → flow n k ≡ Some (line ++ c ∷ []) → find (is_due n v w) (map cell_number line) ≡ None → is_due n v w k ≡ true → list_all (is_settled v w) (map cell_number line) ≡ true → list_any (may_start_in n v w) (lanes_of n) ≡ true
setup-starts n v w k line c rests same own flows none due settled =
    let number : n.setup.id ≡ k = eqb-true n.setup.id k own in
    let here : is_due n v w n.setup.id ≡ true = ap (is_due n v w) number ∙ due in
    let first : find (is_due n v w) (map cell_number (own_cells n Main)) ≡ Some k =
    ap (λ b. cond b (Some n.setup.id) (find (is_due n v w) (map cell_number (main_cells n.sections)))) here ∙ ap (λ j. Some j) number in
    let starts : may_start n v w Main ≡ Some k =
    rests-start n v w Main rests
    ∙ (ap (option_and_then (settled_before n v w)) first
    ∙ (ap (λ ks. if list_all (is_settled v w) ks then Some k else None) (earlier-flow n k line c flows same) ∙ ap (λ b. if b then Some k else None) settled)) in
    main-ready n v w (ap is_some starts)

section-starts : (n : Parts) (v : Facts) (w : Wanted) (k : ℕ) (line : List Cell) (c : Cell) (lane : Lane) → IsNotebook n → w.running ≡ [] → c.id ≡ k → (n.setup.id == k) ≡ false → flow n k ≡ Some (line ++ c ∷ []) → lane_of n k ≡ Some lane → find (is_due n v w) (map cell_number line) ≡ None → is_due n v w k ≡ true → list_all (is_settled v w) (map cell_number line) ≡ true → list_any (may_start_in n v w) (lanes_of n) ≡ true
section-starts n v w k line c lane book rests same other flows there none due settled =
    let s : (t : Spot n.sections k) × (lane ≡ section_lane t.home) = lane-spot n k lane other there in
    let t : Spot n.sections k = s.0 in
    let before : List Cell = spot_before n k t t.home.parent in
    let number : t.cell.id ≡ k = eqb-true t.cell.id k (and_then_second (is_code t.cell) (is_cell k t.cell) t.here) in
    let known : flow n k ≡ Some (before ++ t.cell ∷ []) = spot-flow n k t book other in
    let both : map cell_number line ≡ map cell_number before = sym (earlier-flow n k line c flows same) ∙ earlier-flow n k before t.cell known number in
    let o : Own n k before (lane_by t.home.id t.home.parent) t.cell = spot-own n k t t.home.parent book refl in
    let starts : may_start n v w (lane_by t.home.id t.home.parent) ≡ Some k =
    own-starts n v w k before (lane_by t.home.id t.home.parent) t.cell rests number o
    (ap (find (is_due n v w)) (sym both) ∙ none) due (earlier-flow n k before t.cell known number) (ap (list_all (is_settled v w)) (sym both) ∙ settled) in
    spot-ready n v w k t t.home.parent refl starts

-- the first due cell of a queued cell's flow may start
due-starts : (n : Parts) (v : Facts) (w : Wanted) (k : ℕ) (line : List Cell) (c : Cell) (lane : Lane) → IsNotebook n → w.running ≡ [] → c.id ≡ k → flow n k ≡ Some (line ++ c ∷ []) → lane_of n k ≡ Some lane → find (is_due n v w) (map cell_number line) ≡ None → is_due n v w k ≡ true → list_all (is_settled v w) (map cell_number line) ≡ true → list_any (may_start_in n v w) (lanes_of n) ≡ true
due-starts n v w k line c lane book rests same flows there none due settled =
    elim (n.setup.id == k)
    as (λ b. (n.setup.id == k) ≡ b → list_any (may_start_in n v w) (lanes_of n) ≡ true) [
      | true ↦ λ own. setup-starts n v w k line c rests same own flows none due settled
      | false ↦ λ other. section-starts n v w k line c lane book rests same other flows there none due settled
    ]
    refl

lane-flow : (n : Parts) (c : ℕ) (line : List Cell) (o : Option Lane) → lane_of n c ≡ o → flow n c ≡ Some line → (lane : Lane) × (lane_of n c ≡ Some lane)
lane-flow n c line None e h =
    let none : flow n c ≡ None = ap (option_map (flow_in n c)) e in
    let both : None ≡ Some line = sym none ∙ h in
    absurd (cc both)
lane-flow n c line (Some lane) e h = (lane, e)

-- a flow ends by the cell itself
pub record EndsBy (line : List Cell) (c : ℕ) : Type 0 where
  pub front : List Cell
  pub cell : Cell
  pub parts : line ≡ front ++ cell ∷ []
  pub number : cell.id ≡ c

setup-ends : (n : Parts) (c : ℕ) (line : List Cell) → (n.setup.id == c) ≡ true → flow n c ≡ Some line → EndsBy line c
setup-ends n c line own e =
    let known : flow n c ≡ Some (n.setup ∷ []) =
    ap (λ b. option_map (flow_in n c) (if b then Some Main else option_map section_lane (find (has_code c) n.sections))) own
    ∙ ap (λ b. Some (if b then n.setup ∷ [] else n.setup ∷ up_to (is_cell c) (main_cells n.sections))) own in
    let both : Some line ≡ Some (n.setup ∷ []) = sym e ∙ known in
    let same : line ≡ n.setup ∷ [] = cc both in
    record { front = []; cell = n.setup; parts = same; number = eqb-true n.setup.id c own }

section-ends : (n : Parts) (c : ℕ) (line : List Cell) (lane : Lane) → IsNotebook n → (n.setup.id == c) ≡ false → lane_of n c ≡ Some lane → flow n c ≡ Some line → EndsBy line c
section-ends n c line lane book other there e =
    let s : (t : Spot n.sections c) × (lane ≡ section_lane t.home) = lane-spot n c lane other there in
    let t : Spot n.sections c = s.0 in
    let both : Some line ≡ Some (spot_before n c t t.home.parent ++ t.cell ∷ []) = sym e ∙ spot-flow n c t book other in
    let same : line ≡ spot_before n c t t.home.parent ++ t.cell ∷ [] = cc both in
    record { front = spot_before n c t t.home.parent; cell = t.cell; parts = same; number = eqb-true t.cell.id c (and_then_second (is_code t.cell) (is_cell c t.cell) t.here) }

pub flow-ends : (n : Parts) (c : ℕ) (line : List Cell) → IsNotebook n → flow n c ≡ Some line → EndsBy line c
flow-ends n c line book e =
    elim (n.setup.id == c)
    as (λ b. (n.setup.id == c) ≡ b → EndsBy line c) [
      | true ↦ λ own. setup-ends n c line own e
      | false ↦ λ other. let l : (lane : Lane) × (lane_of n c ≡ Some lane) = lane-flow n c line (lane_of n c) refl e in section-ends n c line l.0 book other l.1 e
    ]
    refl

front-of : (front xs back : List Cell) (y c : Cell) → xs ++ y ∷ [] ≡ front ++ c ∷ back → (zs : List Cell) × (xs ≡ front ++ zs)
front-of [] xs back y c e = (xs, refl)
front-of (f ∷ []) [] back y c e = absurd (cc e)
front-of (f ∷ g ∷ front) [] back y c e = absurd (cc e)
front-of (f ∷ front) (x ∷ xs) back y c e =
    let same : x ≡ f = cc e in
    let rest : xs ++ y ∷ [] ≡ front ++ c ∷ back = cc e in
    let r : (zs : List Cell) × (xs ≡ front ++ zs) = front-of front xs back y c rest in
    (r.0, ap (λ k. k ∷ xs) same ∙ ap (λ ks. f ∷ ks) r.1)

queued-due : (n : Parts) (v : Facts) (w : Wanted) (c : ℕ) → is_queued w c ≡ true → is_due n v w c ≡ true
queued-due n v w c q = ap (λ b. b || (not (is_evaluated v c) && list_any (stands_in n c) w.queued)) q

-- where nothing runs, and some cell is queued that has a flow and no ancestor that failed, some lane may start
pub some-lane : (n : Parts) (v : Facts) (w : Wanted) (c : ℕ) (line : List Cell) → IsNotebook n → w.running ≡ [] → is_queued w c ≡ true → flow n c ≡ Some line → failed_ancestor n v c ≡ None → (lane : Lane) × (ready_lane n v w ≡ Some lane)
some-lane n v w c line book rests q live unfailed =
    let ends : EndsBy line c = flow-ends n c line book live in
    let whole : flow n c ≡ Some (ends.front ++ ends.cell ∷ []) = live ∙ ap (λ cs. Some cs) ends.parts in
    let due : is_due n v w ends.cell.id ≡ true = ap (is_due n v w) ends.number ∙ queued-due n v w c q in
    let r : FirstOf (is_due n v w) (ends.front ++ ends.cell ∷ []) = first-of (is_due n v w) ends.front ends.cell due in
    let cut : flow n c ≡ Some (r.front ++ r.cell ∷ r.back) = whole ∙ ap (λ cs. Some cs) r.parts in
    let flows : flow n r.cell.id ≡ Some (r.front ++ r.cell ∷ []) = prefix-flow n c r.front r.back r.cell book cut in
    let lane : (lane : Lane) × (lane_of n r.cell.id ≡ Some lane) = lane-flow n r.cell.id (r.front ++ r.cell ∷ []) (lane_of n r.cell.id) refl flows in
    let zs : (zs : List Cell) × (ends.front ≡ r.front ++ zs) = front-of r.front ends.front r.back ends.cell r.cell r.parts in
    let numbers : earlier n c ≡ map cell_number r.front ++ map cell_number zs.0 =
    earlier-flow n c ends.front ends.cell whole ends.number ∙ (ap (map cell_number) zs.1 ∙ map-append cell_number r.front zs.0) in
    let failed : find (has_failed v) (map cell_number r.front) ≡ None =
    none-front (has_failed v) (map cell_number r.front) (map cell_number zs.0) (ap (find (has_failed v)) (sym numbers) ∙ unfailed) in
    let settled : list_all (is_settled v w) (map cell_number r.front) ≡ true = settled-all n v w c [] r.front (r.cell ∷ r.back) rests q cut r.none failed in
    find-some (may_start_in n v w) (lanes_of n) (due-starts n v w r.cell.id r.front r.cell lane.0 book rests refl flows lane.1 r.none r.here settled)
