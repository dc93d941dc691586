-- Starts in the first lane that may start, and where none may.
use Rattle.std.proofs.Common.{◌≡◌, ℕ, ◌&&◌, ◌||◌, not, Bool, true, false, cond, List, [], ◌∷◌, ◌++◌, Option, Some, None, map, find, refl, sym, ap, ◌∙◌, append_assoc, ◌⊎◌, inl, inr}
use Rattle.std.specs.Prelude.{is_some, option_and_then}
use Rattle.std.specs.List.{list_any}
use Rattle.std.proofs.lemmas.List.{append-nil}
use Rattle.notebook.specs.declared.parts.Parts.{Parts}
use Rattle.notebook.specs.declared.states.Lane.{Lane}
use Rattle.notebook.specs.Rules.{cell_number}
use Rattle.ex_model.specs.declared.ran.Shown.{Shown}
use Rattle.lanes.specs.declared.work.Mark.{Mark}
use Rattle.lanes.specs.declared.work.Work.{Work}
use Rattle.lanes.specs.Work.{is_mark_of, queued_by, is_evaluated, stands_in, is_asked_by, is_due, own_cells, settled_before, runs_in, may_start, may_start_in, lanes_of, is_queued_mark, is_idle, ready_lane as ready_lane_of}
use Rattle.session_ops.specs.declared.entry.Op.{Op}
use Rattle.session_ops.specs.declared.entry.Call.TheVariants.{Client as ByClient, Start, Respond}
use Rattle.session_ops.specs.declared.entry.Reply.{Reply}
use Rattle.session_ops.specs.declared.entry.Entry.{Entry}
use Rattle.session_ops.specs.State.{state}
use Rattle.session_core.specs.Session.{entry_of, ready_lane}
use Rattle.driver.specs.Headline.{TakeReadyLanes}

-- an entry of two joined lists is in the first or in the second
abbrev IsInEither : List Entry → List Entry → List Entry → Entry → List Entry → Type 0
IsInEither xs ys before e rest = ((more : List Entry) × (xs ≡ before ++ e ∷ more)) ⊎ ((more : List Entry) × ((before ≡ xs ++ more) × (ys ≡ more ++ e ∷ rest)))

either-later : (x b : Entry) (xs ys before : List Entry) (e : Entry) (rest : List Entry) → x ≡ b → IsInEither xs ys before e rest → IsInEither (x ∷ xs) ys (b ∷ before) e rest
either-later x b xs ys before e rest same (inl (more, here)) = inl (more, ap (λ k. k ∷ xs) same ∙ ap (λ ks. b ∷ ks) here)
either-later x b xs ys before e rest same (inr (more, (ahead, later))) = inr (more, (ap (λ k. k ∷ before) (sym same) ∙ ap (λ ks. x ∷ ks) ahead, later))

either : (xs ys before : List Entry) (e : Entry) (rest : List Entry) → xs ++ ys ≡ before ++ e ∷ rest → IsInEither xs ys before e rest
either [] ys before e rest h = inr (before, (refl, h))
either (x ∷ xs) ys [] e rest h = let same : x ≡ e = cc h in inl (xs, ap (λ k. k ∷ xs) same)
either (x ∷ xs) ys (b ∷ before) e rest h =
    let same : x ≡ b = cc h in
    let later : xs ++ ys ≡ before ++ e ∷ rest = cc h in
    either-later x b xs ys before e rest same (either xs ys before e rest later)

no-entry : (before : List Entry) (e : Entry) (rest : List Entry) → [] ≡ before ++ e ∷ rest → ⊥
no-entry [] e rest h = absurd (cc h)
no-entry (b ∷ before) e rest h = absurd (cc h)

-- an entry alone
only-entry : (x : Entry) (before : List Entry) (e : Entry) (rest : List Entry) → x ∷ [] ≡ before ++ e ∷ rest → (before ≡ []) × (x ≡ e)
only-entry x [] e rest h = (refl, cc h)
only-entry x (b ∷ before) e rest h = let later : [] ≡ before ++ e ∷ rest = cc h in absurd (no-entry before e rest later)

-- no start; a start; another call
pub ready-none : (n0 : Parts) (by : ℕ) (h : List Entry) → TakeReadyLanes n0 by h []
ready-none n0 by h = λ before rest lane answer e. absurd (no-entry before (entry_of by (Start lane) answer) rest e)

pub ready-start : (n0 : Parts) (by : ℕ) (h : List Entry) (own : Lane) (reply : Reply) → ready_lane (state n0 h) ≡ Some own → TakeReadyLanes n0 by h (entry_of by (Start own) reply ∷ [])
ready-start n0 by h own reply ready = λ before rest lane answer e.
    let only = only-entry (entry_of by (Start own) reply) before (entry_of by (Start lane) answer) rest e in
    let calls : Start own ≡ Start lane = ap (λ (x : Entry). x.call) only.1 in
    let same : own ≡ lane = cc calls in
    let here : h ++ before ≡ h = ap (λ k. h ++ k) only.0 ∙ append-nil h in
    ap (λ k. ready_lane (state n0 k)) here ∙ (ready ∙ ap Some same)

pub ready-response : (n0 : Parts) (by : ℕ) (h : List Entry) (own eval : ℕ) (shown : Shown) (reply : Reply) → TakeReadyLanes n0 by h (entry_of own (Respond eval shown) reply ∷ [])
ready-response n0 by h own eval shown reply = λ before rest lane answer e.
    let only = only-entry (entry_of own (Respond eval shown) reply) before (entry_of by (Start lane) answer) rest e in
    let calls : Respond eval shown ≡ Start lane = ap (λ (x : Entry). x.call) only.1 in
    absurd (cc calls)

ready-call : (n0 : Parts) (by : ℕ) (h : List Entry) (own n : ℕ) (op : Op) (reply : Reply) → TakeReadyLanes n0 by h (entry_of own (ByClient n op) reply ∷ [])
ready-call n0 by h own n op reply = λ before rest lane answer e.
    let only = only-entry (entry_of own (ByClient n op) reply) before (entry_of by (Start lane) answer) rest e in
    let calls : ByClient n op ≡ Start lane = ap (λ (x : Entry). x.call) only.1 in
    absurd (cc calls)

-- entries after others
ready-either : (n0 : Parts) (by : ℕ) (h xs ys : List Entry) → TakeReadyLanes n0 by h xs → TakeReadyLanes n0 by (h ++ xs) ys → (before rest : List Entry) (lane : Lane) (answer : Reply) → IsInEither xs ys before (entry_of by (Start lane) answer) rest → ready_lane (state n0 (h ++ before)) ≡ Some lane
ready-either n0 by h xs ys a b before rest lane answer (inl (more, here)) = a before more lane answer here
ready-either n0 by h xs ys a b before rest lane answer (inr (more, (ahead, later))) =
    let same : h ++ before ≡ (h ++ xs) ++ more = ap (λ k. h ++ k) ahead ∙ sym (append_assoc h xs more) in
    ap (λ k. ready_lane (state n0 k)) same ∙ b more rest lane answer later

pub ready-append : (n0 : Parts) (by : ℕ) (h xs ys : List Entry) → TakeReadyLanes n0 by h xs → TakeReadyLanes n0 by (h ++ xs) ys → TakeReadyLanes n0 by h (xs ++ ys)
ready-append n0 by h xs ys a b = λ before rest lane answer e. ready-either n0 by h xs ys a b before rest lane answer (either xs ys before (entry_of by (Start lane) answer) rest e)

-- a history with a client's call more
pub ready-called : (n0 : Parts) (by : ℕ) (h : List Entry) (own n : ℕ) (op : Op) (reply : Reply) → TakeReadyLanes n0 by [] h → TakeReadyLanes n0 by [] (h ++ entry_of own (ByClient n op) reply ∷ [])
ready-called n0 by h own n op reply a = ready-append n0 by [] h (entry_of own (ByClient n op) reply ∷ []) a (ready-call n0 by h own n op reply)

-- where nothing is queued, no cell has a mark that is
or_left : (a b : Bool) → (a || b) ≡ false → a ≡ false
or_left true b e = e
or_left false b e = refl

or_right : (a b : Bool) → (a || b) ≡ false → b ≡ false
or_right true b e = absurd (cc e)
or_right false b e = e

and_no : (a : Bool) → (a && false) ≡ false
and_no true = refl
and_no false = refl

none-queued : (ms : List Mark) (cell : ℕ) → list_any is_queued_mark ms ≡ false → queued_by (find (is_mark_of cell) ms) ≡ false
none-queued [] cell e = refl
none-queued (m ∷ ms) cell e =
    elim (is_mark_of cell m)
    as (λ b. queued_by (cond b (Some m) (find (is_mark_of cell) ms)) ≡ false)
    [ true ↦ or_left m.queued (list_any is_queued_mark ms) e | false ↦ none-queued ms cell (or_right m.queued (list_any is_queued_mark ms) e) ]

none-asked : (n : Parts) (ms : List Mark) (cell : ℕ) → list_any is_queued_mark ms ≡ false → list_any (is_asked_by n cell) ms ≡ false
none-asked n [] cell e = refl
none-asked n (m ∷ ms) cell e =
    ap (λ b. (b && stands_in n cell m.cell) || list_any (is_asked_by n cell) ms) (or_left m.queued (list_any is_queued_mark ms) e) ∙ none-asked n ms cell (or_right m.queued (list_any is_queued_mark ms) e)

-- so none is due
none-due : (n : Parts) (w : Work) (cell : ℕ) → list_any is_queued_mark w.marks ≡ false → is_due n w cell ≡ false
none-due n w cell e =
    ap (λ b. b || (not (is_evaluated n w cell) && list_any (is_asked_by n cell) w.marks)) (none-queued w.marks cell e)
    ∙ (ap (λ b. not (is_evaluated n w cell) && b) (none-asked n w.marks cell e) ∙ and_no (not (is_evaluated n w cell)))

none-passes : {X : Type 0} (p : X → Bool) (xs : List X) → ((x : X) → p x ≡ false) → find p xs ≡ None
none-passes p [] f = refl
none-passes p (x ∷ xs) f = ap (λ b. cond b (Some x) (find p xs)) (f x) ∙ none-passes p xs f

-- and no lane may start
none-starts : (n : Parts) (w : Work) (lane : Lane) → list_any is_queued_mark w.marks ≡ false → may_start n w lane ≡ None
none-starts n w lane e =
    let due : find (is_due n w) (map cell_number (own_cells n lane)) ≡ None = none-passes (is_due n w) (map cell_number (own_cells n lane)) (λ cell. none-due n w cell e) in
    elim (list_any (runs_in lane) w.running)
    as (λ b. cond b None (option_and_then (settled_before n w) (find (is_due n w) (map cell_number (own_cells n lane)))) ≡ None)
    [ true ↦ refl | false ↦ ap (option_and_then (settled_before n w)) due ]

unqueued : (a b : Bool) → (not a && b) ≡ true → a ≡ false
unqueued true b e = absurd (cc e)
unqueued false b e = refl

pub idle-none : (n : Parts) (w : Work) → is_idle w ≡ true → ready_lane_of n w ≡ None
idle-none n w e =
    none-passes (may_start_in n w) (lanes_of n) (λ lane. ap (λ (o : Option ℕ). is_some o) (none-starts n w lane (unqueued (list_any is_queued_mark w.marks) _ e)))
