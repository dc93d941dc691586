-- The mark of a cell, and the running evaluation of a number.
use Rattle.std.proofs.Common.{◌≡◌, ℕ, ◌==◌, not, true, false, List, [], ◌∷◌, ◌++◌, Some, None, filter, find, refl, sym, ap, ◌∙◌, eqb-true}
use Rattle.std.specs.Prelude.{slice_get, slice_set, if◌then◌else◌, is_some}
use Rattle.std.specs.List.{remove}
use Rattle.ex_model.specs.declared.ran.Shown.{Shown}
use Rattle.lanes.specs.declared.work.Mark.{Mark}
use Rattle.lanes.specs.declared.work.Running.{Running}
use Rattle.lanes.specs.declared.work.Work.{Work}
use Rattle.lanes.specs.Work.{is_mark_of}
use Rattle.lanes.specs.Changes.{new_mark, marked, remarked, as_stored, is_eval, is_other_eval, running_eval, stored}
use Rattle.lanes.specs.Places.{IsFirst}
use Rattle.lanes.proofs.Lists.{find-first, find-rest, first-item, first-found, first-set, first-removed}

marked-front : (cell : ℕ) (f : Mark → Mark) (front back : List Mark) (m : Mark) → find (is_mark_of cell) front ≡ None → (m.cell == cell) ≡ true → marked cell f (front ++ m ∷ back) ≡ front ++ f m ∷ back
marked-front cell f [] back m none here = ap (λ b. if b then f m ∷ back else m ∷ marked cell f back) here
marked-front cell f (x ∷ front) back m none here =
    ap (λ b. if b then f x ∷ (front ++ m ∷ back) else x ∷ marked cell f (front ++ m ∷ back)) (find-first (is_mark_of cell) x front none)
    ∙ ap (λ ms. x ∷ ms) (marked-front cell f front back m (find-rest (is_mark_of cell) x front none) here)

pub marked-at : (cell : ℕ) (f : Mark → Mark) (ms : List Mark) (at : ℕ) (m : Mark) → IsFirst (is_mark_of cell) ms at → slice_get ms at ≡ Some m → slice_set ms at (f m) ≡ marked cell f ms
marked-at cell f ms at m t e =
    first-set (is_mark_of cell) ms at (f m) t
    ∙ (ap (λ x. t.front ++ f x ∷ t.back) (first-item (is_mark_of cell) ms at m t e)
    ∙ sym (ap (marked cell f) t.parts ∙ marked-front cell f t.front t.back t.item t.none t.here))

pub marked-none : (cell : ℕ) (f : Mark → Mark) (ms : List Mark) → find (is_mark_of cell) ms ≡ None → marked cell f ms ≡ ms ++ f (new_mark cell) ∷ []
marked-none cell f [] none = refl
marked-none cell f (m ∷ ms) none =
    ap (λ b. if b then f m ∷ ms else m ∷ marked cell f ms) (find-first (is_mark_of cell) m ms none)
    ∙ ap (λ xs. m ∷ xs) (marked-none cell f ms (find-rest (is_mark_of cell) m ms none))

remarked-front : (cell : ℕ) (f : Mark → Mark) (front back : List Mark) (m : Mark) → find (is_mark_of cell) front ≡ None → (m.cell == cell) ≡ true → remarked cell f (front ++ m ∷ back) ≡ front ++ f m ∷ back
remarked-front cell f [] back m none here = ap (λ b. if b then f m ∷ back else m ∷ remarked cell f back) here
remarked-front cell f (x ∷ front) back m none here =
    ap (λ b. if b then f x ∷ (front ++ m ∷ back) else x ∷ remarked cell f (front ++ m ∷ back)) (find-first (is_mark_of cell) x front none)
    ∙ ap (λ ms. x ∷ ms) (remarked-front cell f front back m (find-rest (is_mark_of cell) x front none) here)

pub remarked-at : (cell : ℕ) (f : Mark → Mark) (ms : List Mark) (at : ℕ) (m : Mark) → IsFirst (is_mark_of cell) ms at → slice_get ms at ≡ Some m → slice_set ms at (f m) ≡ remarked cell f ms
remarked-at cell f ms at m t e =
    first-set (is_mark_of cell) ms at (f m) t
    ∙ (ap (λ x. t.front ++ f x ∷ t.back) (first-item (is_mark_of cell) ms at m t e)
    ∙ sym (ap (remarked cell f) t.parts ∙ remarked-front cell f t.front t.back t.item t.none t.here))

pub remarked-none : (cell : ℕ) (f : Mark → Mark) (ms : List Mark) → find (is_mark_of cell) ms ≡ None → ms ≡ remarked cell f ms
remarked-none cell f [] none = refl
remarked-none cell f (m ∷ ms) none =
    sym (ap (λ b. if b then f m ∷ ms else m ∷ remarked cell f ms) (find-first (is_mark_of cell) m ms none)
    ∙ ap (λ xs. m ∷ xs) (sym (remarked-none cell f ms (find-rest (is_mark_of cell) m ms none))))

-- an answer that is kept
pub eval-known : (w : Work) (eval at : ℕ) → IsFirst (is_eval eval) w.running at → true ≡ is_some (running_eval w eval)
eval-known w eval at t = ap is_some (sym (first-found (is_eval eval) w.running at t))

pub eval-stored : (w new : Work) (eval at : ℕ) (shown : Shown) (r : Running) → IsFirst (is_eval eval) w.running at → slice_get w.running at ≡ Some r → new.running ≡ filter (is_other_eval eval) (remove w.running at) → new.marks ≡ remarked r.cell (as_stored r.path shown) w.marks → new.started ≡ w.started → new ≡ stored shown w (running_eval w eval)
eval-stored w new eval at shown r t e running marks started =
    let same : r ≡ t.item = first-item (is_eval eval) w.running at r t e in
    let found : running_eval w eval ≡ Some r = first-found (is_eval eval) w.running at t ∙ ap (λ x. Some x) (sym same) in
    let number : t.item.eval ≡ eval = eqb-true t.item.eval eval t.here in
    let own : r.eval ≡ eval = ap (λ (x : Running). x.eval) same ∙ number in
    let other : is_other_eval eval t.item ≡ false = ap not t.here in
    let rest : new.running ≡ filter (is_other_eval r.eval) w.running = running ∙ (first-removed (is_eval eval) (is_other_eval eval) w.running at t other ∙ ap (λ k. filter (is_other_eval k) w.running) (sym own)) in
    ap (λ ms. record new { marks = ms }) marks
    ∙ (ap (λ rs. record { marks = remarked r.cell (as_stored r.path shown) w.marks; running = rs; started = new.started }) rest
    ∙ (ap (λ k. record { marks = remarked r.cell (as_stored r.path shown) w.marks; running = filter (is_other_eval r.eval) w.running; started = k }) started
    ∙ sym (ap (stored shown w) found)))

pub not-stored : (w : Work) (eval : ℕ) (shown : Shown) → find (is_eval eval) w.running ≡ None → w ≡ stored shown w (running_eval w eval)
not-stored w eval shown e = sym (ap (stored shown w) e)
