-- Without what isn't there a list is as it was.
use Rattle.std.proofs.Common.{◌≡◌, ℕ, ◌||◌, not, Bool, true, false, cond, List, [], ◌∷◌, Option, Some, None, filter, find, refl, sym, ap, ◌∙◌}
use Rattle.std.specs.Prelude.{IfNone, option_map}
use Rattle.std.specs.Bool.{OnFalse}
use Rattle.section_queues.specs.Facts.{is_in, is_number}
use Rattle.section_queues.specs.Wanted.{Wanted, cell_of_run, eval_of_run, is_eval, is_queued, runs_cell}
use Rattle.section_queues.specs.Calls.{cell_of, ended, eval_of, taken_away, unasked}
use Rattle.section_queues.proofs.Lists.{find-first, find-rest}

none-found : {X : Type 0} (p : X → Bool) (xs : List X) → find p xs ≡ None → filter (λ x. not (p x)) xs ≡ xs
none-found p [] e = refl
none-found p (x ∷ xs) e =
    ap (λ b. cond (not b) (x ∷ filter (λ y. not (p y)) xs) (filter (λ y. not (p y)) xs)) (find-first p x xs e)
    ∙ ap (λ ys. x ∷ ys) (none-found p xs (find-rest p x xs e))

none-in : (cell : ℕ) (ks : List ℕ) → is_in cell ks ≡ false → find (is_number cell) ks ≡ None
none-in cell [] e = refl
none-in cell (k ∷ ks) e =
    elim (is_number cell k)
    as (λ b. (b || is_in cell ks) ≡ false → cond b (Some k) (find (is_number cell) ks) ≡ None) [
      | true ↦ λ h. absurd (cc h)
      | false ↦ λ h. none-in cell ks h
    ]
    e

-- a call that answers so has changed nothing
pub not-queued : (w new : Wanted) (cell : ℕ) (b : Bool) → b ≡ is_queued w cell → new ≡ unasked cell w → OnFalse b (new ≡ w)
not-queued w new cell true e made = tt
not-queued w new cell false e made = made ∙ ap (λ ks. record w { queued = ks }) (none-found (is_number cell) w.queued (none-in cell w.queued (sym e)))

none-mapped : {X Y : Type 0} (f : X → Y) (o : Option X) → None ≡ option_map f o → o ≡ None
none-mapped f None e = refl
none-mapped f (Some x) e = absurd (cc e)

pub not-running : (w new : Wanted) (cell : ℕ) (o : Option ℕ) → o ≡ eval_of w cell → new ≡ taken_away cell w → IfNone o (new ≡ w)
not-running w new cell (Some eval) e made = tt
not-running w new cell None e made =
    made ∙ ap (λ rs. record w { running = rs }) (none-found (runs_cell cell) w.running (none-mapped eval_of_run (find (runs_cell cell) w.running) e))

pub not-run : (w new : Wanted) (eval : ℕ) (o : Option ℕ) → o ≡ cell_of w eval → new ≡ ended eval w → IfNone o (new ≡ w)
not-run w new eval (Some cell) e made = tt
not-run w new eval None e made =
    made ∙ ap (λ rs. record w { running = rs }) (none-found (is_eval eval) w.running (none-mapped cell_of_run (find (is_eval eval) w.running) e))
