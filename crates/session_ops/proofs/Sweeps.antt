-- What a sweep leaves, and that a second one changes nothing.
use Rattle.std.proofs.Common.{◌≡◌, ℕ, ◌==◌, Bool, true, false, if◌then◌else◌, List, [], ◌∷◌, map, Option, Some, None, refl, ap, subst, ◌∙◌}
use Rattle.std.specs.Prelude.{◌&&◌, find}
use Rattle.std.specs.Option.{option_map}
use Rattle.std.specs.List.{AllByRecursion}
use Rattle.std.proofs.lemmas.Bool.{and_parts, and_from}
use Rattle.notebook.specs.declared.parts.Parts.{Parts}
use Rattle.notebook.specs.declared.parts.Passed.{Passed}
use Rattle.notebook.specs.Flow.{path}
use Rattle.notebook.specs.Validity.{validity_by, is_evaluated_so}
use Rattle.lanes.specs.declared.work.Mark.{Mark}
use Rattle.lanes.specs.declared.work.Work.{Work}
use Rattle.lanes.specs.Work.{mark_of, is_mark_of, aborted_by, last_by, is_aborted, last_finished, path_read, has_path, is_evaluated, shows_fault, has_failed, earlier}
use Rattle.lanes.specs.Changes.{as_cancelled, is_hopeless, swept_mark, swept}
use Rattle.session_ops.proofs.Lists.{find-wider}

-- the mark's cell isn't queued on one that failed
abbrev pub HasHope : Parts → Work → Mark → Type 0
HasHope n w m = (m.queued && is_hopeless n w m.cell) ≡ false

abbrev pub AreHopeful : Parts → Work → Type 0
AreHopeful n w = AllByRecursion (HasHope n w) w.marks

-- the mark of a cell once some are cancelled
cancelled-cell : (b : Bool) (m : Mark) → (if b then as_cancelled m else m).cell ≡ m.cell
cancelled-cell true m = refl
cancelled-cell false m = refl

find-swept : (n : Parts) (w : Work) (cell : ℕ) (ms : List Mark) → find (is_mark_of cell) (map (swept_mark n w) ms) ≡ option_map (swept_mark n w) (find (is_mark_of cell) ms)
find-swept n w cell [] = refl
find-swept n w cell (m ∷ ms) =
    ap (λ c. if c == cell then Some (swept_mark n w m) else find (is_mark_of cell) (map (swept_mark n w) ms)) (cancelled-cell (m.queued && is_hopeless n w m.cell) m)
    ∙ elim (m.cell == cell)
    as (λ b. (if b then Some (swept_mark n w m) else find (is_mark_of cell) (map (swept_mark n w) ms)) ≡ option_map (swept_mark n w) (if b then Some m else find (is_mark_of cell) ms))
    [ true ↦ refl | false ↦ find-swept n w cell ms ]

more-aborted : (n : Parts) (w : Work) (o : Option Mark) → aborted_by o ≡ true → aborted_by (option_map (swept_mark n w) o) ≡ true
more-aborted n w None e = e
more-aborted n w (Some m) e = elim (m.queued && is_hopeless n w m.cell) as (λ b. (if b then as_cancelled m else m).aborted ≡ true) [ true ↦ refl | false ↦ e ]

same-last : (n : Parts) (w : Work) (o : Option Mark) → last_by (option_map (swept_mark n w) o) ≡ last_by o
same-last n w None = refl
same-last n w (Some m) = elim (m.queued && is_hopeless n w m.cell) as (λ b. (if b then as_cancelled m else m).last ≡ m.last) [ true ↦ refl | false ↦ refl ]

pub aborted-swept : (n : Parts) (w : Work) (cell : ℕ) → is_aborted w cell ≡ true → is_aborted (swept n w) cell ≡ true
aborted-swept n w cell e = ap aborted_by (find-swept n w cell w.marks) ∙ more-aborted n w (mark_of w cell) e

pub last-swept : (n : Parts) (w : Work) (cell : ℕ) → last_finished (swept n w) cell ≡ last_finished w cell
last-swept n w cell = ap last_by (find-swept n w cell w.marks) ∙ same-last n w (mark_of w cell)

unmarked : (before after : Bool) (read : Option (List Passed)) (present : List Passed) → (before ≡ true → after ≡ true) → is_evaluated_so (validity_by after read present) ≡ true → is_evaluated_so (validity_by before read present) ≡ true
unmarked before true read present more e = absurd (cc e)
unmarked true false read present more e = absurd (cc (more refl))
unmarked false false read present more e = e

evaluated-by : (n : Parts) (w : Work) (cell : ℕ) (present : Option (List Passed)) → has_path (swept n w) cell present ≡ true → has_path w cell present ≡ true
evaluated-by n w cell None e = e
evaluated-by n w cell (Some p) e =
    let same : is_evaluated_so (validity_by (is_aborted (swept n w) cell) (option_map path_read (last_finished w cell)) p) ≡ true =
    subst (λ o. is_evaluated_so (validity_by (is_aborted (swept n w) cell) (option_map path_read o) p) ≡ true) (last-swept n w cell) e in
    unmarked (is_aborted w cell) (is_aborted (swept n w) cell) (option_map path_read (last_finished w cell)) p (aborted-swept n w cell) same

failed-before : (n : Parts) (w : Work) (cell : ℕ) → has_failed n (swept n w) cell ≡ true → has_failed n w cell ≡ true
failed-before n w cell e =
    let parts : (is_evaluated n (swept n w) cell ≡ true) × (shows_fault (last_finished (swept n w) cell) ≡ true) = and_parts _ _ e in
    and_from _ _ (evaluated-by n w cell (path n cell) parts.0) (subst (λ o. shows_fault o ≡ true) (last-swept n w cell) parts.1)

-- a cell that has an ancestor that failed after a sweep had one before it
pub hopeless-before : (n : Parts) (w : Work) (cell : ℕ) → is_hopeless n (swept n w) cell ≡ true → is_hopeless n w cell ≡ true
hopeless-before n w cell e = find-wider (has_failed n (swept n w)) (has_failed n w) (failed-before n w) (earlier n cell) e

hope-by : (q hopeless hopeless' : Bool) → (q && hopeless) ≡ false → (hopeless' ≡ true → hopeless ≡ true) → (q && hopeless') ≡ false
hope-by false hopeless hopeless' e more = refl
hope-by true hopeless false e more = refl
hope-by true hopeless true e more = absurd (cc (e, more refl))

mark-hope : (n : Parts) (w : Work) (m : Mark) → HasHope n (swept n w) (swept_mark n w m)
mark-hope n w m =
    elim (m.queued && is_hopeless n w m.cell)
    as (λ b. (m.queued && is_hopeless n w m.cell) ≡ b → HasHope n (swept n w) (if b then as_cancelled m else m))
    [ true ↦ λ t. refl | false ↦ λ t. hope-by m.queued (is_hopeless n w m.cell) (is_hopeless n (swept n w) m.cell) t (hopeless-before n w m.cell) ]
    refl

all-hope : (n : Parts) (w : Work) (ms : List Mark) → AllByRecursion (HasHope n (swept n w)) (map (swept_mark n w) ms)
all-hope n w [] = tt
all-hope n w (m ∷ ms) = (mark-hope n w m, all-hope n w ms)

-- no queued cell has an ancestor that failed after a sweep
pub swept-hope : (n : Parts) (w : Work) → AreHopeful n (swept n w)
swept-hope n w = all-hope n w w.marks

same-marks : (n : Parts) (w : Work) (ms : List Mark) → AllByRecursion (HasHope n w) ms → map (swept_mark n w) ms ≡ ms
same-marks n w [] h = refl
same-marks n w (m ∷ ms) h = rw (h.0, same-marks n w ms h.1) refl

with-marks : (w : Work) (ms : List Mark) → ms ≡ w.marks → record w { marks = ms } ≡ w
with-marks w ms e = λ i. record w { marks = e i }

-- where none has one, a sweep changes nothing
pub swept-same : (n : Parts) (w : Work) → AreHopeful n w → swept n w ≡ w
swept-same n w h = with-marks w (map (swept_mark n w) w.marks) (same-marks n w w.marks h)
