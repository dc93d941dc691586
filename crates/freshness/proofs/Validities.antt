-- What a cell that is evaluated has read.
use Rattle.std.proofs.Common.{◌≡◌, ℕ, ◌==◌, ◌&&◌, Bool, true, false, List, [], ◌∷◌, Option, Some, None, refl, sym, ap, ◌∙◌, eqb-true, eq-eqb}
use Rattle.std.specs.Prelude.{if◌then◌else◌, nat_eq}
use Rattle.std.specs.Option.{option_map}
use Rattle.std.specs.Cmp.Lexicographic.{pointwise, same_text}
use Rattle.ex_model.specs.declared.ran.Shown.{Shown}
use Rattle.notebook.specs.declared.parts.Passed.{Passed}
use Rattle.notebook.specs.declared.states.Validity.TheVariants.{Evaluated, Stale}
use Rattle.notebook.specs.Flow.{path}
use Rattle.notebook.specs.Validity.{same_passed, same_path, validity_by}
use Rattle.freshness.specs.declared.mark.Finished.{Finished}
use Rattle.freshness.specs.declared.mark.Mark.{Mark}
use Rattle.freshness.specs.declared.mark.Started.{Started}
use Rattle.freshness.specs.Marked.{Marked, aborted_by, as_finished, finish_by, finished_by, finished_of, is_aborted, mark_of, path_read}
use Rattle.freshness.specs.Calls.{IsRemarked}
use Rattle.freshness.specs.Validity.{validity_of, validity_on}
use Rattle.freshness.specs.Laws.{HasReadPath}

and_first : (a b : Bool) → (a && b) ≡ true → a ≡ true
and_first true b e = refl
and_first false b e = e

and_second : (a b : Bool) → (a && b) ≡ true → b ≡ true
and_second true b e = e
and_second false b e = absurd (cc e)

-- equal paths, by the test
paths-equal : (p q : List Passed) → same_path p q ≡ true → p ≡ q
paths-equal [] [] e = refl
paths-equal [] (y ∷ q) e = absurd (cc e)
paths-equal (x ∷ p) [] e = absurd (cc e)
paths-equal (x ∷ p) (y ∷ q) e =
    let here : same_passed x y ≡ true = and_first (same_passed x y) (same_path p q) e in
    let number : x.cell ≡ y.cell = eqb-true x.cell y.cell (and_first (x.cell == y.cell) (pointwise nat_eq x.source y.source) here) in
    let source : x.source ≡ y.source = same_text x.source y.source (sym (and_second (x.cell == y.cell) (pointwise nat_eq x.source y.source) here)) in
    let first : x ≡ y = ap (λ k. record x { cell = k }) number ∙ ap (λ s. record y { source = s }) source in
    ap (λ z. z ∷ p) first ∙ ap (λ zs. y ∷ zs) (paths-equal p q (and_second (same_passed x y) (same_path p q) e))

-- and the test on a path itself
same-source : (s : List ℕ) → pointwise nat_eq s s ≡ true
same-source [] = refl
same-source (c ∷ s) = ap (λ b. b && pointwise nat_eq s s) (eq-eqb c c refl) ∙ same-source s

path-itself : (p : List Passed) → same_path p p ≡ true
path-itself [] = refl
path-itself (x ∷ p) =
    ap (λ b. (b && pointwise nat_eq x.source x.source) && same_path p p) (eq-eqb x.cell x.cell refl)
    ∙ (ap (λ b. b && same_path p p) (same-source x.source) ∙ path-itself p)

evaluated-path : (p q : List Passed) → (if same_path p q then Evaluated else Stale) ≡ Evaluated → same_path p q ≡ true
evaluated-path p q e =
    elim (same_path p q)
    as (λ b. (if b then Evaluated else Stale) ≡ Evaluated → b ≡ true) [ true ↦ λ h. refl | false ↦ λ h. absurd (cc h) ]
    e

read-by : (m : Marked) (cell : ℕ) (present : List Passed) (marked : Bool) (o : Option Finished) → path m.book cell ≡ Some present → finished_of m cell ≡ o → validity_by marked (option_map path_read o) present ≡ Evaluated → HasReadPath m cell
read-by m cell present true o live l e = absurd (cc e)
read-by m cell present false None live l e = absurd (cc e)
read-by m cell present false (Some x) live l e =
    let same : x.path ≡ present = paths-equal x.path present (evaluated-path x.path present e) in
    record { last = x; finished = l; present = live ∙ ap (λ p. Some p) (sym same) }

read-on : (m : Marked) (cell : ℕ) (o : Option (List Passed)) → path m.book cell ≡ o → option_map (validity_on m cell) o ≡ Some Evaluated → HasReadPath m cell
read-on m cell None live e = absurd (cc e)
read-on m cell (Some present) live e =
    let here : validity_on m cell present ≡ Evaluated = cc e in
    read-by m cell present (is_aborted m cell) (finished_of m cell) live refl here

pub has-read : (m : Marked) (cell : ℕ) → validity_of m cell ≡ Some Evaluated → HasReadPath m cell
has-read m cell e = read-on m cell (path m.book cell) refl e

-- a cell's own mark once it was changed
own-mark : (cell : ℕ) (f : Mark → Mark) (old new : Marked) (m : Mark) → IsRemarked cell f old new → mark_of old cell ≡ Some m → mark_of new cell ≡ Some (f m)
own-mark cell f old new m t there =
    t.marks cell ∙ (ap (λ b. if b then option_map f (mark_of old cell) else mark_of old cell) (eq-eqb cell cell refl) ∙ ap (option_map f) there)

-- an evaluation that has finished counts at once, where the path that was read at its start is still the cell's
pub counts-at-once : (old new : Marked) (cell eval : ℕ) (shown : Shown) (m : Mark) (s : Started) → IsRemarked cell (as_finished eval shown) old new → mark_of old cell ≡ Some m → m.started ≡ Some s → path old.book cell ≡ Some s.path → validity_of new cell ≡ Some Evaluated
counts-at-once old new cell eval shown m s t there started live =
    let mark : mark_of new cell ≡ Some (finish_by eval shown m (Some s)) = own-mark cell (as_finished eval shown) old new m t there ∙ ap (λ o. Some (finish_by eval shown m o)) started in
    let present : path new.book cell ≡ Some s.path = ap (λ n. path n cell) t.book ∙ live in
    ap (option_map (validity_on new cell)) present
    ∙ ap (λ v. Some v)
    (ap (λ o. validity_by (aborted_by o) (option_map path_read (finished_by o)) s.path) mark ∙ ap (λ b. if b then Evaluated else Stale) (path-itself s.path))
