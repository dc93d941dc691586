-- Lists in which nothing stands twice stay so.
use Rattle.std.proofs.Common.{◌≡◌, ◌||◌, Bool, true, false, cond, List, [], ◌∷◌, ◌++◌, filter, refl}
use Rattle.std.specs.List.{list_any}
use Rattle.section_queues.specs.declared.wants.LaneRun.{LaneRun}
use Rattle.section_queues.specs.Apart.{AreApart}
use Rattle.section_queues.specs.Wanted.{clashes, is_eval, runs_cell, runs_in}

or_first : (a b : Bool) → (a || b) ≡ false → a ≡ false
or_first true b e = e
or_first false b e = refl

or_second : (a b : Bool) → (a || b) ≡ false → b ≡ false
or_second true b e = absurd (cc e)
or_second false b e = e

or_none : (a b : Bool) → a ≡ false → b ≡ false → (a || b) ≡ false
or_none true b e f = e
or_none false b e f = f

-- none of some elements that are kept passes, where none of all passes
none-kept : {X : Type 0} (p q : X → Bool) (xs : List X) → list_any p xs ≡ false → list_any p (filter q xs) ≡ false
none-kept p q [] e = refl
none-kept p q (x ∷ xs) e =
    let rest : list_any p (filter q xs) ≡ false = none-kept p q xs (or_second (p x) (list_any p xs) e) in
    elim (q x)
    as (λ b. list_any p (cond b (x ∷ filter q xs) (filter q xs)) ≡ false) [
      | true ↦ or_none (p x) (list_any p (filter q xs)) (or_first (p x) (list_any p xs) e) rest
      | false ↦ rest
    ]

pub kept-apart : {X : Type 0} (clash : X → X → Bool) (q : X → Bool) (xs : List X) → AreApart clash xs → AreApart clash (filter q xs)
kept-apart clash q [] h = tt
kept-apart clash q (x ∷ xs) h =
    let rest : AreApart clash (filter q xs) = kept-apart clash q xs h.1 in
    elim (q x)
    as (λ b. AreApart clash (cond b (x ∷ filter q xs) (filter q xs))) [
      | true ↦ (none-kept (clash x) q xs h.0, rest)
      | false ↦ rest
    ]

none-more : {X : Type 0} (p : X → Bool) (xs : List X) (y : X) → list_any p xs ≡ false → p y ≡ false → list_any p (xs ++ y ∷ []) ≡ false
none-more p [] y e f = or_none (p y) false f refl
none-more p (x ∷ xs) y e f =
    or_none (p x) (list_any p (xs ++ y ∷ [])) (or_first (p x) (list_any p xs) e) (none-more p xs y (or_second (p x) (list_any p xs) e) f)

-- one more at the end, with which none clashes
pub more-apart : {X : Type 0} (clash : X → X → Bool) (xs : List X) (y : X) → list_any (λ x. clash x y) xs ≡ false → AreApart clash xs → AreApart clash (xs ++ y ∷ [])
more-apart clash [] y e h = (refl, tt)
more-apart clash (x ∷ xs) y e h = (
  none-more (clash x) xs y h.0 (or_first (clash x y) (list_any (λ z. clash z y) xs) e),
  more-apart clash xs y (or_second (clash x y) (list_any (λ z. clash z y) xs) e) h.1,
)

-- a run clashes with none that has another lane, another evaluation and another cell
pub none-clashes : (rs : List LaneRun) (s : LaneRun) → list_any (runs_in s.lane) rs ≡ false → list_any (is_eval s.run.eval) rs ≡ false → list_any (runs_cell s.run.cell) rs ≡ false → list_any (λ r. clashes r s) rs ≡ false
none-clashes [] s l e c = refl
none-clashes (r ∷ rs) s l e c =
    or_none (clashes r s) (list_any (λ x. clashes x s) rs)
    (or_none (runs_in s.lane r) (is_eval s.run.eval r || runs_cell s.run.cell r)
    (or_first (runs_in s.lane r) (list_any (runs_in s.lane) rs) l)
    (or_none (is_eval s.run.eval r) (runs_cell s.run.cell r)
    (or_first (is_eval s.run.eval r) (list_any (is_eval s.run.eval) rs) e)
    (or_first (runs_cell s.run.cell r) (list_any (runs_cell s.run.cell) rs) c)))
    (none-clashes rs s
    (or_second (runs_in s.lane r) (list_any (runs_in s.lane) rs) l)
    (or_second (is_eval s.run.eval r) (list_any (is_eval s.run.eval) rs) e)
    (or_second (runs_cell s.run.cell r) (list_any (runs_cell s.run.cell) rs) c))
