-- What holds of each mark holds of them once some are changed.
use Rattle.std.proofs.Common.{ℕ, ◌==◌, true, false, if◌then◌else◌, List, [], ◌∷◌, map}
use Rattle.std.specs.List.{AllByRecursion}
use Rattle.lanes.specs.declared.work.Mark.{Mark}
use Rattle.lanes.specs.Changes.{new_mark, marked, remarked}

pub all-map : {X : Type 0} (P : X → Type 0) (f : X → X) → ((x : X) → P x → P (f x)) → (xs : List X) → AllByRecursion P xs → AllByRecursion P (map f xs)
all-map P f k [] h = tt
all-map P f k (x ∷ xs) h = (k x h.0, all-map P f k xs h.1)

pub all-marked : (P : Mark → Type 0) (cell : ℕ) (f : Mark → Mark) → ((m : Mark) → P m → P (f m)) → P (new_mark cell) → (ms : List Mark) → AllByRecursion P ms → AllByRecursion P (marked cell f ms)
all-marked P cell f k new [] h = (k (new_mark cell) new, tt)
all-marked P cell f k new (m ∷ ms) h =
    elim (m.cell == cell)
    as (λ b. AllByRecursion P (if b then f m ∷ ms else m ∷ marked cell f ms))
    [ true ↦ (k m h.0, h.1) | false ↦ (h.0, all-marked P cell f k new ms h.1) ]

pub all-remarked : (P : Mark → Type 0) (cell : ℕ) (f : Mark → Mark) → ((m : Mark) → P m → P (f m)) → (ms : List Mark) → AllByRecursion P ms → AllByRecursion P (remarked cell f ms)
all-remarked P cell f k [] h = tt
all-remarked P cell f k (m ∷ ms) h =
    elim (m.cell == cell)
    as (λ b. AllByRecursion P (if b then f m ∷ ms else m ∷ remarked cell f ms))
    [ true ↦ (k m h.0, h.1) | false ↦ (h.0, all-remarked P cell f k ms h.1) ]
