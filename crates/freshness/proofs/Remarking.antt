-- What a change of one mark makes of all marks.
use Rattle.std.proofs.Common.{◌≡◌, ℕ, ◌==◌, true, false, cond, List, ◌∷◌, ◌++◌, Option, Some, None, find, refl, sym, ap, subst, ◌∙◌, eqb-true}
use Rattle.std.specs.Prelude.{slice_get, slice_set, is_some, if◌then◌else◌}
use Rattle.std.specs.Option.{option_map}
use Rattle.ex_model.specs.declared.ran.Shown.{Shown}
use Rattle.freshness.specs.declared.mark.Mark.{Mark}
use Rattle.freshness.specs.declared.mark.Started.{Started}
use Rattle.freshness.specs.Marked.{Marked, IsMarked, finish_by, is_live, is_mark_of, mark_of}
use Rattle.freshness.specs.Calls.{AreRemarked, IsRemarked, remarked}
use Rattle.freshness.specs.Places.{IsFirst}
use Rattle.freshness.proofs.Lists.{find-past, find-over, first-item, first-set}

-- the number of a mark tells whose it is
other-mark : (m : Mark) (cell k : ℕ) → (m.cell == cell) ≡ true → (cell == k) ≡ false → is_mark_of k m ≡ false
other-mark m cell k own other = ap (λ j. j == k) (eqb-true m.cell cell own) ∙ other

parts-at : (cell : ℕ) (f : Mark → Mark) (front back : List Mark) (m : Mark) (k : ℕ) → find (is_mark_of cell) front ≡ None → (m.cell == cell) ≡ true → ((f m).cell == cell) ≡ true → find (is_mark_of k) (front ++ f m ∷ back) ≡ remarked cell f k (find (is_mark_of k) (front ++ m ∷ back))
parts-at cell f front back m k none own kept =
    elim (cell == k)
    as (λ b. (cell == k) ≡ b → find (is_mark_of k) (front ++ f m ∷ back) ≡ (if b then option_map f (find (is_mark_of k) (front ++ m ∷ back)) else find (is_mark_of k) (front ++ m ∷ back))) [
      | true ↦ λ t.
          subst (λ j. find (is_mark_of j) (front ++ f m ∷ back) ≡ option_map f (find (is_mark_of j) (front ++ m ∷ back))) (eqb-true cell k t)
          (find-past (is_mark_of cell) front (f m ∷ back) none
          ∙ (ap (λ b. cond b (Some (f m)) (find (is_mark_of cell) back)) kept
          ∙ sym (ap (option_map f) (find-past (is_mark_of cell) front (m ∷ back) none ∙ ap (λ b. cond b (Some m) (find (is_mark_of cell) back)) own))))
      | false ↦ λ t.
          find-over (is_mark_of k) front back (f m) (other-mark (f m) cell k kept t)
          ∙ sym (find-over (is_mark_of k) front back m (other-mark m cell k own t))
    ]
    refl

-- the mark at the cell's place was changed
pub remarked-at : (cell : ℕ) (f : Mark → Mark) (ms : List Mark) (at : ℕ) (m : Mark) → IsFirst (is_mark_of cell) ms at → slice_get ms at ≡ Some m → (f m).cell ≡ m.cell → AreRemarked cell f ms (slice_set ms at (f m))
remarked-at cell f ms at m t e same k =
    let one : m ≡ t.item = first-item (is_mark_of cell) ms at m t e in
    let whole : ms ≡ t.front ++ m ∷ t.back = t.parts ∙ ap (λ x. t.front ++ x ∷ t.back) (sym one) in
    let own : (m.cell == cell) ≡ true = ap (is_mark_of cell) one ∙ t.here in
    ap (find (is_mark_of k)) (first-set (is_mark_of cell) ms at (f m) t)
    ∙ (parts-at cell f t.front t.back m k t.none own (ap (λ j. j == cell) same ∙ own)
    ∙ ap (λ xs. remarked cell f k (find (is_mark_of k) xs)) (sym whole))

-- no mark of the cell
pub remarked-none : (cell : ℕ) (f : Mark → Mark) (ms : List Mark) → find (is_mark_of cell) ms ≡ None → AreRemarked cell f ms ms
remarked-none cell f ms none k =
    elim (cell == k)
    as (λ b. (cell == k) ≡ b → find (is_mark_of k) ms ≡ (if b then option_map f (find (is_mark_of k) ms) else find (is_mark_of k) ms)) [
      | true ↦ λ t.
          let gone : find (is_mark_of k) ms ≡ None = subst (λ j. find (is_mark_of j) ms ≡ None) (eqb-true cell k t) none in
          gone ∙ sym (ap (option_map f) gone)
      | false ↦ λ t. refl
    ]
    refl

-- the same cells have marks
remarked-some : (cell : ℕ) (f : Mark → Mark) (k : ℕ) (o : Option Mark) → is_some (remarked cell f k o) ≡ is_some o
remarked-some cell f k None = elim (cell == k) as (λ b. is_some (if b then option_map f None else None) ≡ false) [ true ↦ refl | false ↦ refl ]
remarked-some cell f k (Some m) = elim (cell == k) as (λ b. is_some (if b then Some (f m) else Some m) ≡ true) [ true ↦ refl | false ↦ refl ]

pub remarked-marked : (cell : ℕ) (f : Mark → Mark) (old new : Marked) → IsRemarked cell f old new → IsMarked old → IsMarked new
remarked-marked cell f old new t h =
    record { each = λ k. ap is_some (t.marks k) ∙ (remarked-some cell f k (mark_of old k) ∙ (h.each k ∙ ap (λ n. is_live n k) (sym t.book))) }

-- finishing leaves a mark's number
pub finished-number : (eval : ℕ) (shown : Shown) (m : Mark) (o : Option Started) → (finish_by eval shown m o).cell ≡ m.cell
finished-number eval shown m None = refl
finished-number eval shown m (Some s) = refl
