-- Taking hopeless cells out of the queued ones, one after the other or in one step.
use Rattle.std.proofs.Common.{◌≡◌, ℕ, ◌+◌, ◌<◌, ◌≤◌, ◌==◌, ◌&&◌, ◌⊎◌, Bool, true, false, cond, List, [], ◌∷◌, ◌++◌, Option, Some, None, length, map, find, get_or, refl, sym, ap, subst, ◌∙◌, zero, suc, eqb-true, inl, inr, append_assoc}
use Rattle.std.specs.Prelude.{slice_get, slice_set, if◌then◌else◌, is_some, option_map}
use Rattle.notebook.specs.declared.parts.Parts.{Parts}
use Rattle.notebook.specs.declared.parts.Passed.{Passed}
use Rattle.notebook.specs.Flow.{path}
use Rattle.notebook.specs.Rules.{IsNotebook}
use Rattle.notebook.specs.Validity.{validity_by, is_evaluated_so}
use Rattle.lanes.specs.declared.work.Mark.{Mark}
use Rattle.lanes.specs.declared.work.Work.{Work}
use Rattle.lanes.specs.Work.{is_mark_of, mark_of, aborted_by, last_by, path_read, has_path, shows_fault, last_finished, has_failed, earlier}
use Rattle.lanes.specs.Changes.{as_cancelled, is_hopeless, swept_mark, swept}
use Rattle.lanes.proofs.Lists.{half, half-more, half-here, half-all, find-past, got, set-own}
use Rattle.lanes.proofs.Earlier.{Ahead, ahead-of, ahead-earlier}

and_second : (a b : Bool) → (a && b) ≡ true → b ≡ true
and_second true b e = e
and_second false b e = absurd (cc e)

-- what is told of a cell is told by its mark
abbrev pub evaluated_by : Option Mark → Option (List Passed) → Bool
evaluated_by o None = false
evaluated_by o (Some present) = is_evaluated_so (validity_by (aborted_by o) (option_map path_read (last_by o)) present)

pub evaluated-is : (w : Work) (k : ℕ) (p : Option (List Passed)) → has_path w k p ≡ evaluated_by (mark_of w k) p
evaluated-is w k None = refl
evaluated-is w k (Some present) = refl

abbrev failed_by : Option Mark → Option (List Passed) → Bool
failed_by o p = evaluated_by o p && shows_fault (last_by o)

failed-is : (n : Parts) (w : Work) (k : ℕ) → has_failed n w k ≡ failed_by (mark_of w k) (path n k)
failed-is n w k = ap (λ b. b && shows_fault (last_finished w k)) (evaluated-is w k (path n k))

cancelled-unfailed : (m : Mark) (p : Option (List Passed)) → failed_by (Some (as_cancelled m)) p ≡ false
cancelled-unfailed m None = refl
cancelled-unfailed m (Some present) = refl

-- some hopeless cells were taken out of the queued ones
abbrev IsLeft : Parts → Work → Mark → Mark → Type 0
IsLeft n w m x = (x ≡ m) ⊎ ((x ≡ as_cancelled m) × (is_hopeless n w m.cell ≡ true))

abbrev AreLeft : Parts → Work → List Mark → List Mark → Type 0
AreLeft n w [] [] = Unit {0}
AreLeft n w [] (x ∷ xs) = ⊥
AreLeft n w (m ∷ ms) [] = ⊥
AreLeft n w (m ∷ ms) (x ∷ xs) = IsLeft n w m x × AreLeft n w ms xs

swept-left : (n : Parts) (w : Work) (m : Mark) → IsLeft n w m (swept_mark n w m)
swept-left n w m =
    elim (m.queued && is_hopeless n w m.cell)
    as (λ b. (m.queued && is_hopeless n w m.cell) ≡ b → IsLeft n w m (if b then as_cancelled m else m)) [
      | true ↦ λ t. inr (refl, and_second m.queued (is_hopeless n w m.cell) t)
      | false ↦ λ t. inl refl
    ]
    refl

same-left : (n : Parts) (w : Work) (ms : List Mark) → AreLeft n w ms ms
same-left n w [] = tt
same-left n w (m ∷ ms) = (inl refl, same-left n w ms)

half-left : (n : Parts) (w : Work) (i : ℕ) (ms : List Mark) → AreLeft n w ms (half (swept_mark n w) i ms)
unfolding half
half-left n w zero ms = same-left n w ms
half-left n w (suc i) [] = tt
half-left n w (suc i) (m ∷ ms) = (swept-left n w m, half-left n w i ms)

all-left : (n : Parts) (w : Work) (ms : List Mark) → AreLeft n w ms (map (swept_mark n w) ms)
all-left n w [] = tt
all-left n w (m ∷ ms) = (swept-left n w m, all-left n w ms)

-- a cell's mark then
abbrev IsLeftAt : Parts → Work → List Mark → List Mark → ℕ → Type 0
IsLeftAt n w ms xs k = (find (is_mark_of k) xs ≡ find (is_mark_of k) ms) ⊎ ((m : Mark) × ((find (is_mark_of k) xs ≡ Some (as_cancelled m)) × (is_hopeless n w k ≡ true)))

left-past : (n : Parts) (w : Work) (ms xs : List Mark) (m x : Mark) (k : ℕ) → (m.cell == k) ≡ false → (x.cell == k) ≡ false → IsLeftAt n w ms xs k → IsLeftAt n w (m ∷ ms) (x ∷ xs) k
left-past n w ms xs m x k a b (inl e) =
    inl (ap (λ t. cond t (Some x) (find (is_mark_of k) xs)) b ∙ (e ∙ sym (ap (λ t. cond t (Some m) (find (is_mark_of k) ms)) a)))
left-past n w ms xs m x k a b (inr (y, (e, h))) = inr (y, (ap (λ t. cond t (Some x) (find (is_mark_of k) xs)) b ∙ e, h))

left-here : (n : Parts) (w : Work) (ms xs : List Mark) (m x : Mark) (k : ℕ) → (m.cell == k) ≡ true → IsLeft n w m x → IsLeftAt n w (m ∷ ms) (x ∷ xs) k
left-here n w ms xs m x k a (inl e) =
    let b : (x.cell == k) ≡ true = ap (λ (y : Mark). y.cell == k) e ∙ a in
    inl (ap (λ t. cond t (Some x) (find (is_mark_of k) xs)) b ∙ (ap (λ y. Some y) e ∙ sym (ap (λ t. cond t (Some m) (find (is_mark_of k) ms)) a)))
left-here n w ms xs m x k a (inr (e, h)) =
    let b : (x.cell == k) ≡ true = ap (λ (y : Mark). y.cell == k) e ∙ a in
    inr (m, (ap (λ t. cond t (Some x) (find (is_mark_of k) xs)) b ∙ ap (λ y. Some y) e, subst (λ j. is_hopeless n w j ≡ true) (eqb-true m.cell k a) h))

left-number : (n : Parts) (w : Work) (m x : Mark) → IsLeft n w m x → x.cell ≡ m.cell
left-number n w m x (inl e) = ap (λ (y : Mark). y.cell) e
left-number n w m x (inr (e, h)) = ap (λ (y : Mark). y.cell) e

left-at : (n : Parts) (w : Work) (ms xs : List Mark) (k : ℕ) → AreLeft n w ms xs → IsLeftAt n w ms xs k
left-at n w [] [] k h = inl refl
left-at n w [] (x ∷ xs) k h = absurd h
left-at n w (m ∷ ms) [] k h = absurd h
left-at n w (m ∷ ms) (x ∷ xs) k h =
    elim (m.cell == k)
    as (λ b. (m.cell == k) ≡ b → IsLeftAt n w (m ∷ ms) (x ∷ xs) k) [
      | true ↦ λ t. left-here n w ms xs m x k t h.0
      | false ↦ λ t. left-past n w ms xs m x k t (ap (λ j. j == k) (left-number n w m x h.0) ∙ t) (left-at n w ms xs k h.1)
    ]
    refl

-- whether a cell failed is as it was, or the cell was hopeless
abbrev IsAsBefore : (ℕ → Bool) → (ℕ → Bool) → ℕ → Bool → Type 0
IsAsBefore p q k hopeless = (q k ≡ p k) ⊎ ((q k ≡ false) × (hopeless ≡ true))

failed-case : (n : Parts) (w v : Work) (k : ℕ) → IsLeftAt n w w.marks v.marks k → IsAsBefore (has_failed n w) (has_failed n v) k (is_hopeless n w k)
failed-case n w v k (inl e) = inl (failed-is n v k ∙ (ap (λ o. failed_by o (path n k)) e ∙ sym (failed-is n w k)))
failed-case n w v k (inr (m, (e, h))) = inr (failed-is n v k ∙ (ap (λ o. failed_by o (path n k)) e ∙ cancelled-unfailed m (path n k)), h)

-- the first that failed stays
walk-one : (p q : ℕ → Bool) (done rest : List ℕ) (k : ℕ) → find p done ≡ None → IsAsBefore p q k (is_some (find p done)) → (find p (done ++ k ∷ []) ≡ None → is_some (find q rest) ≡ is_some (find p rest)) → is_some (find q (k ∷ rest)) ≡ is_some (find p (k ∷ rest))
walk-one p q done rest k none (inl e) further =
    elim (p k)
    as (λ b. p k ≡ b → is_some (cond (q k) (Some k) (find q rest)) ≡ is_some (cond b (Some k) (find p rest))) [
      | true ↦ λ t. ap (λ b. is_some (cond b (Some k) (find q rest))) (e ∙ t)
      | false ↦ λ t. ap (λ b. is_some (cond b (Some k) (find q rest))) (e ∙ t) ∙ further (find-past p done (k ∷ []) none ∙ ap (λ b. cond b (Some k) None) t)
    ]
    refl
walk-one p q done rest k none (inr (f, h)) further = absurd (cc (sym (ap is_some none) ∙ h))

walk-all : (p q : ℕ → Bool) (done rest : List ℕ) → find p done ≡ None → ((ks js : List ℕ) (k : ℕ) → done ++ rest ≡ ks ++ k ∷ js → IsAsBefore p q k (is_some (find p ks))) → is_some (find q rest) ≡ is_some (find p rest)
walk-all p q done [] none h = refl
walk-all p q done (k ∷ rest) none h =
    walk-one p q done rest k none (h done rest k refl) (λ more. walk-all p q (done ++ k ∷ []) rest more (λ ks js j e. h ks js j (sym (append_assoc done (k ∷ []) rest) ∙ e)))

-- a cell is as hopeless as before
hopeless-left : (n : Parts) (w v : Work) (c : ℕ) → IsNotebook n → AreLeft n w w.marks v.marks → is_hopeless n v c ≡ is_hopeless n w c
hopeless-left n w v c book left =
    walk-all (has_failed n w) (has_failed n v) [] (earlier n c) refl
    (λ ks js k e.
    let t : Ahead n ks k = ahead-of n c ks js k book e in
    let case : IsAsBefore (has_failed n w) (has_failed n v) k (is_hopeless n w k) = failed-case n w v k (left-at n w w.marks v.marks k left) in
    subst (λ is. IsAsBefore (has_failed n w) (has_failed n v) k (is_some (find (has_failed n w) is))) (ahead-earlier n ks k t) case)

swept-same : (n : Parts) (w v : Work) (m : Mark) → is_hopeless n v m.cell ≡ is_hopeless n w m.cell → swept_mark n v m ≡ swept_mark n w m
swept-same n w v m e = ap (λ b. if m.queued && b then as_cancelled m else m) e

-- one mark more
pub sweep-more : (n : Parts) (w v : Work) (i : ℕ) (m : Mark) → IsNotebook n → v.marks ≡ half (swept_mark n w) i w.marks → slice_get v.marks i ≡ Some m → slice_set v.marks i (swept_mark n v m) ≡ half (swept_mark n w) (i + 1) w.marks
sweep-more n w v i m book e at =
    let left : AreLeft n w w.marks v.marks = subst (λ ms. AreLeft n w w.marks ms) (sym e) (half-left n w i w.marks) in
    let same : swept_mark n v m ≡ swept_mark n w m = swept-same n w v m (hopeless-left n w v m.cell book left) in
    ap (λ x. slice_set v.marks i x) same ∙ half-more (swept_mark n w) i w.marks v.marks m e at

-- one turn of the loop, and its end
pub swept-turn : (n : Parts) (w v new : Work) (i : ℕ) → IsNotebook n → v ≡ record w { marks = half (swept_mark n w) i w.marks } → i < length w.marks → new.running ≡ v.running → new.started ≡ v.started → ((m : Mark) → slice_get v.marks i ≡ Some m → new.marks ≡ slice_set v.marks i (swept_mark n v m)) → new ≡ record w { marks = half (swept_mark n w) (i + 1) w.marks }
swept-turn n w v new i book e within runs started marks =
    let own : v.marks ≡ half (swept_mark n w) i w.marks = ap (λ (x : Work). x.marks) e in
    let there : (m : Mark) × (slice_get (half (swept_mark n w) i w.marks) i ≡ Some m) = half-here (swept_mark n w) i w.marks within in
    let at : slice_get v.marks i ≡ Some there.0 = ap (λ ms. slice_get ms i) own ∙ there.1 in
    let more : new.marks ≡ half (swept_mark n w) (i + 1) w.marks = marks there.0 at ∙ sweep-more n w v i there.0 book own at in
    let rest : new.running ≡ w.running = runs ∙ ap (λ (x : Work). x.running) e in
    let count : new.started ≡ w.started = started ∙ ap (λ (x : Work). x.started) e in
    ap (λ ms. record new { marks = ms }) more
    ∙ (ap (λ rs. record { marks = half (swept_mark n w) (i + 1) w.marks; running = rs; started = new.started }) rest
    ∙ ap (λ k. record w { marks = half (swept_mark n w) (i + 1) w.marks; started = k }) count)

pub swept-done : (n : Parts) (w v : Work) (i : ℕ) → v ≡ record w { marks = half (swept_mark n w) i w.marks } → length w.marks ≤ i → v ≡ swept n w
swept-done n w v i e past = e ∙ ap (λ ms. record w { marks = ms }) (half-all (swept_mark n w) i w.marks past)

-- a mark that isn't swept
pub unswept : (n : Parts) (w : Work) (i : ℕ) (m x : Mark) (ms : List Mark) → ms ≡ w.marks → slice_get w.marks i ≡ Some m → x ≡ get_or ms i x → (x.queued && is_hopeless n w x.cell) ≡ false → w.marks ≡ slice_set w.marks i (swept_mark n w m)
unswept n w i m x ms same at is e =
    let one : x ≡ m = got w.marks i m x at (is ∙ ap (λ ys. get_or ys i x) same) in
    let stays : swept_mark n w m ≡ m = ap (λ b. if b then as_cancelled m else m) (ap (λ (y : Mark). y.queued && is_hopeless n w y.cell) (sym one) ∙ e) in
    set-own w.marks i m at ∙ ap (λ y. slice_set w.marks i y) (sym stays)

-- swept twice is swept once
again-mark : (n : Parts) (w v : Work) (m : Mark) → is_hopeless n v m.cell ≡ is_hopeless n w m.cell → swept_mark n v (swept_mark n w m) ≡ swept_mark n w m
again-mark n w v m e =
    elim (m.queued && is_hopeless n w m.cell)
    as (λ b. (m.queued && is_hopeless n w m.cell) ≡ b → swept_mark n v (if b then as_cancelled m else m) ≡ (if b then as_cancelled m else m)) [
      | true ↦ λ t. refl
      | false ↦ λ t. swept-same n w v m e ∙ ap (λ b. if b then as_cancelled m else m) t
    ]
    refl

again-marks : (n : Parts) (w v : Work) (ms : List Mark) → ((c : ℕ) → is_hopeless n v c ≡ is_hopeless n w c) → map (swept_mark n v) (map (swept_mark n w) ms) ≡ map (swept_mark n w) ms
again-marks n w v [] h = refl
again-marks n w v (m ∷ ms) h =
    ap (λ x. x ∷ map (swept_mark n v) (map (swept_mark n w) ms)) (again-mark n w v m (h m.cell)) ∙ ap (λ xs. swept_mark n w m ∷ xs) (again-marks n w v ms h)

pub swept-again : (n : Parts) (w : Work) → IsNotebook n → swept n (swept n w) ≡ swept n w
swept-again n w book =
    let left : AreLeft n w w.marks (swept n w).marks = all-left n w w.marks in
    ap (λ ms. record w { marks = ms }) (again-marks n w (swept n w) w.marks (λ c. hopeless-left n w (swept n w) c book left))

-- after a sweep no queued cell is hopeless
pub swept-hopeful : (n : Parts) (w : Work) (c : ℕ) → IsNotebook n → is_hopeless n (swept n w) c ≡ is_hopeless n w c
swept-hopeful n w c book = hopeless-left n w (swept n w) c book (all-left n w w.marks)
