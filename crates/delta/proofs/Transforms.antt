-- A transform takes runs at a time.
use Rattle.std.proofs.Common.{◌≡◌, ℕ, zero, suc, ◌+◌, Bool, true, false, cond, List, [], ◌∷◌, ◌++◌, length, map, replicate, refl, ap, arith, zero-add, max}
use Rattle.delta.specs.Spread.{Small, Keep, Drop, Put, gap}
use Rattle.delta.specs.Compose.{mark}
use Rattle.delta.specs.Spread.{small_reach}
use Rattle.delta.specs.Transform.{moved_over, transformed_small}

suc-plus : (m n : ℕ) → suc m + n ≡ suc (m + n)
suc-plus m n = omega arith

-- two runs of one length
pub runs : (f x y : Bool) (m n : ℕ) (s t : List Small)
    → moved_over f (replicate m (mark x) ++ s) (replicate m (mark y) ++ t) (m + n) ≡ (cond x (replicate m (mark y)) []) ++ moved_over f s t n
runs f true true zero n s t = rw zero-add refl
runs f true false zero n s t = rw zero-add refl
runs f false y zero n s t = rw zero-add refl
runs true true true (suc m) n s t = rw suc-plus (ap (λ w. Keep ∷ w) (runs true true true m n s t))
runs false true true (suc m) n s t = rw suc-plus (ap (λ w. Keep ∷ w) (runs false true true m n s t))
runs true true false (suc m) n s t = rw suc-plus (ap (λ w. Drop ∷ w) (runs true true false m n s t))
runs false true false (suc m) n s t = rw suc-plus (ap (λ w. Drop ∷ w) (runs false true false m n s t))
runs true false true (suc m) n s t = rw suc-plus (runs true false true m n s t)
runs false false true (suc m) n s t = rw suc-plus (runs false false true m n s t)
runs true false false (suc m) n s t = rw suc-plus (runs true false false m n s t)
runs false false false (suc m) n s t = rw suc-plus (runs false false false m n s t)

-- a run of the right, where the left has ended
pub right_run : (f y : Bool) (m n : ℕ) (t : List Small) → moved_over f [] (replicate m (mark y) ++ t) (m + n) ≡ replicate m (mark y) ++ moved_over f [] t n
right_run f y zero n t = rw zero-add refl
right_run true true (suc m) n t = rw suc-plus (ap (λ w. Keep ∷ w) (right_run true true m n t))
right_run false true (suc m) n t = rw suc-plus (ap (λ w. Keep ∷ w) (right_run false true m n t))
right_run true false (suc m) n t = rw suc-plus (ap (λ w. Drop ∷ w) (right_run true false m n t))
right_run false false (suc m) n t = rw suc-plus (ap (λ w. Drop ∷ w) (right_run false false m n t))

-- a run of the left, where the right has ended
pub left_run : (f x : Bool) (m n : ℕ) (s : List Small) → moved_over f (replicate m (mark x) ++ s) [] (m + n) ≡ cond x (replicate m Keep) [] ++ moved_over f s [] n
left_run f true zero n s = rw zero-add refl
left_run f false zero n s = rw zero-add refl
left_run true true (suc m) n s = rw suc-plus (ap (λ w. Keep ∷ w) (left_run true true m n s))
left_run false true (suc m) n s = rw suc-plus (ap (λ w. Keep ∷ w) (left_run false true m n s))
left_run true false (suc m) n s = rw suc-plus (left_run true false m n s)
left_run false false (suc m) n s = rw suc-plus (left_run false false m n s)

-- an insert of the left, where it is the left's turn
pub left_put : (vs : List ℕ) (s t : List Small) (n : ℕ) → moved_over false (map Put vs ++ s) t n ≡ replicate (length vs) Keep ++ moved_over false s t n
left_put [] s t n = refl
left_put (v ∷ vs) s t zero = ap (λ w. Keep ∷ w) (left_put vs s t zero)
left_put (v ∷ vs) s t (suc n) = ap (λ w. Keep ∷ w) (left_put vs s t (suc n))

pub left_put_after : (vs : List ℕ) (s t : List Small) (n : ℕ) → gap t 0 ≡ [] → moved_over true (map Put vs ++ s) t n ≡ replicate (length vs) Keep ++ moved_over true s t n
left_put_after [] s t n e = refl
left_put_after (v ∷ vs) s t zero e = rw e (ap (λ w. Keep ∷ w) (rw e at (left_put_after vs s t zero e)))
left_put_after (v ∷ vs) s t (suc n) e = rw e (ap (λ w. Keep ∷ w) (rw e at (left_put_after vs s t (suc n) e)))

-- an insert of the right
pub right_put : (vs : List ℕ) (s t : List Small) (n : ℕ) → moved_over true s (map Put vs ++ t) n ≡ map Put vs ++ moved_over true s t n
right_put [] s t n = refl
right_put (v ∷ vs) s t zero = ap (λ w. Put v ∷ w) (right_put vs s t zero)
right_put (v ∷ vs) s t (suc n) = ap (λ w. Put v ∷ w) (right_put vs s t (suc n))

pub right_put_after : (vs : List ℕ) (s t : List Small) (n : ℕ) → gap s 0 ≡ [] → moved_over false s (map Put vs ++ t) n ≡ map Put vs ++ moved_over false s t n
right_put_after [] s t n e = refl
right_put_after (v ∷ vs) s t zero e = rw e (ap (λ w. Put v ∷ w) (rw e at (right_put_after vs s t zero e)))
right_put_after (v ∷ vs) s t (suc n) e = rw e (ap (λ w. Put v ∷ w) (rw e at (right_put_after vs s t (suc n) e)))

-- the same, over the least base
pub reach_run : (x : Bool) (m : ℕ) (s : List Small) → small_reach (replicate m (mark x) ++ s) ≡ m + small_reach s
reach_run x zero s = rw zero-add refl
reach_run true (suc m) s = rw suc-plus (ap suc (reach_run true m s))
reach_run false (suc m) s = rw suc-plus (ap suc (reach_run false m s))

base : (m a b : ℕ) → max (m + a) (m + b) ≡ m + max a b
base m a b = omega arith

pub turn_both : (f x y : Bool) (m : ℕ) (s t : List Small) → transformed_small f (replicate m (mark x) ++ s) (replicate m (mark y) ++ t) ≡ cond x (replicate m (mark y)) [] ++ transformed_small f s t
turn_both f x y m s t =
    rw (reach_run x m s, reach_run y m t, base m (small_reach s) (small_reach t)) (runs f x y m (max (small_reach s) (small_reach t)) s t)

pub turn_right : (f y : Bool) (m : ℕ) (t : List Small) → transformed_small f [] (replicate m (mark y) ++ t) ≡ replicate m (mark y) ++ transformed_small f [] t
turn_right f y m t =
    let e : max 0 (m + small_reach t) ≡ m + max 0 (small_reach t) = omega arith in
    rw (reach_run y m t, e) (right_run f y m (max 0 (small_reach t)) t)

pub turn_left : (f x : Bool) (m : ℕ) (s : List Small) → transformed_small f (replicate m (mark x) ++ s) [] ≡ cond x (replicate m Keep) [] ++ transformed_small f s []
turn_left f x m s =
    let e : max (m + small_reach s) 0 ≡ m + max (small_reach s) 0 = omega arith in
    rw (reach_run x m s, e) (left_run f x m (max (small_reach s) 0) s)

reach_put : (vs : List ℕ) (s : List Small) → small_reach (map Put vs ++ s) ≡ small_reach s
reach_put [] s = refl
reach_put (v ∷ vs) s = reach_put vs s

pub left_new : (vs : List ℕ) (s t : List Small) → transformed_small false (map Put vs ++ s) t ≡ replicate (length vs) Keep ++ transformed_small false s t
left_new vs s t = rw reach_put (left_put vs s t (max (small_reach s) (small_reach t)))

pub left_new_after : (vs : List ℕ) (s t : List Small) → gap t 0 ≡ [] → transformed_small true (map Put vs ++ s) t ≡ replicate (length vs) Keep ++ transformed_small true s t
left_new_after vs s t e = rw reach_put (left_put_after vs s t (max (small_reach s) (small_reach t)) e)

pub right_new : (vs : List ℕ) (s t : List Small) → transformed_small true s (map Put vs ++ t) ≡ map Put vs ++ transformed_small true s t
right_new vs s t = rw reach_put (right_put vs s t (max (small_reach s) (small_reach t)))

pub right_new_after : (vs : List ℕ) (s t : List Small) → gap s 0 ≡ [] → transformed_small false s (map Put vs ++ t) ≡ map Put vs ++ transformed_small false s t
right_new_after vs s t e = rw reach_put (right_put_after vs s t (max (small_reach s) (small_reach t)) e)
