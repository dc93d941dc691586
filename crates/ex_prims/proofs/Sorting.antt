-- Values in ascending order: a list that has them in order is the sorted list.
use Rattle.std.proofs.Common.{◌≡◌, ℕ, ◌+◌, ◌≤◌, Bool, true, false, cond, List, [], ◌∷◌, refl, sym, ap, ◌∙◌, arith}
use Rattle.std.proofs.lemmas.List.Sums.{sum_by-cons}
use Rattle.std.proofs.lemmas.List.Sorted.{sum_by-IsPermutation}
use native.Mathlib.Numerals.{unary_clauses}
use Rattle.std.specs.List.{sum_by}
use Rattle.std.specs.List.Sorted.{IsPermutation, IsSorted}
use Rattle.ex_terms.specs.declared.values.Value.{Value}
use Rattle.ex_terms.specs.Keys.{value_cmp}
use Rattle.ex_prims.specs.Lists.{is_equal, is_less, put_in, sorted}
use Rattle.ex_prims.proofs.Orders.{equal-one, equal-itself, neither-less, less-order, before-before}

-- two values are put in either one first
put-by : (a b z : Value) (zs : List Value) (p q : Bool) → is_less a b ≡ true → is_less b a ≡ false → is_less z a ≡ p → is_less z b ≡ q → put_in a (put_in b zs) ≡ put_in b (put_in a zs) → put_in a (put_in b (z ∷ zs)) ≡ put_in b (put_in a (z ∷ zs))
put-by a b z zs true true up down e f h = simp (e, f) (ap (λ ws. z ∷ ws) h)
put-by a b z zs true false up down e f h = absurd (before-before is_less less-order z a b e up f)
put-by a b z zs false true up down e f h = simp (up, e, f)
put-by a b z zs false false up down e f h = simp (up, down, e, f)

put-below : (a b : Value) (zs : List Value) → is_less a b ≡ true → is_less b a ≡ false → put_in a (put_in b zs) ≡ put_in b (put_in a zs)
put-below a b [] up down = simp (up, down)
put-below a b (z ∷ zs) up down = put-by a b z zs (is_less z a) (is_less z b) up down refl refl (put-below a b zs up down)

put-cases : (a b : Value) (zs : List Value) (p q : Bool) → is_less a b ≡ p → is_less b a ≡ q → put_in a (put_in b zs) ≡ put_in b (put_in a zs)
put-cases a b zs true q e f = put-below a b zs e (less-order.one_way a b e)
put-cases a b zs false true e f = sym (put-below b a zs f e)
put-cases a b zs false false e f = let one : a ≡ b = neither-less a b e f in ap (λ x. put_in x (put_in b zs)) one ∙ ap (λ x. put_in b (put_in x zs)) (sym one)

put-either : (a b : Value) (zs : List Value) → put_in a (put_in b zs) ≡ put_in b (put_in a zs)
put-either a b zs = put-cases a b zs (is_less a b) (is_less b a) refl refl

-- how often a value stands in a list
abbrev here : Value → Value → ℕ
here v w = cond (is_equal w v) 1 0

abbrev times : Value → List Value → ℕ
times v ws = sum_by (here v) ws

-- a list without the first of a value
abbrev without : Value → List Value → List Value
without v [] = []
without v (w ∷ ws) = cond (is_equal w v) ws (w ∷ without v ws)

times-without-by : (v x y : Value) (ys : List Value) (p : Bool) → is_equal y x ≡ p → times v (cond p ys (y ∷ without x ys)) ≡ times v (without x (y ∷ ys))
times-without-by v x y ys p e = ap (λ b. times v (cond b ys (y ∷ without x ys))) (sym e)

times-next : (v x y : Value) (ys : List Value) (p : Bool) → is_equal y x ≡ p → (1 ≤ times x ys → times v (without x ys) + here v x ≡ times v ys) → 1 ≤ times x (y ∷ ys) → times v (without x (y ∷ ys)) + here v x ≡ times v (y ∷ ys)
times-next v x y ys true e more h =
    let one : here v y ≡ here v x = ap (here v) (equal-one y x e) in
    omega (arith, one, sum_by-cons (here v) y ys, times-without-by v x y ys true e)
times-next v x y ys false e more h =
    let none : here x y ≡ 0 = ap (λ b. cond b 1 0) e in
    let there : 1 ≤ times x ys = omega (arith, none, h, sum_by-cons (here x) y ys) in
    omega (arith, more there, sum_by-cons (here v) y ys, sum_by-cons (here v) y (without x ys), times-without-by v x y ys false e)

times-without : (v x : Value) (ys : List Value) → 1 ≤ times x ys → times v (without x ys) + here v x ≡ times v ys
times-without v x [] h = absurd (omega (arith, h))
times-without v x (y ∷ ys) h = times-next v x y ys (is_equal y x) refl (times-without v x ys) h

sorted-next : (x y : Value) (ys : List Value) (p : Bool) → is_equal y x ≡ p → (1 ≤ times x ys → put_in x (sorted (without x ys)) ≡ sorted ys) → 1 ≤ times x (y ∷ ys) → put_in x (sorted (without x (y ∷ ys))) ≡ sorted (y ∷ ys)
sorted-next x y ys true e more h = ap (λ b. put_in x (sorted (cond b ys (y ∷ without x ys)))) e ∙ ap (λ w. put_in w (sorted ys)) (sym (equal-one y x e))
sorted-next x y ys false e more h =
    let none : here x y ≡ 0 = ap (λ b. cond b 1 0) e in
    let there : 1 ≤ times x ys = omega (arith, none, h, sum_by-cons (here x) y ys) in
    ap (λ b. put_in x (sorted (cond b ys (y ∷ without x ys)))) e ∙ (put-either x y (sorted (without x ys)) ∙ ap (put_in y) (more there))

sorted-without : (x : Value) (ys : List Value) → 1 ≤ times x ys → put_in x (sorted (without x ys)) ≡ sorted ys
sorted-without x [] h = absurd (omega (arith, h))
sorted-without x (y ∷ ys) h = sorted-next x y ys (is_equal y x) refl (sorted-without x ys) h

-- lists that have each value as often are sorted alike
sorted-alike : (xs ys : List Value) → ((v : Value) → times v xs ≡ times v ys) → sorted xs ≡ sorted ys
sorted-alike [] [] h = refl
sorted-alike [] (y ∷ ys) h =
    let one : here y y ≡ 1 = ap (λ b. cond b 1 0) (equal-itself y) in
    absurd (omega (arith, one, h y, sum_by-cons (here y) y ys))
sorted-alike (x ∷ xs) ys h =
    let one : here x x ≡ 1 = ap (λ b. cond b 1 0) (equal-itself x) in
    let there : 1 ≤ times x ys = omega (arith, one, h x, sum_by-cons (here x) x xs) in
    let rest : sorted xs ≡ sorted (without x ys) = sorted-alike xs (without x ys) (λ v. omega (arith, h v, sum_by-cons (here v) x xs, times-without v x ys there)) in
    ap (put_in x) rest ∙ sorted-without x ys there

-- a list in order is sorted already
sorted-already : (ys : List Value) → IsSorted value_cmp ys → sorted ys ≡ ys
sorted-already [] up = refl
sorted-already (y ∷ []) up = refl
sorted-already (y ∷ z ∷ ys) up =
    let first : is_less z y ≡ false = up 0 y (omega arith) (omega arith) in
    let rest : sorted (z ∷ ys) ≡ z ∷ ys = sorted-already (z ∷ ys) (λ k d low l. simp unary_clauses (simp unary_clauses at (up (k + 1) d (omega arith) (omega (arith, l))))) in
    ap (put_in y) rest ∙ simp first

-- the same values in order
pub sorted-is : (xs ys : List Value) → IsPermutation xs ys → IsSorted value_cmp ys → ys ≡ sorted xs
sorted-is xs ys same up = sym (sorted-alike xs ys (λ v. sym (sum_by-IsPermutation (here v) xs ys same)) ∙ sorted-already ys up)
