-- Items in order, one after the other.
use Rattle.std.proofs.Common.{◌≡◌, ◌⊎◌, inl, inr, ℕ, zero, suc, ◌+◌, ◌<◌, ◌≤◌, List, [], ◌∷◌, length, drop, get_or, min, refl, sym, ap, ◌∙◌, arith}
use Rattle.std.proofs.lemmas.List.{drop_more}
use Rattle.std.specs.declared.cmp.Ordering.{Ordering}
use Rattle.std.specs.declared.cmp.Ordering.TheVariants.{Less, Equal, Greater}
use Rattle.std.specs.Ordering.{nat_cmp, ordering_then}
use Rattle.std.specs.Cmp.{nat_cmp_is}
use Rattle.std.specs.Ordering.{MatchOrdering}
use Rattle.ex_terms.specs.declared.values.Value.{Value}
use Rattle.ex_terms.specs.Terms.{count, counts}
use Rattle.ex_terms.specs.Seen.{term_of, terms_of}
use Rattle.ex_terms.specs.Order.{order_of, order_all, order_tuples, number}

-- the items at a place, and what follows them
pub order-next : (xs ys : List Value) (i : ℕ) (x y : Value) → i < length xs → i < length ys → x ≡ get_or xs i x → y ≡ get_or ys i y
    → order_all (terms_of (drop i xs)) (terms_of (drop i ys)) ≡ ordering_then (order_of (term_of x) (term_of y)) (order_all (terms_of (drop (i + 1) xs)) (terms_of (drop (i + 1) ys)))
order-next xs ys i x y lx ly ex ey =
    ap (λ zs. order_all (terms_of zs) (terms_of (drop i ys))) (drop_more xs i x lx ∙ ap (λ z. z ∷ drop (i + 1) xs) (sym ex))
    ∙ ap (λ zs. order_all (terms_of (x ∷ drop (i + 1) xs)) (terms_of zs)) (drop_more ys i y ly ∙ ap (λ z. z ∷ drop (i + 1) ys) (sym ey))

-- where one side is at its end, the longer one is greater
abbrev Tells : Ordering → ℕ → ℕ → Type 0
Tells r a b = MatchOrdering r (a < b) (a ≡ b) (b < a)

tells-more : (r : Ordering) (a b : ℕ) → Tells r a b → Tells r (suc a) (suc b)
tells-more Less a b h = omega (arith, h)
tells-more Equal a b h = ap suc h
tells-more Greater a b h = omega (arith, h)

ends : (xs ys : List Value) → (length xs ≤ 0) ⊎ (length ys ≤ 0) → Tells (order_all (terms_of xs) (terms_of ys)) (length xs) (length ys)
ends [] [] h = refl
ends [] (y ∷ ys) h = omega arith
ends (x ∷ xs) [] h = omega arith
ends (x ∷ xs) (y ∷ ys) (inl h) = absurd (omega (arith, h))
ends (x ∷ xs) (y ∷ ys) (inr h) = absurd (omega (arith, h))

ends-at : (i : ℕ) (xs ys : List Value) → i ≤ length xs → i ≤ length ys → (length xs ≤ i) ⊎ (length ys ≤ i) → Tells (order_all (terms_of (drop i xs)) (terms_of (drop i ys))) (length xs) (length ys)
ends-at zero xs ys lx ly h = ends xs ys h
ends-at (suc i) [] ys lx ly h = absurd (omega (arith, lx))
ends-at (suc i) (x ∷ xs) [] lx ly h = absurd (omega (arith, ly))
ends-at (suc i) (x ∷ xs) (y ∷ ys) lx ly (inl h) = tells-more _ (length xs) (length ys) (ends-at i xs ys (omega (arith, lx)) (omega (arith, ly)) (inl (omega (arith, h))))
ends-at (suc i) (x ∷ xs) (y ∷ ys) lx ly (inr h) = tells-more _ (length xs) (length ys) (ends-at i xs ys (omega (arith, lx)) (omega (arith, ly)) (inr (omega (arith, h))))

pub order-end : (i : ℕ) (xs ys : List Value) → i ≤ length xs → i ≤ length ys → (length xs ≤ i) ⊎ (length ys ≤ i) → order_all (terms_of (drop i xs)) (terms_of (drop i ys)) ≡ nat_cmp (length xs) (length ys)
order-end i xs ys lx ly h = nat_cmp_is (length xs) (length ys) _ (ends-at i xs ys lx ly h)

-- a place that isn't below the least of two lengths is at one side's end
pub at-end : (a b i : ℕ) → min a b ≤ i → (a ≤ i) ⊎ (b ≤ i)
at-end a b i h = grind (arith, h)

-- as many items as values
pub number-of : (xs : List Value) → number (terms_of xs) ≡ length xs
number-of [] = refl
number-of (x ∷ xs) = ap suc (number-of xs)

pub tuples-by : (xs ys : List Value) (o : Ordering) → o ≡ nat_cmp (length xs) (length ys) → ordering_then o (order_all (terms_of xs) (terms_of ys)) ≡ order_tuples (terms_of xs) (terms_of ys)
tuples-by xs ys o e =
    let rest : Ordering = order_all (terms_of xs) (terms_of ys) in
    ap (λ k. ordering_then k rest) (e ∙ (ap (λ n. nat_cmp n (length ys)) (sym (number-of xs)) ∙ ap (λ n. nat_cmp (number (terms_of xs)) n) (sym (number-of ys))))

-- an item has no more values in it than all of them
pub count-at : (xs : List Value) (i : ℕ) (x : Value) → i < length xs → x ≡ get_or xs i x → count (term_of x) ≤ counts (terms_of xs)
count-at [] i x lt e = absurd (omega (arith, lt))
count-at (y ∷ xs) zero x lt e = let h : count (term_of x) ≡ count (term_of y) = ap (λ v. count (term_of v)) e in omega (arith, h)
count-at (y ∷ xs) (suc i) x lt e = let h : count (term_of x) ≤ counts (terms_of xs) = count-at xs i x (omega (arith, lt)) e in omega (arith, h)
