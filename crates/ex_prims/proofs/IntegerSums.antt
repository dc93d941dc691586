-- Integers that are summed up one after the other, whatever their sums on the way are.
use Rattle.std.proofs.Common.{◌≡◌, ℕ, zero, suc, ◌+◌, ◌<◌, ◌≤◌, ◌^◌, ℤ, pos, negsuc, ◌+ℤ◌, ◌*ℤ◌, List, ◌∷◌, length, get_or, drop, Option, Some, None, Err, FitsSigned, refl, sym, ap, ◌∙◌, arith}
use Rattle.std.specs.Int.{w128}
use Rattle.std.proofs.lemmas.Int.{ints}
use Rattle.std.proofs.lemmas.List.{drop_more, drop_all}
use Rattle.ex_terms.specs.declared.values.Value.{Value}
use Rattle.ex_terms.specs.declared.values.Value.TheVariants.{Int, Atom, Str, Tuple, List as Listed}
use Rattle.ex_faults.specs.declared.fault.Fault.TheVariants.{IntegerTooWide}
use Rattle.ex_prims.specs.Answers.{Answer, Gives, Wrong, Refuses, of_integer, nil}
use Rattle.ex_prims.specs.declared.refused.Refused.{Refused}
use Rattle.ex_prims.specs.declared.refused.Refused.TheVariants as R
use Rattle.ex_prims.specs.Bodies.{IsAnswer, IsArgument}
use Rattle.ex_prims.specs.Integers.{in_range, put_first, all_integers, sum_of}
use Rattle.ex_prims.proofs.IntegerTexts.{is-given, is-too-wide}

-- what a sum is that was cut to 128 bits
abbrev pub whole : ℤ → ℤ → ℤ
whole s w = s +ℤ w *ℤ pos (2 ^ 128)

pub whole-more : (s t w d z : ℤ) → s +ℤ z ≡ whole t d → whole s w +ℤ z ≡ whole t (w +ℤ d)
whole-more s t w d z e = omega (arith, ints, e)

pub whole-given : (s : ℤ) → FitsSigned w128 s → in_range (whole s (pos 0)) ≡ Gives (Int s)
whole-given s f = let e : whole s (pos 0) ≡ s = omega (arith, ints) in ap in_range e ∙ is-given s f

whole-wide-above : (s : ℤ) (k : ℕ) → FitsSigned w128 s → ¬ (FitsSigned w128 (whole s (pos (suc k))))
whole-wide-above s k f g = omega (arith, ints, f, g)

whole-wide-below : (s : ℤ) (k : ℕ) → FitsSigned w128 s → ¬ (FitsSigned w128 (whole s (negsuc k)))
whole-wide-below s k f g = omega (arith, ints, f, g)

pub whole-wide : (s w : ℤ) → FitsSigned w128 s → ¬ (w ≡ pos 0) → in_range (whole s w) ≡ Refuses IntegerTooWide
whole-wide s (pos zero) f h = absurd (h refl)
whole-wide s (pos (suc k)) f h = is-too-wide (whole s (pos (suc k))) (whole-wide-above s k f)
whole-wide s (negsuc k) f h = is-too-wide (whole s (negsuc k)) (whole-wide-below s k f)

-- a sum so far, and integers that are left
abbrev pub summed_after : ℤ → Option (List ℤ) → Answer
summed_after z None = Wrong
summed_after z (Some zs) = in_range (z +ℤ sum_of zs)

after-first : (t z : ℤ) (o : Option (List ℤ)) → summed_after t (put_first z o) ≡ summed_after (t +ℤ z) o
after-first t z None = refl
after-first t z (Some zs) = let e : t +ℤ (z +ℤ sum_of zs) ≡ (t +ℤ z) +ℤ sum_of zs = omega (arith, ints) in ap in_range e

is-first : (v : Value) (z : ℤ) → ((go : ℤ → Answer) → of_integer v go ≡ go z) → (vs : List Value) → all_integers (v ∷ vs) ≡ put_first z (all_integers vs)
is-first (Int y) z h vs = let e : Gives (Int y) ≡ Gives (Int z) = h (λ x. Gives (Int x)) in let same : y ≡ z = cc in ap (λ x. put_first x (all_integers vs)) same
is-first (Atom t) z h vs = let e : Wrong ≡ Gives nil = h (λ x. Gives nil) in absurd (cc)
is-first (Str t) z h vs = let e : Wrong ≡ Gives nil = h (λ x. Gives nil) in absurd (cc)
is-first (Tuple ts) z h vs = let e : Wrong ≡ Gives nil = h (λ x. Gives nil) in absurd (cc)
is-first (Listed ts) z h vs = let e : Wrong ≡ Gives nil = h (λ x. Gives nil) in absurd (cc)

is-none : (v : Value) → ((go : ℤ → Answer) → of_integer v go ≡ Wrong) → (vs : List Value) → all_integers (v ∷ vs) ≡ None
is-none (Int y) h vs = let e : Gives nil ≡ Wrong = h (λ x. Gives nil) in absurd (cc)
is-none (Atom t) h vs = refl
is-none (Str t) h vs = refl
is-none (Tuple ts) h vs = refl
is-none (Listed ts) h vs = refl

at-place : (xs : List Value) (i : ℕ) (v : Value) → i < length xs → v ≡ get_or xs i v → drop i xs ≡ v ∷ drop (i + 1) xs
at-place xs i v lt e = drop_more xs i v lt ∙ ap (λ x. x ∷ drop (i + 1) xs) (sym e)

-- with one more, with a value that is none, and at last
pub sum-next : (xs : List Value) (i : ℕ) (v : Value) (s t w d z s1 w1 : ℤ) (a : Answer) → i < length xs → v ≡ get_or xs i v → ((go : ℤ → Answer) → of_integer v go ≡ go z) → s +ℤ z ≡ whole t d → s1 ≡ t → w1 ≡ w +ℤ d
    → summed_after (whole s w) (all_integers (drop i xs)) ≡ a → summed_after (whole s1 w1) (all_integers (drop (i + 1) xs)) ≡ a
sum-next xs i v s t w d z s1 w1 a lt e is f es ew so_far =
    ap (λ y. summed_after (whole y w1) (all_integers (drop (i + 1) xs))) es ∙ ap (λ y. summed_after (whole t y) (all_integers (drop (i + 1) xs))) ew
    ∙ ap (λ y. summed_after y (all_integers (drop (i + 1) xs))) (sym (whole-more s t w d z f)) ∙ sym (after-first (whole s w) z (all_integers (drop (i + 1) xs)))
    ∙ ap (summed_after (whole s w)) (sym (is-first v z is (drop (i + 1) xs))) ∙ ap (λ vs. summed_after (whole s w) (all_integers vs)) (sym (at-place xs i v lt e)) ∙ so_far

none-is-wrong : (xs : List Value) (i : ℕ) (v : Value) (y : ℤ) (a : Answer) → i < length xs → v ≡ get_or xs i v → summed_after y (all_integers (drop i xs)) ≡ a → ((go : ℤ → Answer) → of_integer v go ≡ Wrong) → a ≡ Wrong
none-is-wrong xs i v y a lt e so_far is = sym so_far ∙ ap (λ vs. summed_after y (all_integers vs)) (at-place xs i v lt e) ∙ ap (summed_after y) (is-none v is (drop (i + 1) xs))

pub sum-stops : (xs : List Value) (i : ℕ) (v : Value) (y : ℤ) (a : Answer) → i < length xs → v ≡ get_or xs i v → summed_after y (all_integers (drop i xs)) ≡ a → (e : Refused) → IsArgument {X = ℤ} (Err e) (of_integer v) → IsAnswer (Err e) a
sum-stops xs i v y a lt e so_far R.Wrong h = none-is-wrong xs i v y a lt e so_far h
sum-stops xs i v y a lt e so_far (R.Faulted f) h = absurd h
sum-stops xs i v y a lt e so_far R.TooManySteps h = absurd h
sum-stops xs i v y a lt e so_far R.TooMuchOutput h = absurd h
sum-stops xs i v y a lt e so_far R.OutOfMemory h = absurd h

pub sum-last : (xs : List Value) (i : ℕ) (y : ℤ) (a : Answer) → length xs ≤ i → summed_after y (all_integers (drop i xs)) ≡ a → a ≡ in_range y
sum-last xs i y a le so_far = let e : y +ℤ pos 0 ≡ y = omega (arith, ints) in sym so_far ∙ ap (λ vs. summed_after y (all_integers vs)) (drop_all i xs le) ∙ ap in_range e
