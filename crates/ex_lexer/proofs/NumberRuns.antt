-- The digits at the front of a source.
use Rattle.std.proofs.Common.{◌≡◌, ℕ, zero, suc, ◌+◌, ◌-◌, ◌*◌, ◌^◌, ◌<◌, ◌≤◌, ◌==◌, ◌&&◌, ◌||◌, Bool, true, false, cond, List, [], ◌∷◌, ◌++◌, length, drop, get_or, Option, Some, None, refl, sym, ap, ◌∙◌, arith, append_assoc}
use Rattle.std.proofs.lemmas.List.{append-nil}
use Rattle.std.proofs.lemmas.Bool.Decides.{nat_tests}
use Rattle.std.proofs.Math.Seq.{drop-cons}
use Rattle.std.specs.Char.{digit_value}
use Rattle.std.specs.Option.{MatchOption}
use Rattle.std.specs.Str.Parse.{digits_value, digits_value_after}
use Rattle.ex_grammar.specs.Texts.{first_is}
use Rattle.ex_grammar.specs.Names.{is_digit}
use Rattle.ex_lexer.specs.Runs.{digits_at, another, digit_in, Counts}
use Rattle.ex_lexer.proofs.Bools.{if_true, if_false}

value_push : (n : ℕ) (ds : List ℕ) (d : ℕ) → digits_value_after 10 n (ds ++ d ∷ []) ≡ digits_value_after 10 n ds * 10 + digit_value d
value_push n [] d = refl
value_push n (c ∷ ds) d = value_push (n * 10 + digit_value c) ds d

digit_is : (b : ℕ) → is_digit b ≡ true → digit_value b ≡ b - 48
digit_is b h = grind (arith, nat_tests)

-- a digit more, or none
pub counts_none : (ds : List ℕ) (b : ℕ) → is_digit b ≡ true → Counts None ds → Counts None (ds ++ digit_in b)
counts_none ds b h k =
    let e : digits_value 10 (ds ++ digit_in b) ≡ digits_value 10 ds * 10 + digit_value b = rw h (value_push 0 ds b) in
    omega arith

pub counts_some : (ds : List ℕ) (b n : ℕ) (r : Option ℕ) → is_digit b ≡ true → Counts (Some n) ds → MatchOption r (2 ^ 128 ≤ n * 10 + (b - 48)) (λ m. m ≡ n * 10 + (b - 48)) → Counts r (ds ++ digit_in b)
counts_some ds b n r h k = of r
  where
    e : digits_value 10 (ds ++ digit_in b) ≡ n * 10 + (b - 48)
    e =
        let f : digits_value 10 (ds ++ digit_in b) ≡ digits_value 10 ds * 10 + digit_value b = rw h (value_push 0 ds b) in
        f ∙ ap (λ m. m * 10 + digit_value b) (sym k) ∙ ap (λ m. n * 10 + m) (digit_is b h)

    of : (r : Option ℕ) → MatchOption r (2 ^ 128 ≤ n * 10 + (b - 48)) (λ m. m ≡ n * 10 + (b - 48)) → Counts r (ds ++ digit_in b)
    of None m = rw e m
    of (Some x) m = m ∙ sym e

pub counts_same : (ds : List ℕ) (b : ℕ) (r : Option ℕ) → is_digit b ≡ false → Counts r ds → Counts r (ds ++ digit_in b)
counts_same ds b r h k = rw (h, append-nil ds) k

another_twice : (m n : ℕ) (s t : List ℕ) (r : ℕ × List ℕ) → another m s (another n t r) ≡ another (m + n) (s ++ t) r
another_twice m n s t r = let e : m + (n + r.0) ≡ (m + n) + r.0 = omega arith in ap (λ k. (k, s ++ (t ++ r.1))) e ∙ ap (λ w. ((m + n) + r.0, w)) (sym (append_assoc s t r.1))

another_none : (r : ℕ × List ℕ) → another 0 [] r ≡ r
another_none r = let e : 0 + r.0 ≡ r.0 = omega arith in ap (λ k. (k, r.1)) e

-- one byte of the digits
one_more : (b : ℕ) (bytes : List ℕ) → (is_digit b || (b == 95 && first_is is_digit bytes)) ≡ true → digits_at (b ∷ bytes) ≡ another 1 (digit_in b) (digits_at bytes)
unfolding digits_at
one_more b bytes h = of (is_digit b) refl (b == 95 && first_is is_digit bytes) refl h
  where
    of : (t : Bool) → is_digit b ≡ t → (v : Bool) → (b == 95 && first_is is_digit bytes) ≡ v → (t || v) ≡ true → digits_at (b ∷ bytes) ≡ another 1 (cond t (b ∷ []) []) (digits_at bytes)
    of true e v f h = if_true _ _ _ e
    of false e true f h = if_false _ _ _ e ∙ if_true _ _ _ f
    of false e false f h = cc

none_more : (b : ℕ) (bytes : List ℕ) → (is_digit b || (b == 95 && first_is is_digit bytes)) ≡ false → digits_at (b ∷ bytes) ≡ (0, [])
unfolding digits_at
none_more b bytes h = of (is_digit b) refl (b == 95 && first_is is_digit bytes) refl h
  where
    of : (t : Bool) → is_digit b ≡ t → (v : Bool) → (b == 95 && first_is is_digit bytes) ≡ v → (t || v) ≡ false → digits_at (b ∷ bytes) ≡ (0, [])
    of true e v f h = cc
    of false e true f h = cc
    of false e false f h = if_false _ _ _ e ∙ if_false _ _ _ f

-- the bytes from a place on are the byte there and those after it
from_place : (xs : List ℕ) (n : ℕ) → n < length xs → drop n xs ≡ get_or xs n 0 ∷ drop (n + 1) xs
from_place xs n lt = let e : n + 1 ≡ suc n = omega arith in drop-cons xs n 0 lt ∙ ap (λ k. get_or xs n 0 ∷ drop k xs) (sym e)

-- a turn of the loop
pub record Counted (bytes : List ℕ) (n : ℕ) (value : Option ℕ) : Type 0 where
  pub ds : List ℕ
  pub are : digits_at bytes ≡ another n ds (digits_at (drop n bytes))
  pub counts : Counts value ds

pub digits_turn : (xs : List ℕ) (n : ℕ) (ds : List ℕ) → n < length xs → digits_at xs ≡ another n ds (digits_at (drop n xs)) → (is_digit (get_or xs n 0) || (get_or xs n 0 == 95 && first_is is_digit (drop (n + 1) xs))) ≡ true
    → digits_at xs ≡ another (n + 1) (ds ++ digit_in (get_or xs n 0)) (digits_at (drop (n + 1) xs))
digits_turn xs n ds lt e h = e ∙ (ap (λ w. another n ds (digits_at w)) (from_place xs n lt) ∙ (ap (another n ds) (one_more (get_or xs n 0) (drop (n + 1) xs) h) ∙ another_twice n 1 ds (digit_in (get_or xs n 0)) (digits_at (drop (n + 1) xs))))

pub digits_stop : (xs : List ℕ) (n : ℕ) (ds : List ℕ) → n < length xs → digits_at xs ≡ another n ds (digits_at (drop n xs)) → (is_digit (get_or xs n 0) || (get_or xs n 0 == 95 && first_is is_digit (drop (n + 1) xs))) ≡ false → digits_at xs ≡ (n, ds)
digits_stop xs n ds lt e h =
    let z : n + 0 ≡ n = omega arith in
    e ∙ (ap (λ w. another n ds (digits_at w)) (from_place xs n lt) ∙ (ap (another n ds) (none_more (get_or xs n 0) (drop (n + 1) xs) h) ∙ (ap (λ k. (k, ds ++ [])) z ∙ ap (λ w. (n, w)) (append-nil ds))))

nothing_left : (xs : List ℕ) (n : ℕ) → length xs ≤ n → drop n xs ≡ []
nothing_left [] zero h = refl
nothing_left [] (suc n) h = refl
nothing_left (x ∷ xs) zero h = absurd (omega arith)
nothing_left (x ∷ xs) (suc n) h = nothing_left xs n (omega arith)

pub digits_end : (xs : List ℕ) (n : ℕ) (ds : List ℕ) → length xs ≤ n → digits_at xs ≡ another n ds (digits_at (drop n xs)) → digits_at xs ≡ (n, ds)
unfolding digits_at
digits_end xs n ds le e =
    let z : n + 0 ≡ n = omega arith in
    e ∙ (ap (λ w. another n ds (digits_at w)) (nothing_left xs n le) ∙ (ap (λ k. (k, ds ++ [])) z ∙ ap (λ w. (n, w)) (append-nil ds)))
