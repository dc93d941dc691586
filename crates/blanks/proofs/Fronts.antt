-- Spaces and tabs are ASCII, so a text may be cut behind those at its front.
use Rattle.std.proofs.Common.{◌≡◌, ℕ, zero, suc, ◌+◌, ◌<◌, ◌≤◌, Bool, true, false, cond, ◌&&◌, List, [], ◌∷◌, length, drop, get_or, arith, refl, add-one}
use Rattle.std.proofs.lemmas.Bool.Decides.{nat_tests}
use Rattle.std.specs.Prelude.{◌==◌}
use Rattle.std.specs.List.{list_all}
use Rattle.std.specs.Str.{IsUtf8, IsCharBoundary}
use Rattle.std.proofs.lemmas.Str.{IsCharBoundary-start, IsCharBoundary-after_ascii}
use Rattle.blanks.specs.Blanks.{drop_front, front_of, is_space_or_tab}

pub is_space_or_tab-ascii : (b : ℕ) → is_space_or_tab b ≡ true → b < 128
is_space_or_tab-ascii b h = grind (arith, nat_tests)

pub front_boundary : (bs : List ℕ) (n : ℕ) → IsUtf8 bs → n ≤ length bs → ((k : ℕ) → k < n → is_space_or_tab (get_or bs k 0) ≡ true) → IsCharBoundary bs n
front_boundary bs zero utf8 within cut = IsCharBoundary-start bs utf8
front_boundary bs (suc n) utf8 within cut =
    rw (← add-one) (IsCharBoundary-after_ascii bs n utf8 (omega arith) (is_space_or_tab-ascii (get_or bs n 0) (cut n (omega arith))))

-- a front that passes up to the first element that doesn't
pub drop_front-is : (p : ℕ → Bool) (bs : List ℕ) (n : ℕ) → n ≤ length bs → ((k : ℕ) → k < n → p (get_or bs k 0) ≡ true) → (n < length bs → p (get_or bs n 0) ≡ false) → drop n bs ≡ drop_front p bs
drop_front-is p [] zero within cut stops = refl
drop_front-is p [] (suc n) within cut stops = absurd (omega arith)
drop_front-is p (x ∷ xs) zero within cut stops = rw (stops (omega arith)) refl
drop_front-is p (x ∷ xs) (suc n) within cut stops =
    rw (cut 0 (omega arith)) (drop_front-is p xs n (omega arith) (λ k h. cut (suc k) (omega arith)) (λ h. stops (omega arith)))

-- a list is its front and what is behind it
one_more : (b : Bool) (x : ℕ) (front rest xs : List ℕ) → length front + length rest ≡ length xs → length (cond b (x ∷ front) []) + length (cond b rest (x ∷ xs)) ≡ length (x ∷ xs)
one_more true x front rest xs e = omega (arith, e)
one_more false x front rest xs e = omega arith

pub front_and_rest : (p : ℕ → Bool) (xs : List ℕ) → length (front_of p xs) + length (drop_front p xs) ≡ length xs
front_and_rest p [] = refl
front_and_rest p (x ∷ xs) = one_more (p x) x (front_of p xs) (drop_front p xs) xs (front_and_rest p xs)

one_behind : (b : Bool) (x : ℕ) (rest xs : List ℕ) (all : Bool) → (length rest == 0) ≡ all → (length (cond b rest (x ∷ xs)) == 0) ≡ b && all
one_behind true x rest xs all e = e
one_behind false x rest xs all e = grind (arith, nat_tests)

-- where all pass, nothing is behind them
pub all-none_behind : (p : ℕ → Bool) (xs : List ℕ) → (length (drop_front p xs) == 0) ≡ list_all p xs
all-none_behind p [] = refl
all-none_behind p (x ∷ xs) = one_behind (p x) x (drop_front p xs) xs (list_all p xs) (all-none_behind p xs)
