-- Fronts of lists of bytes, and where a text may be cut.
use Rattle.std.proofs.Common.{◌≡◌, ℕ, zero, suc, ◌+◌, ◌-◌, ◌==◌, ◌<◌, ◌≤◌, cond, Bool, true, false, List, [], ◌∷◌, ◌++◌, length, take, drop, refl, sym, ap, ◌∙◌, arith, length-append, length-drop}
use Rattle.std.proofs.lemmas.Bool.Decides.{nat_tests}
use Rattle.std.specs.List.{prefix_len, list_all}
use Rattle.ex_grammar.specs.Texts.{first_is}
use Rattle.ex_grammar.specs.Names.{NotFirst}
use Rattle.ex_lexer.proofs.Bools.{and_left, and_right}

pub take_front : (xs rest : List ℕ) → take (length xs) (xs ++ rest) ≡ xs
take_front [] rest = refl
take_front (x ∷ xs) rest = ap (λ v. x ∷ v) (take_front xs rest)

pub drop_front : (xs rest : List ℕ) → drop (length xs) (xs ++ rest) ≡ rest
drop_front [] rest = refl
drop_front (x ∷ xs) rest = drop_front xs rest

pub take_drop : (n : ℕ) (xs : List ℕ) → take n xs ++ drop n xs ≡ xs
take_drop zero xs = refl
take_drop (suc n) [] = refl
take_drop (suc n) (x ∷ xs) = ap (λ v. x ∷ v) (take_drop n xs)

pub length_take : (n : ℕ) (xs : List ℕ) → n ≤ length xs → length (take n xs) ≡ n
length_take n xs h = omega (arith, length-append (take n xs) (drop n xs), length-drop n xs, ap length (take_drop n xs))

pub not_first : (p : ℕ → Bool) (rest : List ℕ) → NotFirst p rest → first_is p rest ≡ false
not_first p [] h = refl
not_first p (b ∷ rest) h = h

pub first_not : (p : ℕ → Bool) (rest : List ℕ) → first_is p rest ≡ false → NotFirst p rest
first_not p [] h = tt
first_not p (b ∷ rest) h = h

-- all that pass at the front, where no more follow
pub passes_whole : (p : ℕ → Bool) (xs rest : List ℕ) → list_all p xs ≡ true → NotFirst p rest → prefix_len p (xs ++ rest) ≡ length xs
passes_whole p [] [] h n = refl
passes_whole p [] (b ∷ rest) h n = rw n refl
passes_whole p (x ∷ xs) rest h n =
    let first = and_left (p x) (list_all p xs) h in
    rw first (ap (λ k. 1 + k) (passes_whole p xs rest (and_right (p x) (list_all p xs) h) n) ∙ omega arith)

pub after_prefix : (p : ℕ → Bool) (xs : List ℕ) → NotFirst p (drop (prefix_len p xs) xs)
after_prefix p [] = tt
after_prefix p (x ∷ xs) = of (p x) refl (after_prefix p xs)
  where
    of : (t : Bool) → p x ≡ t → NotFirst p (drop (prefix_len p xs) xs) → NotFirst p (drop (cond t (1 + prefix_len p xs) 0) (x ∷ xs))
    of true e h = let f : 1 + prefix_len p xs ≡ suc (prefix_len p xs) = omega arith in rw f h
    of false e h = e

pub prefix_all : (p : ℕ → Bool) (xs : List ℕ) → list_all p (take (prefix_len p xs) xs) ≡ true
prefix_all p [] = refl
prefix_all p (x ∷ xs) = of (p x) refl (prefix_all p xs)
  where
    of : (t : Bool) → p x ≡ t → list_all p (take (prefix_len p xs) xs) ≡ true → list_all p (take (cond t (1 + prefix_len p xs) 0) (x ∷ xs)) ≡ true
    of true e h = let f : 1 + prefix_len p xs ≡ suc (prefix_len p xs) = omega arith in rw f (rw (e, h) refl)
    of false e h = refl

pub is_some : (xs : List ℕ) → false ≡ (length xs == 0) → 0 < length xs
is_some [] h = let e : false ≡ true = h in cc
is_some (x ∷ xs) h = omega arith

pub is_none : (xs : List ℕ) → true ≡ (length xs == 0) → xs ≡ []
is_none [] h = refl
is_none (x ∷ xs) h = absurd (grind (arith, nat_tests))

take_whole : (xs : List ℕ) → take (length xs) xs ≡ xs
take_whole [] = refl
take_whole (x ∷ xs) = ap (λ w. x ∷ w) (take_whole xs)

-- a slice up to the end
pub rest_from : (xs : List ℕ) (k : ℕ) → take (length xs - k) (drop k xs) ≡ drop k xs
rest_from xs k = ap (λ n. take n (drop k xs)) (sym (length-drop k xs)) ∙ take_whole (drop k xs)
