-- How many units are left where halves of pairs that stand alone are left out.
use Rattle.std.proofs.Common.{◌≡◌, ℕ, ◌+◌, ◌<◌, ◌≤◌, Bool, true, false, ◌&&◌, cond, List, [], ◌∷◌, length, refl, arith}
use Rattle.std.proofs.lemmas.Bool.Decides.{nat_tests}
use Rattle.std.specs.Prelude.{nat_lt}
use Rattle.utf16_text.proofs.Counts.{unit_count-append, unit_count-cons}
use Rattle.utf16_text.specs.Units.{unit_count, units_of_character, decoded, begun_by, paired_with_next, character_of_pair, is_high_half, is_low_half, is_scalar}

-- a list that begins with a low half has a unit more than it stands for
abbrev low_first : List ℕ → ℕ
low_first [] = 0
low_first (u ∷ us) = cond (is_low_half u) 1 0

at_most_two : (c : ℕ) → length (units_of_character c) ≤ 2
at_most_two c = grind (arith, nat_tests)

at_most_one : (c : ℕ) → c < 0x1_0000 → length (units_of_character c) ≤ 1
at_most_one c h = grind (arith, nat_tests)

high_not_low : (u : ℕ) → is_high_half u ≡ true → is_low_half u ≡ false
high_not_low u h = grind (arith, nat_tests)

scalar_not_low : (u : ℕ) → is_scalar u ≡ true → is_low_half u ≡ false
scalar_not_low u h = grind (arith, nat_tests)

test_below : (u : ℕ) → nat_lt u 0x1_0000 ≡ true → u < 0x1_0000
test_below u h = grind (arith, nat_tests)

at_most : (b : Bool) → cond b 1 0 ≤ 1
at_most true = omega arith
at_most false = omega arith

paired_count : (u : ℕ) (after : List ℕ) → unit_count (paired_with_next u after) ≤ 1 + low_first after
paired_count u [] = omega arith
paired_count u (low ∷ after) = at (is_low_half low)
  where
    at : (b : Bool) → unit_count (cond b (character_of_pair u low ∷ []) []) ≤ 1 + cond b 1 0
    at true = omega (arith, unit_count-cons (character_of_pair u low) [], at_most_two (character_of_pair u low))
    at false = omega arith

begun_count : (u : ℕ) (after : List ℕ) → unit_count (begun_by u after) + cond (is_low_half u) 1 0 ≤ 1 + low_first after
begun_count u after = at (is_high_half u) (is_scalar u) (nat_lt u 0x1_0000) refl refl refl
  where
    at : (a b d : Bool) → is_high_half u ≡ a → is_scalar u ≡ b → nat_lt u 0x1_0000 ≡ d
        → unit_count (cond a (paired_with_next u after) (cond (b && d) (u ∷ []) [])) + cond (is_low_half u) 1 0 ≤ 1 + low_first after
    at true b d e f g = rw (high_not_low u e) (omega (arith, paired_count u after))
    at false true true e f g = rw (scalar_not_low u f) (omega (arith, unit_count-cons u [], at_most_one u (test_below u g)))
    at false true false e f g = omega (arith, at_most (is_low_half u))
    at false false d e f g = omega (arith, at_most (is_low_half u))

decoded_count : (us : List ℕ) → unit_count (decoded us) + low_first us ≤ length us
decoded_count [] = omega arith
decoded_count (u ∷ after) = omega (arith, decoded_count after, begun_count u after, unit_count-append (begun_by u after) (decoded after))

pub unit_count-decoded : (us : List ℕ) → unit_count (decoded us) ≤ length us
unit_count-decoded us = omega (arith, decoded_count us)
