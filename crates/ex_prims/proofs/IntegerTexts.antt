-- Texts as integers.
use Rattle.std.proofs.Common.{◌≡◌, ℕ, ◌==◌, Bool, true, false, cond, if◌then◌else◌, ℤ, pos, negsuc, neg_ℤ, List, [], ◌∷◌, drop, Option, Some, None, is_some, FitsSigned, to_z, of_z, subst, refl, sym, ap, ◌∙◌, arith}
use Rattle.std.specs.Str.{all_ascii_digits}
use Rattle.std.specs.Int.{w128}
use Rattle.std.proofs.lemmas.Int.{to_z-of_z}
use Rattle.std.specs.Str.Parse.{IsNumeral, digits_value, signed_digits_value, starts_with_minus, without_leading_sign}
use Rattle.std.proofs.lemmas.Str.Parse.{IsNumeralModel, numerals_by_value, tells_all_ascii_digits}
use Rattle.std.proofs.lemmas.Bool.Decides.{nat_tests}
use Rattle.ex_terms.specs.declared.values.Value.TheVariants.{Int}
use Rattle.ex_faults.specs.declared.fault.Fault.TheVariants.{IntegerTooWide}
use Rattle.ex_prims.specs.Answers.{Answer, Gives, Wrong, Refuses}
use Rattle.ex_prims.specs.Integers.{is_in_range, in_range, number_in, plain_numeral, negative_numeral, integer_in}

-- the test of the definitions is what an integer of 128 bits fits
fits-is : (z : ℤ) → FitsSigned w128 z → is_in_range z ≡ true
fits-is (pos n) f = grind (arith, nat_tests, f)
fits-is (negsuc n) f = grind (arith, nat_tests, f)

wide-is : (z : ℤ) → ¬ (FitsSigned w128 z) → is_in_range z ≡ false
wide-is (pos n) f = grind (arith, nat_tests, f)
wide-is (negsuc n) f = grind (arith, nat_tests, f)

pub is-given : (z : ℤ) → FitsSigned w128 z → in_range z ≡ Gives (Int z)
is-given z f = ap (λ b. if b then Gives (Int z) else Refuses IntegerTooWide) (fits-is z f)

pub is-too-wide : (z : ℤ) → ¬ (FitsSigned w128 z) → in_range z ≡ Refuses IntegerTooWide
is-too-wide z f = ap (λ b. if b then Gives (Int z) else Refuses IntegerTooWide) (wide-is z f)

-- a number with a sign or without one
abbrev signed : Bool → Option ℕ → Answer
signed true o = negative_numeral o
signed false o = plain_numeral o

abbrev with_sign : Bool → ℕ → ℤ
with_sign minus n = cond minus (neg_ℤ (pos n)) (pos n)

signed-some : (minus : Bool) (n : ℕ) → signed minus (Some n) ≡ in_range (with_sign minus n)
signed-some true n = refl
signed-some false n = refl

signed-none : (minus : Bool) → signed minus None ≡ Wrong
signed-none true = refl
signed-none false = refl

by-first : (minus plus : Bool) (b : ℕ) (bs : List ℕ)
    → (if minus then negative_numeral (number_in bs) else (if plus then plain_numeral (number_in bs) else plain_numeral (number_in (b ∷ bs)))) ≡ signed minus (number_in (cond minus bs (drop (cond plus 1 0) (b ∷ bs))))
by-first true plus b bs = refl
by-first false true b bs = refl
by-first false false b bs = refl

by-sign : (bs : List ℕ) → integer_in bs ≡ signed (starts_with_minus bs) (number_in (without_leading_sign bs))
by-sign [] = refl
by-sign (b ∷ bs) = by-first (b == 45) (b == 43) b bs

own : IsNumeralModel (λ ds. all_ascii_digits ds ≡ true) (digits_value 10)
own = numerals_by_value _ tells_all_ascii_digits

number-is : (ds : List ℕ) → IsNumeral 10 ds → number_in ds ≡ Some (digits_value 10 ds)
number-is [] h = absurd (omega (arith, h.0))
number-is (d ∷ ds) h = ap (λ b. if b then Some (digits_value 10 (d ∷ ds)) else None) (own.from (d ∷ ds) h.1)

digits-by : (b : Bool) (n : ℕ) → is_some (if b then Some n else None) ≡ b
digits-by true n = refl
digits-by false n = refl

are-numeral : (ds : List ℕ) → is_some (number_in ds) ≡ true → IsNumeral 10 ds
are-numeral [] h = absurd (cc)
are-numeral (d ∷ ds) h = (omega arith, own.to (d ∷ ds) (sym (digits-by (all_ascii_digits (d ∷ ds)) (digits_value 10 (d ∷ ds))) ∙ h))

no-number : (o : Option ℕ) → is_some o ≡ false → o ≡ None
no-number None h = refl
no-number (Some n) h = absurd (cc)

pub is-read : (bs : List ℕ) (z : ℤ) → IsNumeral 10 (without_leading_sign bs) → FitsSigned w128 (signed_digits_value 10 bs) → z ≡ signed_digits_value 10 bs → integer_in bs ≡ Gives (Int (to_z w128 (of_z w128 z)))
is-read bs z numeral f e =
    let fits : FitsSigned w128 z = subst (λ (y : ℤ). FitsSigned w128 y) (sym e) f in
    by-sign bs ∙ ap (signed (starts_with_minus bs)) (number-is (without_leading_sign bs) numeral) ∙ signed-some (starts_with_minus bs) (digits_value 10 (without_leading_sign bs))
    ∙ is-given (signed_digits_value 10 bs) f ∙ ap (λ y. Gives (Int y)) (sym e) ∙ ap (λ y. Gives (Int y)) (sym (to_z-of_z w128 z fits))

pub does-not-fit : (bs : List ℕ) → ¬ (IsNumeral 10 (without_leading_sign bs) × FitsSigned w128 (signed_digits_value 10 bs)) → is_some (number_in (without_leading_sign bs)) ≡ true → integer_in bs ≡ Refuses IntegerTooWide
does-not-fit bs h d =
    let numeral : IsNumeral 10 (without_leading_sign bs) = are-numeral (without_leading_sign bs) d in
    by-sign bs ∙ ap (signed (starts_with_minus bs)) (number-is (without_leading_sign bs) numeral) ∙ signed-some (starts_with_minus bs) (digits_value 10 (without_leading_sign bs))
    ∙ is-too-wide (signed_digits_value 10 bs) (λ f. h (numeral, f))

pub is-no-number : (bs : List ℕ) → is_some (number_in (without_leading_sign bs)) ≡ false → integer_in bs ≡ Wrong
is-no-number bs d = by-sign bs ∙ ap (signed (starts_with_minus bs)) (no-number (number_in (without_leading_sign bs)) d) ∙ signed-none (starts_with_minus bs)
