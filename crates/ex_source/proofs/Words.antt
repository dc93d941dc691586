-- Numbers and names.
use Rattle.std.proofs.Common.{◌≡◌, ◌≢◌, ℕ, ℤ, pos, ◌<◌, ◌^◌, ◌&&◌, Bool, true, false, nat_lt, List, [], ◌∷◌, length, get_or, Some, None, Result, Ok, Err, MatchOption, refl, arith, rules}
use mir.Syntax.{w128}
use mir.Val.{to_z, of_z, SFits}
use Rattle.std.proofs.lemmas.Int.{to_z-of_z}
use Rattle.std.specs.Result.{OkIff, result_ok}
use Rattle.std.specs.List.{list_all}
use Rattle.std.specs.Str.Parse.{ParsesSigned, digits_value}
use Rattle.std.proofs.lemmas.Bool.Decides.{nat_tests}
use Rattle.std.proofs.lemmas.Str.Parse.{IsNumeralModel, IsDigitsTest, numerals_by_value, parse_signed_plain}
use Rattle.ex_model.specs.Tokens.{Token, Number, Name, is_digit, is_name, is_keyword}
use Rattle.ex_model.specs.Lexing.{is_in_line}
use Rattle.ex_source.specs.Front.{first_is, word_token}
use Rattle.ex_source.specs.declared.lexeme.Lexeme.TheVariants.{Name as LName, Integer}
use Rattle.ex_source.specs.Lexemes.{IsLexeme, is_integer, is_name as is_name_lexeme}

abbrev pub AreDigits : List ℕ → Type 0
AreDigits ds = list_all is_digit ds ≡ true

digits_test : IsDigitsTest AreDigits
digits_test = search rules

digits_model : IsNumeralModel AreDigits (digits_value 10)
digits_model = numerals_by_value AreDigits digits_test

digit_first : (bs : List ℕ) (b : ℕ) → first_is is_digit bs ≡ true → nat_lt b 48 ≡ true → get_or bs 0 0 ≢ b
digit_first [] b h lt e = cc
digit_first (c ∷ bs) b h lt e = let s : c ≡ b = e in absurd (grind (arith, nat_tests))

-- a text that a digit begins is parsed as its number, where it is one
pub integer_read : {E : Type 0} (bs : List ℕ) (r : Result ℤ E) → ParsesSigned w128 10 bs r → first_is is_digit bs ≡ true
    → MatchOption (result_ok r) (word_token bs ≡ None) (λ z. (z ≡ pos (digits_value 10 bs)) × (digits_value 10 bs < 2 ^ 127) × (word_token bs ≡ Some (Number (digits_value 10 bs))))
integer_read bs r h first = of r (parse_signed_plain digits_model w128 bs r h (digit_first bs 43 first refl) (digit_first bs 45 first refl))
  where
    small : (n : ℕ) → n < 2 ^ 127 → nat_lt n (2 ^ 127) ≡ true
    small n h = grind (arith, nat_tests)

    not_small : (b : Bool) (n : ℕ) → (b ≡ true → n < 2 ^ 127 → ⊥) → (b && nat_lt n (2 ^ 127)) ≡ false
    not_small true n h = grind (arith, nat_tests)
    not_small false n h = refl

    some : (bs : List ℕ) → first_is is_digit bs ≡ true → 0 < length bs
    some [] h = cc
    some (b ∷ bs) h = omega arith

    of : {E : Type 0} (r : Result ℤ E) → OkIff r (AreDigits bs × (0 < length bs) × (digits_value 10 bs < 2 ^ 127)) (pos (digits_value 10 bs))
        → MatchOption (result_ok r) (word_token bs ≡ None) (λ z. (z ≡ pos (digits_value 10 bs)) × (digits_value 10 bs < 2 ^ 127) × (word_token bs ≡ Some (Number (digits_value 10 bs))))
    of (Ok z) k = (k.1, k.0.2, rw (first, k.0.0, small (digits_value 10 bs) k.0.2) refl)
    of (Err e) k = rw (first, not_small (list_all is_digit bs) (digits_value 10 bs) (λ a b. k (a, some bs first, b))) refl

-- a text that no digit begins is a name, unless it is a word
pub name_read : (word x : List ℕ) → first_is is_digit word ≡ false → is_name word ≡ true → is_keyword word ≡ false → x ≡ word → (t : Token) × IsLexeme (LName x) t × (word_token word ≡ Some t)
name_read word x first named plain e = (Name word, rw e is_name_lexeme, rw (first, named, plain) refl)

pub feed_ends : (b : ℕ) → b ≡ 10 → is_in_line b ≡ false
feed_ends b e = rw e refl

fits : (n : ℕ) → n < 2 ^ 127 → SFits w128 (pos n)
fits n h = search rules

-- a number in range is what is kept of it
pub kept : (n : ℕ) → n < 2 ^ 127 → to_z w128 (of_z w128 (pos n)) ≡ pos n
kept n h = to_z-of_z w128 (pos n) (fits n h)

-- a number that was read
pub number_read : (word : List ℕ) (z : ℤ) → (z ≡ pos (digits_value 10 word)) × (digits_value 10 word < 2 ^ 127) × (word_token word ≡ Some (Number (digits_value 10 word)))
    → (t : Token) × IsLexeme (Integer (to_z w128 (of_z w128 z))) t × (word_token word ≡ Some t)
number_read word z h =
    let same : to_z w128 (of_z w128 (pos (digits_value 10 word))) ≡ pos (digits_value 10 word) = kept (digits_value 10 word) h.1 in
    rw (h.0, same) (Number (digits_value 10 word), is_integer h.1, h.2)
