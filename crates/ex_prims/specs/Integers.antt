-- Calculating with integers of 128 bits.
use Rattle.std.specs.Prelude.{ℕ, zero, suc, ℤ, pos, negsuc, ◌+ℤ◌, ◌^◌, ◌==◌, nat_lt, Bool, true, false, if◌then◌else◌, List, [], ◌∷◌, Option, Some, None, neg_ℤ, int_rem}
use Rattle.std.specs.Int.{int_pow}
use Rattle.std.specs.Str.{all_ascii_digits}
use Rattle.std.specs.Str.Parse.{digits_value}
use Rattle.ex_terms.specs.declared.values.Value.{Value}
use Rattle.ex_terms.specs.declared.values.Value.TheVariants.{Int, Atom, Str, Tuple, List as Listed}
use Rattle.ex_faults.specs.declared.fault.Fault.TheVariants.{DivisionByZero, IntegerTooWide}
use Rattle.ex_prims.specs.Answers.{Answer, Gives, Wrong, Refuses}

-- whether an integer has at most 128 bits
abbrev pub is_in_range : ℤ → Bool
is_in_range (pos n) = nat_lt n (2 ^ 127)
is_in_range (negsuc n) = nat_lt n (2 ^ 127)

-- an integer as an answer, unless it is too wide
abbrev pub in_range : ℤ → Answer
in_range z = if is_in_range z then Gives (Int z) else Refuses IntegerTooWide

-- what a division answers, unless it is by zero
abbrev pub divided : ℤ → Answer → Answer
divided (pos zero) a = Refuses DivisionByZero
divided (pos (suc n)) a = a
divided (negsuc n) a = a

-- whether an integer is zero; whether of two integers the one is below zero and the other isn't
abbrev pub is_zero : ℤ → Bool
is_zero (pos n) = n == 0
is_zero (negsuc n) = false

abbrev pub signs_differ : ℤ → ℤ → Bool
signs_differ (pos m) (pos n) = false
signs_differ (pos m) (negsuc n) = true
signs_differ (negsuc m) (pos n) = true
signs_differ (negsuc m) (negsuc n) = false

-- the remainder with the divisor's sign: that of a division towards zero, and the divisor more where its sign is another
abbrev pub modulo : ℤ → ℤ → ℤ
modulo i j = if is_zero (int_rem i j) then pos 0 else (if signs_differ (int_rem i j) j then int_rem i j +ℤ j else int_rem i j)

-- a power; its exponent isn't below zero
abbrev pub power : ℤ → ℤ → Answer
power i (pos n) = in_range (int_pow i n)
power i (negsuc n) = Wrong

-- digits, at least one, as a number
abbrev pub number_in : List ℕ → Option ℕ
number_in [] = None
number_in (d ∷ ds) = if all_ascii_digits (d ∷ ds) then Some (digits_value 10 (d ∷ ds)) else None

-- a numeral as an answer, alone or behind a `+`, and behind a `-`; there may be none
abbrev pub plain_numeral : Option ℕ → Answer
plain_numeral None = Wrong
plain_numeral (Some n) = in_range (pos n)

abbrev pub negative_numeral : Option ℕ → Answer
negative_numeral None = Wrong
negative_numeral (Some n) = in_range (neg_ℤ (pos n))

-- a text as an integer: one sign or none, and digits
abbrev pub integer_in : List ℕ → Answer
integer_in [] = Wrong
integer_in (b ∷ bs) = if b == 45 then negative_numeral (number_in bs) else (if b == 43 then plain_numeral (number_in bs) else plain_numeral (number_in (b ∷ bs)))

-- the integers that values are, if all of them are integers
abbrev pub put_first : ℤ → Option (List ℤ) → Option (List ℤ)
put_first z None = None
put_first z (Some zs) = Some (z ∷ zs)

abbrev pub all_integers : List Value → Option (List ℤ)
all_integers [] = Some []
all_integers (Int z ∷ vs) = put_first z (all_integers vs)
all_integers (Atom t ∷ vs) = None
all_integers (Str t ∷ vs) = None
all_integers (Tuple ts ∷ vs) = None
all_integers (Listed ts ∷ vs) = None

-- integers together
abbrev pub sum_of : List ℤ → ℤ
sum_of [] = pos 0
sum_of (z ∷ zs) = z +ℤ sum_of zs

abbrev pub summed : Option (List ℤ) → Answer
summed None = Wrong
summed (Some zs) = in_range (sum_of zs)
