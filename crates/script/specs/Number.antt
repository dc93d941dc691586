-- Numbers as they are written in a script.
use Rattle.std.specs.Prelude.{◌≡◌, ℕ, ◌<◌, ◌≤◌, ◌^◌, List, length}
use Rattle.std.specs.Str.Parse.{IsNumeral, digits_value}

-- the word is 1 to 20 decimal digits, and they write the number, which is below 2^64
pub record IsNumber (word : List ℕ) (number : ℕ) : Type 0 where
  pub digits : IsNumeral 10 word
  pub few : length word ≤ 20
  pub value : number ≡ digits_value 10 word
  pub small : number < 2 ^ 64
