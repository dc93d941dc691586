-- Tokens, and the bytes that may stand in them.
use Rattle.std.specs.Prelude.{ℕ, nat_le, ◌==◌, ◌&&◌, ◌||◌, Bool, false, List, [], ◌∷◌, codes}
use Rattle.std.specs.List.{list_all, list_any}
use Rattle.std.specs.Str.{bytes_eq}
use Rattle.ex_model.specs.declared.ast.Operator.{Operator}

-- an integer by its value, a name by its bytes, the sign of an operator, `=`, `(`, `)`, and what separates expressions
pub data Token : Type 0 where
  Number : ℕ → Token
  Name : List ℕ → Token
  Sign : Operator → Token
  Equals : Token
  Opening : Token
  Closing : Token
  Separator : Token

-- a small letter; a capital; a digit
abbrev pub is_small_letter : ℕ → Bool
is_small_letter b = nat_le 97 b && nat_le b 122

abbrev pub is_capital : ℕ → Bool
is_capital b = nat_le 65 b && nat_le b 90

abbrev pub is_digit : ℕ → Bool
is_digit b = nat_le 48 b && nat_le b 57

-- what may stand in a name after its first letter: a small letter, a digit or `_`
abbrev pub is_name_byte : ℕ → Bool
is_name_byte b = is_small_letter b || is_digit b || b == 95

-- what would go on with a number or a name: a letter, a digit or `_`
abbrev pub is_word_byte : ℕ → Bool
is_word_byte b = is_name_byte b || is_capital b

-- a small letter, then small letters, digits and `_`
abbrev pub is_name : List ℕ → Bool
is_name [] = false
is_name (b ∷ bytes) = is_small_letter b && list_all is_name_byte bytes

-- the words that are no names
abbrev pub keywords : List (List ℕ)
keywords = codes "true" ∷ codes "false" ∷ codes "nil" ∷ codes "and" ∷ codes "or" ∷ codes "not" ∷ codes "in" ∷ codes "do" ∷ codes "end" ∷ codes "else" ∷ codes "if"
    ∷ codes "case" ∷ codes "cond" ∷ codes "for" ∷ codes "when" ∷ codes "fn" ∷ codes "catch" ∷ codes "rescue" ∷ codes "after" ∷ []

abbrev pub is_keyword : List ℕ → Bool
is_keyword name = list_any (λ word. bytes_eq name word) keywords
