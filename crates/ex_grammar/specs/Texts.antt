-- What stands between the quotes of a text, and what it says.
use Rattle.std.specs.Prelude.{◌≡◌, ℕ, ◌+◌, ◌*◌, ◌==◌, ◌&&◌, not, if◌then◌else◌, Bool, true, false, List, [], ◌∷◌, ◌++◌, Option, Some, None}
use Rattle.std.specs.Char.{encode_utf8, digit_value, is_ascii_hexdigit, IsScalar}

-- the letters of the short escapes, and the byte that each stands for: `\n \t \r \" \\ \# \s`
abbrev pub escapes : List (ℕ × ℕ)
escapes = (110, 10) ∷ (116, 9) ∷ (114, 13) ∷ (34, 34) ∷ (92, 92) ∷ (35, 35) ∷ (115, 32) ∷ []

abbrev pub escape_in : List (ℕ × ℕ) → ℕ → Option ℕ
escape_in [] b = None
escape_in (row ∷ rows) b = if b == row.0 then Some row.1 else escape_in rows b

-- the character with four hexadecimal digits
abbrev pub hex_value : ℕ → ℕ → ℕ → ℕ → ℕ
hex_value a b c d = ((digit_value a * 16 + digit_value b) * 16 + digit_value c) * 16 + digit_value d

abbrev pub are_hexdigits : ℕ → ℕ → ℕ → ℕ → Bool
are_hexdigits a b c d = is_ascii_hexdigit a && (is_ascii_hexdigit b && (is_ascii_hexdigit c && is_ascii_hexdigit d))

-- what may stand after a `\`, and the bytes that it says
pub data IsEscape : List ℕ → List ℕ → Type 0 where
  -- a letter of the table
  short : {b c : ℕ} → escape_in escapes b ≡ Some c → IsEscape (b ∷ []) (c ∷ [])
  -- `u` and four hexadecimal digits that name a character
  coded : {a b c d : ℕ} → are_hexdigits a b c d ≡ true → IsScalar (hex_value a b c d) → IsEscape (117 ∷ a ∷ b ∷ c ∷ d ∷ []) (encode_utf8 (hex_value a b c d))

-- whether a byte that passes stands first
abbrev pub first_is : (ℕ → Bool) → List ℕ → Bool
first_is passes [] = false
first_is passes (b ∷ bytes) = passes b

-- whether a byte of a text stands for itself where these follow: all but `"`, `\` and the `#` of a `#{`
abbrev pub is_plain : ℕ → List ℕ → Bool
is_plain b next = not (b == 34) && (not (b == 92) && not (b == 35 && first_is (λ c. c == 123) next))

-- what is written in a text, what follows it in the source, and the bytes that it says
pub data Says : List ℕ → List ℕ → List ℕ → Type 0 where
  nothing : {rest : List ℕ} → Says [] rest []
  plain : {b : ℕ} {text rest bytes : List ℕ} → is_plain b (text ++ rest) ≡ true → Says text rest bytes → Says (b ∷ text) rest (b ∷ bytes)
  escape : {letters says text rest bytes : List ℕ} → IsEscape letters says → Says text rest bytes → Says (92 ∷ (letters ++ text)) rest (says ++ bytes)
