-- Which characters and bytes may stand in names, aliases and integers.
use Rattle.std.specs.Prelude.{◌≡◌, ℕ, nat_le, ◌==◌, ◌&&◌, ◌||◌, not, Bool, true, false, List, [], ◌∷◌, ◌++◌, chars, encode_utf8_all}
use Rattle.std.specs.List.{list_all}
use Rattle.std.specs.Str.{all_scalars}
use Rattle.unicode_ident.specs.Ident.{is_xid_start, is_xid_continue}
use Rattle.ex_grammar.specs.Texts.{first_is}

-- a digit; a capital of ASCII; what may stand in an alias after its capital: an ASCII letter, a digit or `_`
abbrev pub is_digit : ℕ → Bool
is_digit b = nat_le 48 b && nat_le b 57

abbrev pub is_capital : ℕ → Bool
is_capital b = nat_le 65 b && nat_le b 90

abbrev pub is_alias_byte : ℕ → Bool
is_alias_byte b = (nat_le 97 b && nat_le b 122) || (is_capital b || (is_digit b || b == 95))

-- the character may begin an identifier; `_` does too
abbrev pub is_letter : ℕ → Bool
is_letter c = c == 95 || is_xid_start c

-- the character may begin a name: no ASCII capital does
abbrev pub begins_name : ℕ → Bool
begins_name c = is_letter c && not (is_capital c)

-- the character may stand in a name after its first
abbrev pub is_in_name : ℕ → Bool
is_in_name c = is_xid_continue c

-- `!` and `?`
abbrev pub is_mark : ℕ → Bool
is_mark b = b == 33 || b == 63

-- no byte, or character, that passes stands first
abbrev pub NotFirst : (ℕ → Bool) → List ℕ → Type 0
NotFirst passes [] = Unit {0}
NotFirst passes (b ∷ bytes) = passes b ≡ false

-- whether a `!` or `?` stands first that belongs to the name before it: one that no `=` follows
abbrev pub mark_follows : List ℕ → Bool
mark_follows [] = false
mark_follows (b ∷ bytes) = is_mark b && not (first_is (λ c. c == 61) bytes)

-- the bytes are a name, as long as it can be where these follow it
pub data IsName : List ℕ → List ℕ → Type 0 where
  -- a character that may begin a name, and characters that may stand in one
  bare : (c : ℕ) (cs : List ℕ) {rest : List ℕ} → all_scalars (c ∷ cs) ≡ true → begins_name c ≡ true → list_all is_in_name cs ≡ true → NotFirst is_in_name (chars rest) → mark_follows rest ≡ false → IsName (encode_utf8_all (c ∷ cs)) rest
  -- the same with one `?` or `!` more, unless `=` follows it
  marked : (c : ℕ) (cs : List ℕ) (m : ℕ) {rest : List ℕ} → all_scalars (c ∷ cs) ≡ true → begins_name c ≡ true → list_all is_in_name cs ≡ true → is_mark m ≡ true → NotFirst (λ b. b == 61) rest → IsName (encode_utf8_all (c ∷ cs) ++ m ∷ []) rest

-- the bytes are an alias, as long as it can be where these follow it
pub data IsAlias : List ℕ → List ℕ → Type 0 where
  alias : {b : ℕ} {bytes rest : List ℕ} → is_capital b ≡ true → list_all is_alias_byte bytes ≡ true → NotFirst is_alias_byte rest → IsAlias (b ∷ bytes) rest

-- digits, between any two of which a `_` may stand, and the digits alone
pub data Digits : List ℕ → List ℕ → Type 0 where
  one : {d : ℕ} → is_digit d ≡ true → Digits (d ∷ []) (d ∷ [])
  more : {d : ℕ} {text ds : List ℕ} → is_digit d ≡ true → Digits text ds → Digits (d ∷ text) (d ∷ ds)
  spaced : {d : ℕ} {text ds : List ℕ} → is_digit d ≡ true → Digits text ds → Digits (d ∷ 95 ∷ text) (d ∷ ds)

-- no digit, letter or `_` stands first
abbrev pub NumberEnds : List ℕ → Type 0
NumberEnds rest = NotFirst is_digit rest × NotFirst is_letter (chars rest)

-- whether a `_` stands first that a digit follows
abbrev pub digit_second : List ℕ → Bool
digit_second [] = false
digit_second (b ∷ bytes) = b == 95 && first_is is_digit bytes
