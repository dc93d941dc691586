-- What stands at the front of a source, computed.
use Rattle.std.specs.Prelude.{ℕ, ◌+◌, ◌^◌, ◌==◌, ◌&&◌, ◌||◌, nat_lt, if◌then◌else◌, Bool, true, false, List, [], ◌∷◌, take, drop, length, chars, Option, Some, None}
use Rattle.std.specs.List.{prefix_len}
use Rattle.std.specs.Str.Parse.{digits_value}
use Rattle.ex_grammar.specs.declared.token.Sign.{Sign}
use Rattle.ex_grammar.specs.declared.token.Sign.TheVariants as S
use Rattle.ex_grammar.specs.declared.token.Keyword.{Keyword}
use Rattle.ex_grammar.specs.declared.token.LexErrorKind.{LexErrorKind}
use Rattle.ex_grammar.specs.declared.token.LexErrorKind.TheVariants.{BadChar, BadNumber, TooWide, BadEscape, OpenText}
use Rattle.ex_grammar.specs.Tokens.{Token, Number, Name, Called, Alias, Key, Atom, Word, Mark, signs, keyword_of}
use Rattle.ex_grammar.specs.Texts.{first_is}
use Rattle.ex_grammar.specs.Names.{is_digit, is_capital, is_alias_byte, is_letter, begins_name}
use Rattle.ex_grammar.specs.Lexing.{Piece, Blank, Comment, Newline, Semicolon, Whole, is_in_line, sign_in}
use Rattle.ex_lexer.specs.declared.texts.Stop.{Stop}
use Rattle.ex_lexer.specs.declared.texts.Stop.TheVariants.{Quote, Hole, End, Escape}
use Rattle.ex_lexer.specs.declared.front.Class.{Class}
use Rattle.ex_lexer.specs.declared.front.Class.TheVariants as C
use Rattle.ex_lexer.specs.Runs.{Run, run, digits_at, name_len}

-- a piece of so many bytes, or a refusal so many bytes from the front
pub data Front : Type 0 where
  Takes : Piece → ℕ → Front
  Fails : ℕ → LexErrorKind → Front

-- what a byte begins, where a name begins with it or doesn't
abbrev pub class_of : ℕ → Bool → Class
class_of b name =
    if b == 32 || b == 9 then C.Blank
    else (if b == 35 then C.Hash
    else (if b == 10 then C.Feed
    else (if b == 13 then C.Return
    else (if b == 59 then C.Semicolon
    else (if b == 58 then C.Colon
    else (if is_digit b then C.Digit
    else (if is_capital b then C.Capital
    else (if name then C.Name
    else C.Other))))))))

abbrev pub fitting : Bool → ℕ → ℕ → Front
fitting true n len = Takes (Whole (Number n)) len
fitting false n len = Fails 0 TooWide

abbrev pub number_by : ℕ → List ℕ → List ℕ → Front
number_by len ds rest = if first_is is_letter (chars rest) then Fails 0 BadNumber else fitting (nat_lt (digits_value 10 ds) (2 ^ 127)) (digits_value 10 ds) len

-- how many bytes the blank of a key takes
abbrev pub blank_len : List ℕ → Option ℕ
blank_len [] = None
blank_len (b ∷ bytes) = if b == 32 || (b == 9 || b == 10) then Some 2 else (if b == 13 && first_is (λ c. c == 10) bytes then Some 3 else None)

-- how many bytes the `:` and the blank of a key take
abbrev pub key_len : List ℕ → Option ℕ
key_len [] = None
key_len (b ∷ bytes) = if b == 58 then blank_len bytes else None

abbrev pub after_first : List ℕ → List ℕ
after_first [] = []
after_first (b ∷ bytes) = bytes

abbrev pub word_by : Option Keyword → List ℕ → Bool → Token
word_by (Some k) x called = Word k
word_by None x true = Called x
word_by None x false = Name x

-- the token of a name, where this follows it, and how many bytes it takes
abbrev pub key_or_word : Option ℕ → List ℕ → List ℕ → ℕ → Front
key_or_word (Some more) x rest n = Takes (Whole (Key x)) (n + more)
key_or_word None x rest n = Takes (Whole (word_by (keyword_of x) x (first_is (λ b. b == 40) rest))) n

abbrev pub named_by : List ℕ → List ℕ → ℕ → Front
named_by x rest n = key_or_word (key_len rest) x rest n

abbrev pub name_by : List ℕ → Front
name_by all = named_by (take (name_len all) all) (drop (name_len all) all) (name_len all)

abbrev pub alias_by : List ℕ → Front
alias_by all = Takes (Whole (Alias (take (prefix_len is_alias_byte all) all))) (prefix_len is_alias_byte all)

abbrev pub digit_by : List ℕ → Front
digit_by all = number_by (digits_at all).0 (digits_at all).1 (drop (digits_at all).0 all)

abbrev pub return_by : List ℕ → Front
return_by bytes = if first_is (λ b. b == 10) bytes then Takes Newline 2 else Fails 0 BadChar

-- an atom's text after `:"`
abbrev pub quoted_by : Run → Stop → Front
quoted_by r Quote = Takes (Whole (Atom r.bytes)) (2 + (r.len + 1))
quoted_by r Hole = Fails 0 BadChar
quoted_by r End = Fails 1 OpenText
quoted_by r Escape = Fails 1 BadEscape

-- what stands after a `:`
abbrev pub atom_by : List ℕ → Front
atom_by bytes =
    if first_is (λ b. b == 34) bytes then quoted_by (run 0 (after_first bytes)) (run 0 (after_first bytes)).stop
    else (if first_is is_capital bytes then Takes (Whole (Atom (take (prefix_len is_alias_byte bytes) bytes))) (1 + prefix_len is_alias_byte bytes)
    else (if first_is begins_name (chars bytes) then Takes (Whole (Atom (take (name_len bytes) bytes))) (1 + name_len bytes)
    else Fails 0 BadChar))

-- a sign and how many bytes it has
abbrev pub sign_len : Option (List ℕ × Sign) → Option (Sign × ℕ)
sign_len None = None
sign_len (Some row) = Some (row.1, length row.0)

-- a sign with which no other begins
abbrev pub single_sign : ℕ → Option Sign
single_sign b =
    if b == 42 then Some S.Star
    else (if b == 94 then Some S.Caret
    else (if b == 44 then Some S.Comma
    else (if b == 40 then Some S.OpenParen
    else (if b == 41 then Some S.CloseParen
    else (if b == 91 then Some S.OpenBracket
    else (if b == 93 then Some S.CloseBracket
    else (if b == 123 then Some S.OpenBrace
    else (if b == 125 then Some S.CloseBrace
    else (if b == 46 then Some S.Dot
    else None)))))))))

abbrev pub signed_by : Option (List ℕ × Sign) → Front
signed_by None = Fails 0 BadChar
signed_by (Some row) = Takes (Whole (Mark row.1)) (length row.0)

abbrev pub front_by : Class → List ℕ → List ℕ → Front
front_by C.Blank all bytes = Takes Blank 1
front_by C.Hash all bytes = Takes Comment (prefix_len is_in_line all)
front_by C.Feed all bytes = Takes Newline 1
front_by C.Return all bytes = return_by bytes
front_by C.Semicolon all bytes = Takes Semicolon 1
front_by C.Colon all bytes = atom_by bytes
front_by C.Digit all bytes = digit_by all
front_by C.Capital all bytes = alias_by all
front_by C.Name all bytes = name_by all
front_by C.Other all bytes = signed_by (sign_in signs all)

-- what stands at the front of bytes that don't begin with `"`
abbrev pub front : List ℕ → Front
front [] = Fails 0 BadChar
front (b ∷ bytes) = front_by (class_of b (first_is begins_name (chars (b ∷ bytes)))) (b ∷ bytes) bytes
