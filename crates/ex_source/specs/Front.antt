-- What stands at the front of a source, computed.
use Rattle.std.specs.Prelude.{ℕ, ◌^◌, ◌==◌, ◌&&◌, ◌||◌, not, nat_lt, if◌then◌else◌, Bool, false, List, [], ◌∷◌, take, Option, Some, None, option_map}
use Rattle.std.specs.List.{list_all, prefix_len}
use Rattle.std.specs.Str.Parse.{digits_value}
use Rattle.ex_model.specs.declared.ast.Operator.TheVariants.{Add, Subtract, Multiply}
use Rattle.ex_model.specs.Tokens.{Token, Number, Name, is_digit, is_word_byte, is_name, is_keyword}
use Rattle.ex_model.specs.Lexing.{Piece, Blank, Comment, Newline, Semicolon, Whole, is_in_line, goes_on}
use Rattle.ex_source.specs.declared.lexeme.Mark.TheVariants.{Sign, Equals, Opening, Closing}
use Rattle.ex_source.specs.declared.front.Kind.{Kind}
use Rattle.ex_source.specs.declared.front.Kind.TheVariants as K
use Rattle.ex_source.specs.Lexemes.{mark_token}

-- what a byte begins
abbrev pub kind_of : ℕ → Kind
kind_of b =
    if is_word_byte b then K.Word
    else (if b == 32 || b == 9 then K.Blank
    else (if b == 35 then K.Hash
    else (if b == 10 then K.Feed
    else (if b == 13 then K.Return
    else (if b == 59 then K.Semicolon
    else (if b == 43 then K.Mark (Sign Add)
    else (if b == 45 then K.Mark (Sign Subtract)
    else (if b == 42 then K.Mark (Sign Multiply)
    else (if b == 61 then K.Mark Equals
    else (if b == 40 then K.Mark Opening
    else (if b == 41 then K.Mark Closing
    else K.Other)))))))))))

-- whether a byte that passes stands first
abbrev pub first_is : (ℕ → Bool) → List ℕ → Bool
first_is passes [] = false
first_is passes (b ∷ bytes) = passes b

-- the token of a run of letters, digits and `_`
abbrev pub word_token : List ℕ → Option Token
word_token word =
    if first_is is_digit word
    then (if list_all is_digit word && nat_lt (digits_value 10 word) (2 ^ 127) then Some (Number (digits_value 10 word)) else None)
    else (if is_name word && not (is_keyword word) then Some (Name word) else None)

-- the piece, and how many bytes it takes
abbrev pub front_by : Kind → List ℕ → List ℕ → Option (Piece × ℕ)
front_by K.Word all bytes = option_map (λ t. (Whole t, prefix_len is_word_byte all)) (word_token (take (prefix_len is_word_byte all) all))
front_by K.Blank all bytes = Some (Blank, 1)
front_by K.Hash all bytes = Some (Comment, prefix_len is_in_line all)
front_by K.Feed all bytes = Some (Newline, 1)
front_by K.Return all bytes = if first_is (λ b. b == 10) bytes then Some (Newline, 2) else None
front_by K.Semicolon all bytes = Some (Semicolon, 1)
front_by (K.Mark m) all bytes = if first_is (goes_on (Whole (mark_token m))) bytes then None else Some (Whole (mark_token m), 1)
front_by K.Other all bytes = None

-- the piece at the front of the bytes, and how many bytes it takes
abbrev pub front : List ℕ → Option (Piece × ℕ)
front [] = None
front (b ∷ bytes) = front_by (kind_of b) (b ∷ bytes) bytes
