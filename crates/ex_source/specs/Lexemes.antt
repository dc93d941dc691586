-- What the tokens and the pieces of the code stand for.
use Rattle.std.specs.Prelude.{◌<◌, ◌^◌, ℕ, pos, List, [], ◌∷◌}
use Rattle.ex_model.specs.Tokens as T
use Rattle.ex_model.specs.Tokens.{Token}
use Rattle.ex_model.specs.Lexing as L
use Rattle.ex_model.specs.Lexing.{Piece}
use Rattle.ex_source.specs.declared.lexeme.Lexeme.{Lexeme}
use Rattle.ex_source.specs.declared.lexeme.Lexeme.TheVariants.{Integer, Name, Mark, Separator}
use Rattle.ex_source.specs.declared.lexeme.Mark.{Mark as SignMark}
use Rattle.ex_source.specs.declared.lexeme.Mark.TheVariants.{Sign, Equals, Opening, Closing}
use Rattle.ex_source.specs.declared.lexeme.Part.{Part}
use Rattle.ex_source.specs.declared.lexeme.Part.TheVariants.{Blank, Newline, Semicolon, Whole}

-- the token of a sign
abbrev pub mark_token : SignMark → Token
mark_token (Sign o) = T.Sign o
mark_token Equals = T.Equals
mark_token Opening = T.Opening
mark_token Closing = T.Closing

-- the code's token is this one
pub data IsLexeme : Lexeme → Token → Type 0 where
  is_integer : {n : ℕ} → n < 2 ^ 127 → IsLexeme (Integer (pos n)) (T.Number n)
  is_name : {x : List ℕ} → IsLexeme (Name x) (T.Name x)
  is_mark : {m : SignMark} → IsLexeme (Mark m) (mark_token m)
  is_separator : IsLexeme Separator T.Separator

-- the same of pieces
pub data IsPart : Part → Piece → Type 0 where
  is_blank : IsPart Blank L.Blank
  is_comment : IsPart Blank L.Comment
  is_newline : IsPart Newline L.Newline
  is_semicolon : IsPart Semicolon L.Semicolon
  is_whole : {x : Lexeme} {t : Token} → IsLexeme x t → IsPart (Whole x) (L.Whole t)

-- the code's tokens are these, one for one
abbrev pub AreLexemes : List Lexeme → List Token → Type 0
AreLexemes [] [] = Unit {0}
AreLexemes [] (t ∷ ts) = ⊥
AreLexemes (x ∷ xs) [] = ⊥
AreLexemes (x ∷ xs) (t ∷ ts) = IsLexeme x t × AreLexemes xs ts
