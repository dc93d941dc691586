-- What the parts of the code stand for.
use Rattle.std.specs.Prelude.{ℕ}
use Rattle.ex_grammar.specs.declared.token.LexErrorKind.{LexErrorKind}
use Rattle.ex_grammar.specs.Tokens.{Token}
use Rattle.ex_grammar.specs.declared.token.TokenKind.{TokenKind}
use Rattle.ex_grammar.specs.Lexing as L
use Rattle.ex_grammar.specs.Lexing.{Piece}
use Rattle.ex_grammar.specs.Coded.{IsToken}
use Rattle.ex_lexer.specs.declared.front.Part.{Part}
use Rattle.ex_lexer.specs.declared.front.Part.TheVariants.{Blank, Newline, Semicolon, Whole}
use Rattle.ex_lexer.specs.declared.front.Front.{Front as CodeFront}
use Rattle.ex_lexer.specs.declared.front.Front.TheVariants as F
use Rattle.ex_lexer.specs.Front.{Front, Takes, Fails}

-- the code's part is this piece
pub data IsPart : Part → Piece → Type 0 where
  is_blank : IsPart Blank L.Blank
  is_comment : IsPart Blank L.Comment
  is_newline : IsPart Newline L.Newline
  is_semicolon : IsPart Semicolon L.Semicolon
  is_whole : {x : TokenKind} {t : Token} → IsToken x t → IsPart (Whole x) (L.Whole t)

-- the code found this at a front
pub data IsFront : CodeFront → Front → Type 0 where
  takes : {x : Part} {p : Piece} {n : ℕ} → IsPart x p → IsFront (F.Takes x n) (Takes p n)
  fails : {n : ℕ} {k : LexErrorKind} → IsFront (F.Fails n k) (Fails n k)
