-- Which newlines separate expressions, and which are dropped.
use Rattle.std.specs.Prelude.{◌≡◌, ℕ, ◌||◌, Bool, true, false, if◌then◌else◌, List, [], ◌∷◌, ◌++◌, Option, Some, None}
use Rattle.ex_model.specs.declared.ast.Operator.TheVariants.{Multiply}
use Rattle.ex_model.specs.Tokens.{Token, Sign, Equals, Opening, Closing, Separator}
use Rattle.ex_model.specs.Lexing.{Piece, Blank, Comment, Newline, Semicolon, Whole, Pieces}

-- a newline is dropped after a binary operator and after `(`
abbrev pub drops_after : Option Token → Bool
drops_after (Some (Sign o)) = true
drops_after (Some Equals) = true
drops_after (Some Opening) = true
drops_after t = false

-- and before `)`, and before a line that begins with `*` or `=`; a line that begins with `+` or `-` is a new expression
abbrev pub drops_before : Option Token → Bool
drops_before (Some Closing) = true
drops_before (Some (Sign Multiply)) = true
drops_before (Some Equals) = true
drops_before t = false

-- what separates two tokens: nothing, newlines alone, or newlines and `;` with at least one `;`
pub data Gap : Type 0 where
  Nothing : Gap
  Newlines : Gap
  Semicolons : Gap

-- the gap with a newline more
abbrev pub with_newline : Gap → Gap
with_newline Semicolons = Semicolons
with_newline gap = Newlines

-- the separator that a gap gives between two tokens, or at an end of the source: one at most, and none where all of it is dropped
abbrev pub separators : Option Token → Gap → Option Token → List Token
separators before Nothing after = []
separators before Newlines after = if drops_after before || drops_before after then [] else Separator ∷ []
separators before Semicolons after = Separator ∷ []

-- the tokens of the pieces that follow a token, or the source's begin, and a gap after it
abbrev pub tokens_after : Option Token → Gap → List Piece → List Token
tokens_after before gap [] = separators before gap None
tokens_after before gap (Blank ∷ ps) = tokens_after before gap ps
tokens_after before gap (Comment ∷ ps) = tokens_after before gap ps
tokens_after before gap (Newline ∷ ps) = tokens_after before (with_newline gap) ps
tokens_after before gap (Semicolon ∷ ps) = tokens_after before Semicolons ps
tokens_after before gap (Whole t ∷ ps) = separators before gap (Some t) ++ t ∷ tokens_after (Some t) Nothing ps

-- the tokens of all pieces of a source
abbrev pub tokens_of : List Piece → List Token
tokens_of ps = tokens_after None Nothing ps

-- the source has these tokens
pub record Lexes (source : List ℕ) (tokens : List Token) : Type 0 where
  pub pieces : List Piece
  pub cut : Pieces source pieces
  pub tokens_are : tokens ≡ tokens_of pieces
