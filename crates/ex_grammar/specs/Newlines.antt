-- Which newlines separate expressions, and which are dropped.
use Rattle.std.specs.Prelude.{◌≡◌, ℕ, ◌||◌, Bool, true, false, if◌then◌else◌, List, [], ◌∷◌, ◌++◌, map, Option, Some, None}
use Rattle.ex_grammar.specs.declared.token.Sign.TheVariants as S
use Rattle.ex_grammar.specs.declared.operators.Infix.{Infix}
use Rattle.ex_grammar.specs.declared.operators.Prefix.{Prefix}
use Rattle.ex_grammar.specs.Tokens.{Token, Mark, HoleEnds, Separator, Placed}
use Rattle.ex_grammar.specs.Operators.{infix_of, prefix_of, row_of}
use Rattle.ex_grammar.specs.Lexing.{Piece, Blank, Comment, Newline, Semicolon, Whole, Part, Cut}

abbrev pub is_infix : Option Infix → Bool
is_infix None = false
is_infix (Some i) = true

abbrev pub is_prefix : Option Prefix → Bool
is_prefix None = false
is_prefix (Some p) = true

abbrev pub continues_by : Option Infix → Bool
continues_by None = false
continues_by (Some i) = (row_of i).continues

-- the signs `,` `(` `[` `{` `|` `<-` `.`
abbrev pub asks_for_more : Token → Bool
asks_for_more (Mark S.Comma) = true
asks_for_more (Mark S.OpenParen) = true
asks_for_more (Mark S.OpenBracket) = true
asks_for_more (Mark S.OpenBrace) = true
asks_for_more (Mark S.Bar) = true
asks_for_more (Mark S.LeftArrow) = true
asks_for_more (Mark S.Dot) = true
asks_for_more t = false

-- `)` `]` `}`, and the `}` of a `#{`
abbrev pub is_closing : Token → Bool
is_closing (Mark S.CloseParen) = true
is_closing (Mark S.CloseBracket) = true
is_closing (Mark S.CloseBrace) = true
is_closing (HoleEnds bytes) = true
is_closing t = false

-- a newline is dropped after an operator, binary or unary, and after a sign that asks for more
abbrev pub drops_after : Option Token → Bool
drops_after None = false
drops_after (Some t) = is_infix (infix_of t) || (is_prefix (prefix_of t) || asks_for_more t)

-- and before a closing sign, and before a line that begins with an operator that continues the line before
abbrev pub drops_before : Option Token → Bool
drops_before None = false
drops_before (Some t) = is_closing t || continues_by (infix_of t)

-- what separates two tokens: nothing, newlines alone, or newlines and `;` with at least one `;`; and its place, from the first to the last of them
pub data Gap : Type 0 where
  Nothing : Gap
  Newlines : ℕ → ℕ → Gap
  Semicolons : ℕ → ℕ → Gap

-- the gap with a newline more, and with a `;` more
abbrev pub with_newline : Gap → ℕ → ℕ → Gap
with_newline Nothing from to = Newlines from to
with_newline (Newlines first last) from to = Newlines first to
with_newline (Semicolons first last) from to = Semicolons first to

abbrev pub with_semicolon : Gap → ℕ → ℕ → Gap
with_semicolon Nothing from to = Semicolons from to
with_semicolon (Newlines first last) from to = Semicolons first to
with_semicolon (Semicolons first last) from to = Semicolons first to

abbrev pub placed : Token → ℕ → ℕ → Placed
placed t from to = record { token = t; from = from; to = to }

-- the separator that a gap gives between two tokens, or at an end of the source: one at most, and none where all of it is dropped
abbrev pub separators : Option Token → Gap → Option Token → List Placed
separators before Nothing after = []
separators before (Newlines from to) after = if drops_after before || drops_before after then [] else placed Separator from to ∷ []
separators before (Semicolons from to) after = placed Separator from to ∷ []

-- the token before, and the gap, after a part more
abbrev pub before_by : Option Token → Piece → Option Token
before_by before (Whole t) = Some t
before_by before p = before

abbrev pub gap_by : Gap → Piece → ℕ → ℕ → Gap
gap_by gap Blank from to = gap
gap_by gap Comment from to = gap
gap_by gap Newline from to = with_newline gap from to
gap_by gap Semicolon from to = with_semicolon gap from to
gap_by gap (Whole t) from to = Nothing

-- what a part gives: a token, after the separator that stands before it, if one does
abbrev pub given_by : Option Token → Gap → Piece → ℕ → ℕ → List Placed
given_by before gap (Whole t) from to = separators before gap (Some t) ++ placed t from to ∷ []
given_by before gap p from to = []

-- the tokens of the parts that follow a token, or the source's begin, and a gap after it
abbrev pub tokens_after : Option Token → Gap → List Part → List Placed
tokens_after before gap [] = separators before gap None
tokens_after before gap (p ∷ ps) = given_by before gap p.piece p.from p.to ++ tokens_after (before_by before p.piece) (gap_by gap p.piece p.from p.to) ps

-- the tokens of all parts of a source
abbrev pub tokens_of : List Part → List Placed
tokens_of ps = tokens_after None Nothing ps

-- the source has these tokens
pub record Lexes (source : List ℕ) (tokens : List Placed) : Type 0 where
  pub parts : List Part
  pub end : ℕ
  pub cut : Cut 0 source parts end []
  pub tokens_are : tokens ≡ tokens_of parts

-- the tokens without their places
abbrev pub bare : List Placed → List Token
bare ts = map (λ t. t.token) ts
