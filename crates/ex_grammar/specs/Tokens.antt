-- Tokens, and the tables of signs and words.
use Rattle.std.specs.Prelude.{ℕ, List, [], ◌∷◌, Option, Some, None, codes, if◌then◌else◌}
use Rattle.std.specs.Str.{bytes_eq}
use Rattle.ex_grammar.specs.declared.token.Sign.{Sign}
use Rattle.ex_grammar.specs.declared.token.Sign.TheVariants.{Plus, Minus, Star, PlusPlus, LessGreater, Pipe, Less, Greater, LessEqual, GreaterEqual, EqualEqual, BangEqual, TripleEqual, BangEqualEqual, AndAnd, OrOr, Bang, Equals, Caret, LeftArrow, RightArrow, Bar, Comma, OpenParen, CloseParen, OpenBracket, CloseBracket, OpenBrace, CloseBrace, Dot}
use Rattle.ex_grammar.specs.declared.token.Keyword.{Keyword}
use Rattle.ex_grammar.specs.declared.token.Keyword.TheVariants as K

-- a token. Names and texts are lists of bytes, UTF-8; an atom has its text, a key its name
pub data Token : Type 0 where
  Number : ℕ → Token
  Name : List ℕ → Token
  -- a name that a `(` directly follows
  Called : List ℕ → Token
  Alias : List ℕ → Token
  Key : List ℕ → Token
  Atom : List ℕ → Token
  Word : Keyword → Token
  Mark : Sign → Token
  -- the `"` that begins a text, and what the text says up to its first `#{` or its end
  TextBegins : List ℕ → Token
  -- `#{`; the `}` that ends it, and what the text says from there up to its next `#{` or its end
  HoleBegins : Token
  HoleEnds : List ℕ → Token
  -- the `"` that ends a text
  TextEnds : Token
  -- what stands between expressions
  Separator : Token

-- a token where it stands: from a byte place up to the place after its last byte
pub record Placed : Type 0 where
  pub token : Token
  pub from : ℕ
  pub to : ℕ

-- the signs as they are written, the longest first
abbrev pub signs : List (List ℕ × Sign)
signs =
    (codes "===", TripleEqual) ∷ (codes "!==", BangEqualEqual)
    ∷ (codes "++", PlusPlus) ∷ (codes "<>", LessGreater) ∷ (codes "|>", Pipe) ∷ (codes "<=", LessEqual) ∷ (codes ">=", GreaterEqual) ∷ (codes "==", EqualEqual) ∷ (codes "!=", BangEqual)
    ∷ (codes "&&", AndAnd) ∷ (codes "||", OrOr) ∷ (codes "<-", LeftArrow) ∷ (codes "->", RightArrow)
    ∷ (codes "+", Plus) ∷ (codes "-", Minus) ∷ (codes "*", Star) ∷ (codes "<", Less) ∷ (codes ">", Greater) ∷ (codes "!", Bang) ∷ (codes "=", Equals) ∷ (codes "^", Caret) ∷ (codes "|", Bar)
    ∷ (codes ",", Comma) ∷ (codes "(", OpenParen) ∷ (codes ")", CloseParen) ∷ (codes "[", OpenBracket) ∷ (codes "]", CloseBracket) ∷ (codes "{", OpenBrace) ∷ (codes "}", CloseBrace) ∷ (codes ".", Dot) ∷ []

-- the words as they are written; the last five are without use
abbrev pub keywords : List (List ℕ × Keyword)
keywords =
    (codes "true", K.True) ∷ (codes "false", K.False) ∷ (codes "nil", K.Nil) ∷ (codes "and", K.And) ∷ (codes "or", K.Or) ∷ (codes "not", K.Not) ∷ (codes "in", K.In) ∷ (codes "do", K.Do) ∷ (codes "end", K.End) ∷ (codes "else", K.Else)
    ∷ (codes "if", K.If) ∷ (codes "case", K.Case) ∷ (codes "cond", K.Cond) ∷ (codes "for", K.For)
    ∷ (codes "when", K.When) ∷ (codes "fn", K.Fn) ∷ (codes "catch", K.Catch) ∷ (codes "rescue", K.Rescue) ∷ (codes "after", K.After) ∷ []

-- the word that a name is in a table, if it is one
abbrev pub word_in : List (List ℕ × Keyword) → List ℕ → Option Keyword
word_in [] name = None
word_in (row ∷ rows) name = if bytes_eq name row.0 then Some row.1 else word_in rows name

-- the word that a name is, if it is one
abbrev pub keyword_of : List ℕ → Option Keyword
keyword_of name = word_in keywords name
