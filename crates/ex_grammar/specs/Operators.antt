-- The operators: one row for each, with its token, its level, the side to which it groups, and what a newline does before it.
use Rattle.std.specs.Prelude.{ℕ, ◌+◌, Bool, true, false, Option, Some, None}
use Rattle.ex_grammar.specs.declared.token.Sign.TheVariants as S
use Rattle.ex_grammar.specs.declared.token.Keyword.TheVariants as K
use Rattle.ex_grammar.specs.declared.operators.Operator.{Operator}
use Rattle.ex_grammar.specs.declared.operators.Operator.TheVariants.{Or, StrictOr, And, StrictAnd, Equal, NotEqual, StrictEqual, StrictNotEqual, Less, Greater, LessOrEqual, GreaterOrEqual, Member, Join, Concat, Add, Subtract, Multiply}
use Rattle.ex_grammar.specs.declared.operators.Infix.{Infix}
use Rattle.ex_grammar.specs.declared.operators.Infix.TheVariants as I
use Rattle.ex_grammar.specs.declared.operators.Prefix.{Prefix}
use Rattle.ex_grammar.specs.declared.operators.Prefix.TheVariants.{Negate, Keep, Not, StrictNot}
use Rattle.ex_grammar.specs.Tokens.{Token, Mark, Word}

-- the levels, from the loosest to the tightest
abbrev pub match_level : ℕ
match_level = 0

abbrev pub or_level : ℕ
or_level = 1

abbrev pub and_level : ℕ
and_level = 2

abbrev pub equality_level : ℕ
equality_level = 3

abbrev pub comparison_level : ℕ
comparison_level = 4

abbrev pub pipe_level : ℕ
pipe_level = 5

abbrev pub membership_level : ℕ
membership_level = 6

abbrev pub joining_level : ℕ
joining_level = 7

abbrev pub sum_level : ℕ
sum_level = 8

abbrev pub product_level : ℕ
product_level = 9

abbrev pub unary_level : ℕ
unary_level = 10

abbrev pub primary_level : ℕ
primary_level = 11

-- the side to which an operator groups: `a - b - c` is `(a - b) - c`, and `a ++ b ++ c` is `a ++ (b ++ c)`
pub data Side : Type 0 where
  ToLeft : Side
  ToRight : Side

-- a row of the table; `continues`: whether a line that begins with the operator goes on with the line before
pub record Row : Type 0 where
  pub level : ℕ
  pub groups : Side
  pub continues : Bool

abbrev row : ℕ → Side → Bool → Row
row level groups continues = record { level = level; groups = groups; continues = continues }

-- the table
abbrev pub row_of : Infix → Row
row_of I.Match = row match_level ToRight true
row_of (I.Operator Or) = row or_level ToLeft true
row_of (I.Operator StrictOr) = row or_level ToLeft true
row_of (I.Operator And) = row and_level ToLeft true
row_of (I.Operator StrictAnd) = row and_level ToLeft true
row_of (I.Operator Equal) = row equality_level ToLeft true
row_of (I.Operator NotEqual) = row equality_level ToLeft true
row_of (I.Operator StrictEqual) = row equality_level ToLeft true
row_of (I.Operator StrictNotEqual) = row equality_level ToLeft true
row_of (I.Operator Less) = row comparison_level ToLeft true
row_of (I.Operator Greater) = row comparison_level ToLeft true
row_of (I.Operator LessOrEqual) = row comparison_level ToLeft true
row_of (I.Operator GreaterOrEqual) = row comparison_level ToLeft true
row_of I.Pipe = row pipe_level ToLeft true
row_of (I.Operator Member) = row membership_level ToLeft true
row_of (I.Operator Join) = row joining_level ToRight true
row_of (I.Operator Concat) = row joining_level ToRight true
row_of (I.Operator Add) = row sum_level ToLeft false
row_of (I.Operator Subtract) = row sum_level ToLeft false
row_of (I.Operator Multiply) = row product_level ToLeft true

-- the token of each
abbrev pub infix_token : Infix → Token
infix_token I.Match = Mark S.Equals
infix_token (I.Operator Or) = Mark S.OrOr
infix_token (I.Operator StrictOr) = Word K.Or
infix_token (I.Operator And) = Mark S.AndAnd
infix_token (I.Operator StrictAnd) = Word K.And
infix_token (I.Operator Equal) = Mark S.EqualEqual
infix_token (I.Operator NotEqual) = Mark S.BangEqual
infix_token (I.Operator StrictEqual) = Mark S.TripleEqual
infix_token (I.Operator StrictNotEqual) = Mark S.BangEqualEqual
infix_token (I.Operator Less) = Mark S.Less
infix_token (I.Operator Greater) = Mark S.Greater
infix_token (I.Operator LessOrEqual) = Mark S.LessEqual
infix_token (I.Operator GreaterOrEqual) = Mark S.GreaterEqual
infix_token I.Pipe = Mark S.Pipe
infix_token (I.Operator Member) = Word K.In
infix_token (I.Operator Join) = Mark S.PlusPlus
infix_token (I.Operator Concat) = Mark S.LessGreater
infix_token (I.Operator Add) = Mark S.Plus
infix_token (I.Operator Subtract) = Mark S.Minus
infix_token (I.Operator Multiply) = Mark S.Star

-- and back: what a token is between two operands
abbrev pub infix_of : Token → Option Infix
infix_of (Mark S.Equals) = Some I.Match
infix_of (Mark S.OrOr) = Some (I.Operator Or)
infix_of (Word K.Or) = Some (I.Operator StrictOr)
infix_of (Mark S.AndAnd) = Some (I.Operator And)
infix_of (Word K.And) = Some (I.Operator StrictAnd)
infix_of (Mark S.EqualEqual) = Some (I.Operator Equal)
infix_of (Mark S.BangEqual) = Some (I.Operator NotEqual)
infix_of (Mark S.TripleEqual) = Some (I.Operator StrictEqual)
infix_of (Mark S.BangEqualEqual) = Some (I.Operator StrictNotEqual)
infix_of (Mark S.Less) = Some (I.Operator Less)
infix_of (Mark S.Greater) = Some (I.Operator Greater)
infix_of (Mark S.LessEqual) = Some (I.Operator LessOrEqual)
infix_of (Mark S.GreaterEqual) = Some (I.Operator GreaterOrEqual)
infix_of (Mark S.Pipe) = Some I.Pipe
infix_of (Word K.In) = Some (I.Operator Member)
infix_of (Mark S.PlusPlus) = Some (I.Operator Join)
infix_of (Mark S.LessGreater) = Some (I.Operator Concat)
infix_of (Mark S.Plus) = Some (I.Operator Add)
infix_of (Mark S.Minus) = Some (I.Operator Subtract)
infix_of (Mark S.Star) = Some (I.Operator Multiply)
infix_of t = None

-- the operators before one operand
abbrev pub prefix_token : Prefix → Token
prefix_token Negate = Mark S.Minus
prefix_token Keep = Mark S.Plus
prefix_token Not = Mark S.Bang
prefix_token StrictNot = Word K.Not

-- and back: what a token is before an operand
abbrev pub prefix_of : Token → Option Prefix
prefix_of (Mark S.Minus) = Some Negate
prefix_of (Mark S.Plus) = Some Keep
prefix_of (Mark S.Bang) = Some Not
prefix_of (Word K.Not) = Some StrictNot
prefix_of t = None

-- the level of what stands left and right of an operator
abbrev pub left_by : ℕ → Side → ℕ
left_by level ToLeft = level
left_by level ToRight = level + 1

abbrev pub right_by : ℕ → Side → ℕ
right_by level ToLeft = level + 1
right_by level ToRight = level

abbrev pub level : Operator → ℕ
level o = (row_of (I.Operator o)).level

abbrev pub left : Operator → ℕ
left o = left_by (level o) (row_of (I.Operator o)).groups

abbrev pub right : Operator → ℕ
right o = right_by (level o) (row_of (I.Operator o)).groups
