-- How many levels of nesting are open at each token.
use Rattle.std.specs.Prelude.{ℕ, ◌+◌, List, [], ◌∷◌, length, Option, Some, None}
use Rattle.ex_grammar.specs.declared.token.Sign.TheVariants as S
use Rattle.ex_grammar.specs.declared.token.Keyword.TheVariants as K
use Rattle.ex_grammar.specs.declared.operators.Infix.{Infix}
use Rattle.ex_grammar.specs.declared.operators.Prefix.{Prefix}
use Rattle.ex_grammar.specs.Tokens.{Token, Mark, Word, HoleBegins, HoleEnds, Separator}
use Rattle.ex_grammar.specs.Operators.{infix_of, prefix_of}

-- what opened a level: `(`, `[`, `{` or `do`; or `#{`
pub data Opener : Type 0 where
  Bracket : Opener
  Hole : Opener

-- the operators whose stretches go on: how many stand on the innermost bracket level; and for each bracket level that is open,
-- from the inside out, what opened it and how many stand on the level around it
pub record Open : Type 0 where
  pub inner : ℕ
  pub outer : List (Opener × ℕ)

abbrev pub around : List (Opener × ℕ) → ℕ
around [] = 0
around (o ∷ os) = o.1 + around os

-- the levels that are open: one for each bracket, and one for each of these operators
abbrev pub levels : Open → ℕ
levels open' = open'.inner + (length open'.outer + around open'.outer)

abbrev at_level : ℕ → List (Opener × ℕ) → Open
at_level inner outer = record { inner = inner; outer = outer }

-- a level is opened
abbrev pub opened : Opener → Open → Open
opened o before = at_level 0 ((o, before.inner) ∷ before.outer)

-- the stretches of the bracket level on which the token stands end
abbrev pub ended : Open → Open
ended before = at_level 0 before.outer

-- an operator's stretch begins
abbrev pub begun : Open → Open
begun before = at_level (before.inner + 1) before.outer

-- a closing sign or `end` closes the innermost bracket level; where none is open, or none within the `#{`, it closes nothing and ends the stretches there
abbrev pub closed : List (Opener × ℕ) → Open
closed [] = at_level 0 []
closed ((Bracket, n) ∷ outer) = at_level n outer
closed ((Hole, n) ∷ outer) = at_level 0 ((Hole, n) ∷ outer)

-- the `}` of a `#{` closes that and all that is open inside it
abbrev pub hole_closed : List (Opener × ℕ) → Open
hole_closed [] = at_level 0 []
hole_closed ((Bracket, n) ∷ outer) = hole_closed outer
hole_closed ((Hole, n) ∷ outer) = at_level n outer

-- an operator, binary or unary, opens a level
abbrev begun_by : Option Infix → Option Prefix → Open → Open
begun_by None None before = before
begun_by None (Some p) before = begun before
begun_by (Some i) p before = begun before

-- what is open at a token, where this was open before
abbrev pub open_at : Open → Token → Open
-- `(`, `[`, `{` and `#{` open a level
open_at before (Mark S.OpenParen) = opened Bracket before
open_at before (Mark S.OpenBracket) = opened Bracket before
open_at before (Mark S.OpenBrace) = opened Bracket before
open_at before HoleBegins = opened Hole before
-- so does `do`, which ends the stretches of the level on which it stands
open_at before (Word K.Do) = opened Bracket (ended before)
-- what closes
open_at before (Mark S.CloseParen) = closed before.outer
open_at before (Mark S.CloseBracket) = closed before.outer
open_at before (Mark S.CloseBrace) = closed before.outer
open_at before (Word K.End) = closed before.outer
open_at before (HoleEnds bytes) = hole_closed before.outer
-- what ends the stretches of the level on which it stands
open_at before Separator = ended before
open_at before (Mark S.Comma) = ended before
open_at before (Mark S.Bar) = ended before
open_at before (Mark S.RightArrow) = ended before
open_at before (Mark S.LeftArrow) = ended before
open_at before (Word K.Else) = ended before
-- an operator; any other token changes nothing
open_at before t = begun_by (infix_of t) (prefix_of t) before

-- nothing is open at the source's begin
abbrev pub nothing_open : Open
nothing_open = at_level 0 []

-- the number of levels open at each token, where this was open before the first
abbrev pub nests_from : Open → List Token → List ℕ
nests_from before [] = []
nests_from before (t ∷ ts) = levels (open_at before t) ∷ nests_from (open_at before t) ts

abbrev pub nests : List Token → List ℕ
nests ts = nests_from nothing_open ts
