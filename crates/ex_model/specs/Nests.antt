-- How many levels of nesting are open at each token.
use Rattle.std.specs.Prelude.{ℕ, ◌+◌, List, [], ◌∷◌, length, sum}
use Rattle.ex_model.specs.Tokens.{Token, Sign, Equals, Opening, Closing, Separator}

-- the operators whose stretches go on: how many stand on the innermost bracket level, and how many on each of those around it, from the inside out
pub record Open : Type 0 where
  pub inner : ℕ
  pub outer : List ℕ

-- the levels that are open: one for each bracket, and one for each of these operators
abbrev pub levels : Open → ℕ
levels open' = open'.inner + (length open'.outer + sum open'.outer)

-- `)` closes the innermost bracket level; where none is open it closes nothing and ends the stretches there
abbrev pub closed : List ℕ → Open
closed [] = record { inner = 0; outer = [] }
closed (n ∷ ns) = record { inner = n; outer = ns }

-- what is open at a token, where this was open before: `(` opens a level, an operator opens one until its stretch ends, and a separator ends the stretches of the level on which it stands
abbrev pub open_at : Open → Token → Open
open_at before Opening = record { inner = 0; outer = before.inner ∷ before.outer }
open_at before Closing = closed before.outer
open_at before (Sign o) = record { inner = before.inner + 1; outer = before.outer }
open_at before Equals = record { inner = before.inner + 1; outer = before.outer }
open_at before Separator = record { inner = 0; outer = before.outer }
open_at before t = before

-- the number of levels open at each token, where this was open before the first
abbrev pub nests_from : Open → List Token → List ℕ
nests_from before [] = []
nests_from before (t ∷ ts) = levels (open_at before t) ∷ nests_from (open_at before t) ts

-- the number of levels open at each token
abbrev pub nests : List Token → List ℕ
nests ts = nests_from (record { inner = 0; outer = [] }) ts
