-- The levels that the code counts.
use Rattle.std.specs.Prelude.{◌≡◌, ℕ, Bool, true, false, List, [], ◌∷◌, ◌++◌}
use Rattle.ex_grammar.specs.Nests as G
use Rattle.ex_grammar.specs.Nests.{Open, levels, opened, ended, begun, closed, hole_closed}
use Rattle.ex_parser.specs.declared.nesting.Opener.{Opener}
use Rattle.ex_parser.specs.declared.nesting.Opener.TheVariants.{Bracket, Hole}
use Rattle.ex_parser.specs.declared.nesting.Turn.{Turn}
use Rattle.ex_parser.specs.declared.nesting.Turn.TheVariants.{Opens, Does, Closes, ClosesHole, Ends, Begins, Rests}

abbrev pub opener_of : Opener → G.Opener
opener_of Bracket = G.Bracket
opener_of Hole = G.Hole

-- what a turn does to what is open
abbrev pub turned : Turn → Open → Open
turned (Opens o) before = opened (opener_of o) before
turned Does before = opened G.Bracket (ended before)
turned Closes before = closed before.outer
turned ClosesHole before = hole_closed before.outer
turned Ends before = ended before
turned Begins before = begun before
turned Rests before = before

-- the innermost bracket level was left
abbrev pub left : List (G.Opener × ℕ) → Open
left [] = record { inner = 0; outer = [] }
left (o ∷ os) = record { inner = o.1; outer = os }

-- a bracket or `do` opened the innermost level
abbrev pub in_bracket : List (G.Opener × ℕ) → Bool
in_bracket [] = false
in_bracket ((G.Bracket, n) ∷ os) = true
in_bracket ((G.Hole, n) ∷ os) = false

-- the one list from the outside in is the other from the inside out
abbrev pub IsOuter : List (Opener × ℕ) → List (G.Opener × ℕ) → Type 0
IsOuter ns [] = ns ≡ []
IsOuter ns (o ∷ os) = (below : List (Opener × ℕ)) × (p : Opener) × (ns ≡ below ++ (p, o.1) ∷ []) × (opener_of p ≡ o.0) × IsOuter below os

-- the code's counts are those of what is open
pub record IsOpen (count inner : ℕ) (outer : List (Opener × ℕ)) (open' : Open) : Type 0 where
  pub in_all : count ≡ levels open'
  pub innermost : inner ≡ open'.inner
  pub around : IsOuter outer open'.outer
