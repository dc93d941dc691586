-- The levels that the code counts.
use Rattle.std.specs.Prelude.{◌≡◌, ℕ, List, [], ◌∷◌, ◌++◌}
use Rattle.ex_model.specs.Tokens as T
use Rattle.ex_model.specs.Tokens.{Token}
use Rattle.ex_model.specs.Nests.{Open, levels}
use Rattle.ex_source.specs.declared.lexeme.Lexeme.{Lexeme}
use Rattle.ex_source.specs.declared.lexeme.Lexeme.TheVariants as X
use Rattle.ex_source.specs.Lexemes.{mark_token}

-- a token of the same shape: what an integer's value and a name's bytes are doesn't count
abbrev pub shape : Lexeme → Token
shape (X.Integer z) = T.Number 0
shape (X.Name x) = T.Number 0
shape (X.Mark m) = mark_token m
shape X.Separator = T.Separator

-- the one list from the outside in is the other from the inside out
abbrev pub IsOuter : List ℕ → List ℕ → Type 0
IsOuter ns [] = ns ≡ []
IsOuter ns (n ∷ more) = (below : List ℕ) × (ns ≡ below ++ n ∷ []) × IsOuter below more

-- the code's counts are those of what is open
pub record IsOpen (count inner : ℕ) (outer : List ℕ) (open' : Open) : Type 0 where
  pub in_all : count ≡ levels open'
  pub innermost : inner ≡ open'.inner
  pub around : IsOuter outer open'.outer
