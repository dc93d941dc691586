-- What a source is read as.
use Rattle.std.specs.Prelude.{ℕ, ◌≤◌, List}
use Rattle.std.specs.List.{AllByRecursion}
use Rattle.ex_model.specs.Tokens.{Token}
use Rattle.ex_model.specs.Newlines.{Lexes}
use Rattle.ex_model.specs.Nests.{nests}
use Rattle.ex_model.specs.Tree.{Tree}
use Rattle.ex_model.specs.Grammar.{Top}

-- at most 256 levels are open at each token
abbrev pub NestsWithin : List Token → Type 0
NestsWithin ts = AllByRecursion (λ n. n ≤ 256) (nests ts)

-- the source, a list of bytes, reads as these expressions: it has tokens, they nest at most 256 levels deep, and they derive the expressions
pub record Reads (source : List ℕ) (trees : List Tree) : Type 0 where
  pub tokens : List Token
  pub lexes : Lexes source tokens
  pub nests_within : NestsWithin tokens
  pub derives : Top tokens trees
