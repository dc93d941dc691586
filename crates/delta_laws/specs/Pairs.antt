-- What the calls of the laws say of their two texts.
use Rattle.std.specs.Prelude.{◌≡◌, ℕ, Bool, true, false, List}
use Rattle.delta.specs.declared.Step.{Step}
use Rattle.delta.specs.Moves.{text_after, composed, transformed}
use Rattle.delta_laws.specs.Laws.{IsPairMoved, IsPairComposed}
use Rattle.delta_laws.specs.declared.Pair.{Pair}

-- the text that one delta makes of a text, and then another as it goes after it
abbrev pub text_in_order : Bool → List Step → List Step → List ℕ → List ℕ
text_in_order later_first one later t = text_after (transformed later_first one later) (text_after one t)

-- a and then b as it goes after a; b and then a as it goes after b; a's insert first in a tie
pub record IsBothOrders (t : List ℕ) (a b : List Step) (pair : Pair) : Type 0 where
  pub one : pair.one ≡ text_in_order false a b t
  pub other : pair.other ≡ text_in_order true b a t
  pub same : pair.one ≡ pair.other
  pub moved : IsPairMoved false a b t

-- a and then b one by one; both as one delta
pub record IsInTwo (t : List ℕ) (a b : List Step) (pair : Pair) : Type 0 where
  pub one : pair.one ≡ text_after b (text_after a t)
  pub other : pair.other ≡ text_after (composed a b) t
  pub same : pair.one ≡ pair.other
  pub composed : IsPairComposed a b t
