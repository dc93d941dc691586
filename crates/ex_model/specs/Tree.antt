-- Expressions as mathematics has them. A body is a list of trees.
use Rattle.std.specs.Prelude.{ℕ, List}
use Rattle.ex_model.specs.declared.ast.Operator.{Operator}

-- what stands left of a match
pub data Pattern : Type 0 where
  -- a name, which is bound: its bytes
  Named : List ℕ → Pattern

-- an expression
pub data Tree : Type 0 where
  -- an integer as it is written, below 2^127
  Integer : ℕ → Tree
  -- a name: its bytes
  Variable : List ℕ → Tree
  -- pattern = expression
  Match : Pattern → Tree → Tree
  -- an operator between two operands
  Binary : Operator → Tree → Tree → Tree
