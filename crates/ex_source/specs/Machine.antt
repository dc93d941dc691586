-- Reading one expression, as a machine: a stack of what is begun, and the tokens that are left.
use Rattle.std.specs.Prelude.{ℕ, List, [], ◌∷◌, nat_le, if◌then◌else◌}
use Rattle.ex_model.specs.declared.ast.Operator.{Operator}
use Rattle.ex_model.specs.Tokens.{Token, Number, Name, Sign, Equals, Opening, Closing}
use Rattle.ex_model.specs.Tree.{Tree, Integer, Variable, Match, Binary, Named}
use Rattle.ex_model.specs.Grammar.{match_level, level, right}

-- what is begun and waits for an expression: the right side of an operator, or of a match, or what a bracket holds
pub data Frame : Type 0 where
  Operand : Operator → Tree → Frame
  Matched : List ℕ → Frame
  Bracket : Frame

-- an expression is wanted, or was read; or the machine is at its end
pub data State : Type 0 where
  Want : List Frame → List Token → State
  Have : List Frame → Tree → List Token → State
  Done : Tree → List Token → State
  Stuck : State

-- the loosest level that may stand here
abbrev pub floor : List Frame → ℕ
floor [] = match_level
floor (Operand o a ∷ s) = right o
floor (Matched x ∷ s) = match_level
floor (Bracket ∷ s) = match_level

-- the topmost thing that was begun is complete
abbrev pub reduce : List Frame → Tree → List Token → State
reduce [] t ts = Done t ts
reduce (Operand o a ∷ s) t ts = Have s (Binary o a t) ts
reduce (Matched x ∷ s) t ts = Have s (Match (Named x) t) ts
reduce (Bracket ∷ s) t ts = Stuck

-- the first token of an expression
abbrev pub want : List Frame → List Token → State
want s [] = Stuck
want s (Number n ∷ ts) = Have s (Integer n) ts
want s (Name x ∷ Equals ∷ ts) = if nat_le (floor s) match_level then Want (Matched x ∷ s) ts else Stuck
want s (Name x ∷ ts) = Have s (Variable x) ts
want s (Opening ∷ ts) = Want (Bracket ∷ s) ts
want s (t ∷ ts) = Stuck

abbrev pub at_closing : List Frame → Tree → List Token → State
at_closing (Bracket ∷ s) t ts = Have s t ts
at_closing s t ts = reduce s t (Closing ∷ ts)

abbrev pub at_sign : List Frame → Tree → Operator → List Token → State
at_sign s t o ts = if nat_le (floor s) (level o) then Want (Operand o t ∷ s) ts else reduce s t (Sign o ∷ ts)

-- what follows an expression
abbrev pub have : List Frame → Tree → List Token → State
have s t (Sign o ∷ ts) = at_sign s t o ts
have s t (Closing ∷ ts) = at_closing s t ts
have s t ts = reduce s t ts

abbrev pub step : State → State
step (Want s ts) = want s ts
step (Have s t ts) = have s t ts
step (Done t ts) = Done t ts
step Stuck = Stuck

-- the machine comes from one state to another
pub data Reaches : State → State → Type 0 where
  here : {a : State} → Reaches a a
  there : {a b : State} → Reaches (step a) b → Reaches a b
