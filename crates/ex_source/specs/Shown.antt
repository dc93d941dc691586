-- What the nodes, the stack and the places of the parser stand for.
use Rattle.std.specs.Prelude.{◌≡◌, ℕ, ◌+◌, ◌<◌, ◌≤◌, List, [], ◌∷◌, ◌++◌, length, drop, nat_le, if◌then◌else◌, Bool, true, false, Option, Some, None, ◌⊎◌}
use Rattle.ex_model.specs.declared.ast.Operator.{Operator}
use Rattle.ex_model.specs.declared.ast.Node.{Node}
use Rattle.ex_model.specs.declared.ast.Node.TheVariants.{Bind, Apply}
use Rattle.ex_model.specs.Tokens.{Token}
use Rattle.ex_model.specs.Tree.{Tree}
use Rattle.ex_model.specs.At.{IsAt}
use Rattle.ex_model.specs.Grammar.{level, Top}
use Rattle.ex_source.specs.declared.lexeme.Lexeme.{Lexeme}
use Rattle.ex_source.specs.declared.lexeme.Lexeme.TheVariants as X
use Rattle.ex_source.specs.declared.lexeme.Mark.TheVariants as M
use Rattle.ex_source.specs.declared.parser.Pending.{Pending}
use Rattle.ex_source.specs.declared.parser.Pending.TheVariants as P
use Rattle.ex_source.specs.declared.parser.Move.{Move}
use Rattle.ex_source.specs.declared.parser.Move.TheVariants.{Wanted, Held, Finished, Failed}
use Rattle.ex_source.specs.declared.parser.Plan.{Plan}
use Rattle.ex_source.specs.declared.parser.Plan.TheVariants.{Shift, Shut, Complete}
use Rattle.ex_source.specs.Machine.{Frame, Operand, Matched, Bracket, State, Want, Have, Done, Stuck, Reaches}

-- what is begun in the code is this frame
pub data IsFrame : List Node → Pending → Frame → Type 0 where
  is_operand : {ns : List Node} {o : Operator} {i : ℕ} {a : Tree} → IsAt ns i a → IsFrame ns (P.Operand o i) (Operand o a)
  is_matched : {ns : List Node} {x : List ℕ} → IsFrame ns (P.Matched x) (Matched x)
  is_bracket : {ns : List Node} → IsFrame ns P.Bracket Bracket

-- the list stands for the frames, with the topmost at its end
abbrev pub IsStack : List Node → List Pending → List Frame → Type 0
IsStack ns ps [] = ps ≡ []
IsStack ns ps (f ∷ s) = (below : List Pending) × (p : Pending) × (ps ≡ below ++ p ∷ []) × IsFrame ns p f × IsStack ns below s

-- the topmost one and those below it, where it was taken off
abbrev pub Tops : List Node → List Pending → Option Pending → List Frame → Type 0
Tops ns below None [] = below ≡ []
Tops ns below None (f ∷ s) = ⊥
Tops ns below (Some p) [] = ⊥
Tops ns below (Some p) (f ∷ s) = IsFrame ns p f × IsStack ns below s

-- the parser is in a state of the machine
abbrev pub Shows : List Node → List Pending → List Token → Move → State → Type 0
Shows ns ps all (Wanted at) (Want s rest) = IsStack ns ps s × (rest ≡ drop at all)
Shows ns ps all (Held at i) (Have s t rest) = IsStack ns ps s × IsAt ns i t × (rest ≡ drop at all)
Shows ns ps all (Finished at i) (Done t rest) = (ps ≡ []) × IsAt ns i t × (rest ≡ drop at all)
Shows ns ps all Failed Stuck = Unit {0}
Shows ns ps all m st = ⊥

-- the nodes with more after them
abbrev pub Grows : List Node → List Node → Type 0
Grows ns ns' = (more : List Node) × (ns' ≡ ns ++ more)

-- the parser comes to a state, and keeps the nodes that it had
pub record Turned (ns ns' : List Node) (ps' : List Pending) (all : List Token) (m : Move) (st : State) : Type 0 where
  pub grows : Grows ns ns'
  pub shows : Shows ns' ps' all m st

-- whether a bracket is topmost
abbrev pub is_bracket_top : List Frame → Bool
is_bracket_top (Bracket ∷ s) = true
is_bracket_top s = false

-- the node that something begun becomes with its last part
abbrev pub node_of : Pending → ℕ → Option Node
node_of (P.Operand o a) i = Some (Apply o a i)
node_of (P.Matched x) i = Some (Bind x i)
node_of P.Bracket i = None

-- whether `=` stands first
abbrev pub equals_first : List Lexeme → Bool
equals_first (X.Mark M.Equals ∷ xs) = true
equals_first xs = false

-- what to do with a token after an expression
abbrev pub plan_for : Lexeme → ℕ → Bool → Plan
plan_for (X.Mark (M.Sign o)) floor bracket = if nat_le floor (level o) then Shift o else Complete
plan_for (X.Mark M.Closing) floor bracket = if bracket then Shut else Complete
plan_for x floor bracket = Complete

abbrev pub is_over : Move → Bool
is_over (Wanted at) = false
is_over (Held at i) = false
is_over (Finished at i) = true
is_over Failed = true

-- one expression was read from a place: where it ends, and its node
pub record ReadsOne (ns ns' : List Node) (ps' : List Pending) (all : List Token) (from at i : ℕ) : Type 0 where
  pub tree : Tree
  pub grows : Grows ns ns'
  pub free : ps' ≡ []
  pub is_at : IsAt ns' i tree
  pub reaches : Reaches (Want [] (drop from all)) (Done tree (drop at all))

-- the place of the first expression
abbrev pub first_at : List Lexeme → ℕ
first_at (X.Separator ∷ xs) = 1
first_at xs = 0

-- where the next expression begins after one that ends at a place: at the end of the tokens, or after a separator
abbrev pub IsAfter : List Lexeme → ℕ → Option ℕ → Type 0
IsAfter xs end (Some next) = ((length xs ≤ end) × (next ≡ length xs)) ⊎ ((end < length xs) × (drop end xs ≡ X.Separator ∷ drop (end + 1) xs) × (next ≡ end + 1))
IsAfter xs end None = (x : Lexeme) × (end < length xs) × (drop end xs ≡ x ∷ drop (end + 1) xs) × (x ≡ X.Separator → ⊥)

-- the source's expressions, and no others
pub record HasTrees (all : List Token) (trees : List Tree) : Type 0 where
  pub top : Top all trees
  pub only : (us : List Tree) → Top all us → us ≡ trees
