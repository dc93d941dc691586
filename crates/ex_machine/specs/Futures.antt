-- What the machine gives in the end, from what it stands at.
use Rattle.std.specs.Prelude.{◌≡◌, ◌+◌, ◌*◌, ℕ, pos, Bool, true, false, List, [], ◌∷◌, ◌++◌, Option, Some, None}
use Rattle.ex_value.specs.declared.Value.{Value}
use Rattle.ex_value.specs.declared.Value.TheVariants.{Int}
use Rattle.ex_model.specs.declared.ast.Operator.{Operator}
use Rattle.ex_model.specs.declared.ast.Node.{Node}
use Rattle.ex_model.specs.declared.ast.Node.TheVariants.{Literal, Lookup, Bind, Apply}
use Rattle.ex_model.specs.declared.bindings.Binding.{Binding}
use Rattle.ex_model.specs.declared.fault.Fault.{Fault}
use Rattle.ex_model.specs.declared.fault.Fault.TheVariants.{UnboundVariable}
use Rattle.ex_model.specs.declared.ran.Outcome.TheVariants as Outcomes
use Rattle.ex_model.specs.Tree.{Tree, Integer, Variable, Match, Binary, Named}
use Rattle.ex_model.specs.At.{IsAt}
use Rattle.ex_model.specs.Meaning.{Evaluated, Gives, and_then, seen, looked_up, operated, applied, matched, meaning_of}
use Rattle.ex_machine.specs.declared.machine.Frame.{Frame}
use Rattle.ex_machine.specs.declared.machine.Frame.TheVariants.{First, Second, Bound}
use Rattle.ex_machine.specs.declared.machine.Spot.{Spot}
use Rattle.ex_machine.specs.declared.machine.Spot.TheVariants.{Entered, Returned, Over}
use Rattle.ex_machine.specs.Evaluations.{evaluated}

-- what is still to do with a value
pub data Rest : Type 0 where
  -- it is the first operand, and the second one follows
  ThenSecond : Operator → Tree → Rest
  -- it is the second operand, after the first one's value
  ThenApply : Operator → Value → Rest
  -- it is bound to a name
  ThenBind : List ℕ → Rest

-- what doing it gives
abbrev pub rest_meaning : List Binding → Rest → Value → List Binding → ℕ → Evaluated
rest_meaning base (ThenSecond o b) v made left = and_then (meaning_of base b made left) (λ w made left. applied v w (operated o v w) made left)
rest_meaning base (ThenApply o v) w made left = applied v w (operated o v w) made left
rest_meaning base (ThenBind x) v made left = matched (Named x) v made left

-- what is given in the end, where this is given now and the rests are still to do
abbrev pub resumed : List Binding → List Rest → Evaluated → Evaluated
resumed base [] e = e
resumed base (rest ∷ rests) e = resumed base rests (and_then e (λ v made left. rest_meaning base rest v made left))

-- what an expression gives once the step for its node is taken
abbrev pub begun : List Binding → Tree → List Binding → ℕ → Evaluated
begun base (Integer n) made left = Gives (Int (pos n)) made left
begun base (Variable x) made left = looked_up x (seen base made x) made left
begun base (Match p a) made left = and_then (meaning_of base a made left) (λ v made left. matched p v made left)
begun base (Binary o a b) made left = and_then (meaning_of base a made left) (λ v made left. and_then (meaning_of base b made left) (λ w made left. applied v w (operated o v w) made left))

-- a frame waits to do this
pub data IsFrame : List Node → Frame → Rest → Type 0 where
  waits_for_second : {nodes : List Node} {o : Operator} {i : ℕ} {b : Tree} → IsAt nodes i b → IsFrame nodes (First o i) (ThenSecond o b)
  waits_to_apply : {nodes : List Node} {o : Operator} {v : Value} → IsFrame nodes (Second o v) (ThenApply o v)
  waits_to_bind : {nodes : List Node} {x : List ℕ} → IsFrame nodes (Bound x) (ThenBind x)

-- the frames wait to do these, the newest first; it stands at their end
abbrev pub AreFrames : List Node → List Frame → List Rest → Type 0
AreFrames nodes frames [] = frames ≡ []
AreFrames nodes frames (rest ∷ rests) = (below : List Frame) × (frame : Frame) × (frames ≡ below ++ frame ∷ []) × IsFrame nodes frame rest × AreFrames nodes below rests

-- the same, where the newest frame was taken off
abbrev pub Next : List Node → List Frame → Option Frame → List Rest → Type 0
Next nodes below None [] = Unit {0}
Next nodes below None (rest ∷ rests) = ⊥
Next nodes below (Some frame) [] = ⊥
Next nodes below (Some frame) (rest ∷ rests) = IsFrame nodes frame rest × AreFrames nodes below rests

-- the node is the top of a tree
pub data Sees : List Node → Node → Tree → Type 0 where
  sees_integer : {nodes : List Node} {n : ℕ} → Sees nodes (Literal (pos n)) (Integer n)
  sees_variable : {nodes : List Node} {x : List ℕ} → Sees nodes (Lookup x) (Variable x)
  sees_match : {nodes : List Node} {x : List ℕ} {i : ℕ} {a : Tree} → IsAt nodes i a → Sees nodes (Bind x i) (Match (Named x) a)
  sees_binary : {nodes : List Node} {o : Operator} {i j : ℕ} {a b : Tree} → IsAt nodes i a → IsAt nodes j b → Sees nodes (Apply o i j) (Binary o a b)

-- what the machine gives in the end
abbrev pub IsFuture : List Node → List Binding → List Frame → List Binding → ℕ → Spot → Evaluated → Type 0
IsFuture nodes base frames made left (Entered i) e = (t : Tree) × (rests : List Rest) × IsAt nodes i t × AreFrames nodes frames rests × (resumed base rests (meaning_of base t made left) ≡ e)
IsFuture nodes base frames made left (Returned v) e = (rests : List Rest) × AreFrames nodes frames rests × (resumed base rests (Gives v made left) ≡ e)
IsFuture nodes base frames made left (Over o) e = evaluated o made left ≡ e

-- whether the machine is at its end
abbrev pub is_over : Spot → Bool
is_over (Entered i) = false
is_over (Returned v) = false
is_over (Over o) = true

-- at the end with a fault
abbrev pub failed : Fault → Spot
failed f = Over (Outcomes.Fault f)

-- back with the value of a name, or at the end where it has none
abbrev pub spot_of : List ℕ → Option Value → Spot
spot_of x (Some v) = Returned v
spot_of x None = failed (UnboundVariable x)

-- what falls with every turn, by the number of frames and of steps left
abbrev pub weight : Spot → ℕ → ℕ → ℕ
weight (Entered i) frames left = 4 * left + 2 * frames + 1
weight (Returned v) frames left = 4 * left + 2 * frames + 2
weight (Over o) frames left = 0
