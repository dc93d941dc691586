-- What a body of expressions gives, by cases on its trees, over the bindings that stood before it.
use Rattle.std.specs.Prelude.{ℕ, ℤ, pos, negsuc, ◌+◌, ◌-◌, ◌^◌, ◌+ℤ◌, ◌-ℤ◌, ◌*ℤ◌, nat_le, nat_lt, Bool, if◌then◌else◌, List, [], ◌∷◌, Option, Some, None, Result, Ok, Err, codes, sum_by}
use Rattle.ex_value.specs.declared.Value.{Value}
use Rattle.ex_value.specs.declared.Value.TheVariants.{Int, Atom}
use Rattle.ex_value.specs.Values.{nil, size_of}
use Rattle.ex_model.specs.declared.ast.Operator.{Operator}
use Rattle.ex_model.specs.declared.ast.Operator.TheVariants.{Add, Subtract, Multiply}
use Rattle.ex_model.specs.declared.bindings.Binding.{Binding}
use Rattle.ex_model.specs.declared.fault.Fault.{Fault}
use Rattle.ex_model.specs.declared.fault.Fault.TheVariants.{ValueTooLarge, TooManySteps, IntegerTooWide, UnboundVariable, BadArgument}
use Rattle.ex_model.specs.declared.ran.Outcome.TheVariants as Outcomes
use Rattle.ex_model.specs.declared.ran.Ran.{Ran}
use Rattle.ex_model.specs.Tree.{Tree, Integer, Variable, Match, Binary, Pattern, Named}
use Rattle.ex_model.specs.Bound.{value_of, put}

-- what evaluating gives: a value, the bindings made so far and the steps left; or a fault and the steps left
pub data Evaluated : Type 0 where
  Gives : Value → List Binding → ℕ → Evaluated
  Faults : Fault → ℕ → Evaluated

-- n steps are taken and it goes on, or there are too few
abbrev pub charge : ℕ → ℕ → (ℕ → Evaluated) → Evaluated
charge n left go = if nat_le n left then go (left - n) else Faults TooManySteps 0

-- one after the other, up to the first fault
abbrev pub and_then : Evaluated → (Value → List Binding → ℕ → Evaluated) → Evaluated
and_then (Gives v made left) go = go v made left
and_then (Faults f left) go = Faults f left

-- the first that is there
abbrev pub or_else : Option Value → Option Value → Option Value
or_else (Some v) o = Some v
or_else None o = o

-- a name has the value that the cell gave it, else the one from before the cell
abbrev pub seen : List Binding → List Binding → List ℕ → Option Value
seen base made x = or_else (value_of made x) (value_of base x)

-- the value of a name, or the fault where it has none
abbrev pub looked_up : List ℕ → Option Value → List Binding → ℕ → Evaluated
looked_up x None made left = Faults (UnboundVariable x) left
looked_up x (Some v) made left = Gives v made left

-- what an operator is called in faults
abbrev pub operator_name : Operator → List ℕ
operator_name Add = codes "+"
operator_name Subtract = codes "-"
operator_name Multiply = codes "*"

-- what an operator gives of two integers
abbrev pub calculated : Operator → ℤ → ℤ → ℤ
calculated Add a b = a +ℤ b
calculated Subtract a b = a -ℤ b
calculated Multiply a b = a *ℤ b

-- whether an integer has at most 128 bits
abbrev pub is_in_range : ℤ → Bool
is_in_range (pos n) = nat_lt n (2 ^ 127)
is_in_range (negsuc n) = nat_lt n (2 ^ 127)

-- an integer as a value, unless it is too wide
abbrev pub in_range : ℤ → Result Value Fault
in_range z = if is_in_range z then Ok (Int z) else Err IntegerTooWide

-- what an operator gives of two values; it takes integers alone
abbrev pub operated : Operator → Value → Value → Result Value Fault
operated o (Int a) (Int b) = in_range (calculated o a b)
operated o (Int a) (Atom t) = Err (BadArgument (operator_name o) 2)
operated o (Atom s) w = Err (BadArgument (operator_name o) 2)

-- an operator's own fault, or its result for the sizes of its operands and its result
abbrev pub applied : Value → Value → Result Value Fault → List Binding → ℕ → Evaluated
applied v w (Ok r) made left = charge (size_of v + size_of w + size_of r) left (λ left. Gives r made left)
applied v w (Err f) made left = Faults f left

-- a pattern takes a value, for one step: a name is bound to it
abbrev pub matched : Pattern → Value → List Binding → ℕ → Evaluated
matched (Named x) v made left = charge 1 left (λ left. Gives v (put made x v) left)

-- what an expression gives, where the cell has made some bindings and has some steps left
abbrev pub meaning_of : List Binding → Tree → List Binding → ℕ → Evaluated
meaning_of base (Integer n) made left = charge 1 left (λ left. Gives (Int (pos n)) made left)
meaning_of base (Variable x) made left = charge 1 left (λ left. looked_up x (seen base made x) made left)
meaning_of base (Match p a) made left = charge 1 left (λ left. and_then (meaning_of base a made left) (λ v made left. matched p v made left))
meaning_of base (Binary o a b) made left =
    charge 1 left (λ left. and_then (meaning_of base a made left) (λ v made left.
    and_then (meaning_of base b made left) (λ w made left. applied v w (operated o v w) made left)))

-- expressions one after the other; the value is the last one's, and before the first it is the one given
abbrev pub in_turn : List Binding → List Tree → Value → List Binding → ℕ → Evaluated
in_turn base [] v made left = Gives v made left
in_turn base (t ∷ trees) v made left = and_then (meaning_of base t made left) (λ v made left. in_turn base trees v made left)

-- the sizes of the values that were bound
abbrev pub made_size : List Binding → ℕ
made_size made = sum_by (λ (b : Binding). size_of b.value) made

-- the fault of a value that is too large together with what was bound
abbrev pub kept_small : Value → List Binding → ℕ → Evaluated
kept_small v made left = if nat_lt 8192 (size_of v + made_size made) then Faults ValueTooLarge left else Gives v made left

-- a body: its expressions one after the other, and nil where there is none
abbrev pub body_meaning : List Binding → List Tree → ℕ → Evaluated
body_meaning base trees limit = and_then (in_turn base trees nil [] limit) kept_small

-- what is shown and made in the end: after a fault nothing is made
abbrev pub ran_of : ℕ → Evaluated → Ran
ran_of limit (Gives v made left) = record { shown = record { printed = []; outcome = Outcomes.Value v; steps = limit - left }; made = made }
ran_of limit (Faults f left) = record { shown = record { printed = []; outcome = Outcomes.Fault f; steps = limit - left }; made = [] }

-- the meaning of a body over bindings, within a limit of steps
abbrev pub meaning : List Tree → List Binding → ℕ → Ran
meaning trees base limit = ran_of limit (body_meaning base trees limit)
