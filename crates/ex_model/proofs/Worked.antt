-- Cells worked through by the definitions.
use Rattle.std.specs.Prelude.{◌≡◌, ◌-◌, ◌^◌, ℕ, pos, List, [], ◌∷◌, length, codes, refl}
use Rattle.std.specs.Fmt.{digits}
use Rattle.ex_value.specs.declared.Value.{Value}
use Rattle.ex_value.specs.declared.Value.TheVariants.{Int, Atom}
use Rattle.ex_value.specs.Values.{nil}
use Rattle.ex_model.specs.declared.ast.Operator.TheVariants.{Add, Multiply}
use Rattle.ex_model.specs.declared.bindings.Binding.{Binding}
use Rattle.ex_model.specs.declared.fault.Fault.{Fault}
use Rattle.ex_model.specs.declared.fault.Fault.TheVariants.{ValueTooLarge, TooManySteps, IntegerTooWide, UnboundVariable, BadArgument}
use Rattle.ex_model.specs.declared.ran.Outcome.TheVariants as Outcomes
use Rattle.ex_model.specs.declared.ran.Ran.{Ran}
use Rattle.ex_model.specs.Tree.{Tree, Integer, Variable, Match, Binary, Named}
use Rattle.ex_model.specs.Bound.{put_all}
use Rattle.ex_model.specs.Faults.{text_of}
use Rattle.ex_model.specs.Meaning.{meaning}

-- a value in some steps, with what was bound
abbrev gave : Value → ℕ → List Binding → Ran
gave v steps made = record { shown = record { printed = []; outcome = Outcomes.Value v; steps = steps }; made = made }

-- a fault after some steps
abbrev failed : Fault → ℕ → Ran
failed f steps = record { shown = record { printed = []; outcome = Outcomes.Fault f; steps = steps }; made = [] }

-- a name with its value
abbrev binding : List ℕ → Value → Binding
binding x v = record { name = x; value = v }

-- 1 + 2
abbrev one_and_two : List Tree
one_and_two = Binary Add (Integer 1) (Integer 2) ∷ []

sum_within : meaning one_and_two [] 6 ≡ gave (Int (pos 3)) 6 []
sum_within = refl

sum_short : meaning one_and_two [] 5 ≡ failed TooManySteps 5
sum_short = refl

nothing : meaning [] [] 0 ≡ gave nil 0 []
nothing = refl

-- x = 2
binds : meaning (Match (Named (codes "x")) (Integer 2) ∷ []) [] 200000 ≡ gave (Int (pos 2)) 3 (binding (codes "x") (Int (pos 2)) ∷ [])
binds = refl

-- x * 21, over what x = 2 made
sees_earlier : meaning (Binary Multiply (Variable (codes "x")) (Integer 21) ∷ []) (put_all [] (binding (codes "x") (Int (pos 2)) ∷ [])) 200000 ≡ gave (Int (pos 42)) 6 []
sees_earlier = refl

-- x = 1, then x = 2, then x: one binding, in its place
binds_again : meaning (Match (Named (codes "x")) (Integer 1) ∷ Match (Named (codes "x")) (Integer 2) ∷ Variable (codes "x") ∷ []) (binding (codes "x") (Int (pos 9)) ∷ []) 200000
    ≡ gave (Int (pos 2)) 7 (binding (codes "x") (Int (pos 2)) ∷ [])
binds_again = refl

-- (x = 1) + x: what an operand binds is seen in the next one
binds_inside : meaning (Binary Add (Match (Named (codes "x")) (Integer 1)) (Variable (codes "x")) ∷ []) [] 200000 ≡ gave (Int (pos 2)) 8 (binding (codes "x") (Int (pos 1)) ∷ [])
binds_inside = refl

-- 170141183460469231731687303715884105727 + 1: too wide, and the sum charges no sizes
too_wide : meaning (Binary Add (Integer (2 ^ 127 - 1)) (Integer 1) ∷ []) [] 200000 ≡ failed IntegerTooWide 3
too_wide = refl

-- x = 1, then y: nothing is made
unbound : meaning (Match (Named (codes "x")) (Integer 1) ∷ Variable (codes "y") ∷ []) [] 200000 ≡ failed (UnboundVariable (codes "y")) 4
unbound = refl

-- n + 1, where n is nil, with no step left for the sizes: its own fault comes first
not_a_number : meaning (Binary Add (Variable (codes "n")) (Integer 1) ∷ []) (binding (codes "n") nil ∷ []) 3 ≡ failed (BadArgument (codes "+") 2) 3
not_a_number = refl

-- x = n, where n is an atom of 65,536 bytes: its 4,097 units count as the value and as what x is
too_large : (t : List ℕ) → length t ≡ 65536 → meaning (Match (Named (codes "x")) (Variable (codes "n")) ∷ []) (binding (codes "n") (Atom t) ∷ []) 200000 ≡ failed ValueTooLarge 3
too_large t e = rw e refl

-- n alone is small enough
large_enough : (t : List ℕ) → length t ≡ 65536 → meaning (Variable (codes "n") ∷ []) (binding (codes "n") (Atom t) ∷ []) 200000 ≡ gave (Atom t) 1 []
large_enough t e = rw e refl

names_the_variable : text_of (UnboundVariable (codes "y")) ≡ codes "unbound variable: y"
names_the_variable = refl

names_the_operator : text_of (BadArgument (codes "+") 2) ≡ codes "bad argument: +/2"
unfolding digits
names_the_operator = refl
