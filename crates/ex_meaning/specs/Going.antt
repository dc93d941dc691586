-- Where an evaluation stands, and how it goes on: by steps, calls and prints, up to the first fault.
use Rattle.std.specs.Prelude.{ℕ, ◌-◌, nat_le, if◌then◌else◌, List, ◌++◌, length, Result, Ok, Err}
use Rattle.ex_terms.specs.declared.values.Value.{Value}
use Rattle.ex_faults.specs.declared.fault.Fault.{Fault}
use Rattle.ex_faults.specs.declared.fault.Fault.TheVariants.{TooManySteps}
use Rattle.ex_prims.specs.declared.calls.Called.{Called}
use Rattle.ex_prims.specs.Calls.{called}
use Rattle.ex_meaning.specs.Bound.{Bindings, put_all}

-- where an evaluation stands: what the cell has bound, what it has printed, and the steps left
pub record State : Type 0 where
  pub made : Bindings
  pub printed : List ℕ
  pub left : ℕ

-- it gives something and goes on, or it ends by a fault, with what was printed before and the steps left
pub data Going (X : Type 0) : Type 0 where
  Gives : X → State → Going X
  Ends : Fault → List ℕ → ℕ → Going X

-- a fault of an evaluation; where steps are wanting none is left
abbrev pub left_after : Fault → ℕ → ℕ
left_after TooManySteps left = 0
left_after f left = left

abbrev pub ends : {X : Type 0} → Fault → State → Going X
ends f s = Ends f s.printed (left_after f s.left)

-- n steps are taken and it goes on, or there are too few
abbrev pub charge : {X : Type 0} → ℕ → State → (State → Going X) → Going X
charge n s go = if nat_le n s.left then go (record s { left = s.left - n }) else ends TooManySteps s

-- one after the other
abbrev pub and_then : {X Y : Type 0} → Going X → (X → State → Going Y) → Going Y
and_then (Gives x s) go = go x s
and_then (Ends f printed left) go = Ends f printed left

-- the bindings are again these: what was bound within doesn't leave
abbrev pub restored : {X : Type 0} → Bindings → Going X → Going X
restored made (Gives x s) = Gives x (record s { made = made })
restored made (Ends f printed left) = Ends f printed left

abbrev pub scoped : {X : Type 0} → State → (State → Going X) → Going X
scoped s within = restored s.made (within s)

-- more names are bound
abbrev pub bind : Bindings → State → State
bind found s = record s { made = put_all s.made found }

-- the bytes that one evaluation may print
abbrev pub print_limit : ℕ
print_limit = 65536

-- a call of a built-in name
abbrev pub after_call : Result Called Fault → State → Going Value
after_call (Ok c) s = Gives c.value (record { made = s.made; printed = s.printed ++ c.printed; left = s.left - c.charge })
after_call (Err f) s = ends f s

abbrev pub calls : List ℕ → List Value → State → Going Value
calls name args s = after_call (called name args s.left (print_limit - length s.printed)) s
