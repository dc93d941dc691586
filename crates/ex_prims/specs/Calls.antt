-- What a call of a built-in name gives: its value, what it prints and its charge, or its fault.
use Rattle.std.specs.Prelude.{◌≡◌, ℕ, ◌+◌, nat_le, nat_lt, if◌then◌else◌, List, [], ◌∷◌, length, Option, Some, None, Result, Ok, Err}
use Rattle.ex_terms.specs.declared.values.Value.{Value}
use Rattle.ex_terms.specs.Seen.{term_of, terms_of}
use Rattle.ex_terms.specs.Sizes.{size_of, sizes_of}
use Rattle.ex_faults.specs.declared.fault.Fault.{Fault}
use Rattle.ex_faults.specs.declared.fault.Fault.TheVariants.{BadArgument, UnknownFunction, TooManySteps, TooMuchOutput}
use Rattle.ex_prims.specs.declared.functions.Unary.{Unary}
use Rattle.ex_prims.specs.declared.functions.Binary.{Binary}
use Rattle.ex_prims.specs.declared.calls.Called.{Called}
use Rattle.ex_prims.specs.declared.calls.CallError.{CallError}
use Rattle.ex_prims.specs.declared.calls.CallError.TheVariants.{Faulted, OutOfMemory}
use Rattle.ex_prims.specs.Names.{named_in, unary_names, binary_names}
use Rattle.ex_prims.specs.Answers.{Answer, Gives, Prints, Wrong, Refuses}
use Rattle.ex_prims.specs.Rows.{given_one, given_two}

-- what is answered by what a name calls; a name that calls nothing is unknown
abbrev pub by_one : List ℕ → Option Unary → Value → Answer
by_one name None v = Refuses (UnknownFunction name 1)
by_one name (Some f) v = given_one f v

abbrev pub by_two : List ℕ → Option Binary → Value → Value → Answer
by_two name None v w = Refuses (UnknownFunction name 2)
by_two name (Some f) v w = given_two f v w

-- what a name answers for its arguments; none takes any other number of them than one or two
abbrev pub answered : List ℕ → List Value → Answer
answered name [] = Refuses (UnknownFunction name 0)
answered name (v ∷ []) = by_one name (named_in unary_names name) v
answered name (v ∷ w ∷ []) = by_two name (named_in binary_names name) v w
answered name (v ∷ w ∷ x ∷ more) = Refuses (UnknownFunction name (length (v ∷ w ∷ x ∷ more)))

-- the charge: the sizes of the arguments and of the value
abbrev pub charge_of : List Value → Value → ℕ
charge_of args v = sizes_of (terms_of args) + size_of (term_of v)

-- the charge is taken, unless it is above the steps left
abbrev pub charged : List Value → ℕ → List ℕ → Value → Result Called Fault
charged args left text v = if nat_le (charge_of args v) left then Ok (record { value = v; printed = text; charge = charge_of args v }) else Err TooManySteps

-- first the call's own fault, then whether what it prints has room, then the charge
abbrev pub settled : List ℕ → List Value → ℕ → ℕ → Answer → Result Called Fault
settled name args left room (Gives v) = charged args left [] v
settled name args left room (Prints text v) = if nat_lt room (length text) then Err TooMuchOutput else charged args left text v
settled name args left room Wrong = Err (BadArgument name (length args))
settled name args left room (Refuses f) = Err f

-- what a call gives, with so many steps left and room for so many bytes of print
abbrev pub called : List ℕ → List Value → ℕ → ℕ → Result Called Fault
called name args left room = settled name args left room (answered name args)

-- the code's answer is this one; want of memory alone is free
abbrev pub IsCalled : Result Called CallError → Result Called Fault → Type 0
IsCalled (Ok c) r = r ≡ Ok c
IsCalled (Err (Faulted f)) r = r ≡ Err f
IsCalled (Err OutOfMemory) r = Unit {0}
