-- What the bodies of the rows owe: no promise to anybody outside this crate.
use Rattle.std.specs.Prelude.{◌≡◌, ◌<◌, ◌≤◌, ℕ, ◌+◌, not, Bool, is_some, List, [], ◌∷◌, length, Result, Ok, Err}
use Rattle.ex_faults.specs.declared.fault.Fault.{Fault}
use Rattle.std.specs.Borrow.{Bor}
use Rattle.ex_terms.specs.declared.values.Value.{Value}
use Rattle.ex_terms.specs.Seen.{term_of, terms_of}
use Rattle.ex_terms.specs.Printed.{displayed}
use Rattle.ex_terms.specs.Sizes.{size_of, sizes_of, capped}
use Rattle.ex_prims.specs.declared.refused.Refused.{Refused}
use Rattle.ex_prims.specs.declared.refused.Refused.TheVariants as R
use Rattle.ex_prims.specs.declared.limits.Limits.{Limits}
use Rattle.ex_prims.specs.declared.rows.Given.{Given}
use Rattle.ex_prims.specs.declared.rows.Given.TheVariants.{Quiet, Printed}
use Rattle.ex_prims.specs.declared.calls.Called.{Called}
use Rattle.ex_prims.specs.declared.calls.CallError.{CallError}
use Rattle.ex_prims.specs.Calls.{settled, charged, IsCalled}
use Rattle.ex_prims.specs.Answers.{Answer, Gives, Prints, Wrong, Refuses}

-- an argument of the kind that is taken, or a wrong one
abbrev pub IsArgument : {X : Type 0} → Result X Refused → ((X → Answer) → Answer) → Type 0
IsArgument {X} (Ok x) takes = (go : X → Answer) → takes go ≡ go x
IsArgument {X} (Err R.Wrong) takes = (go : X → Answer) → takes go ≡ Wrong
IsArgument (Err (R.Faulted f)) takes = ⊥
IsArgument (Err R.TooManySteps) takes = ⊥
IsArgument (Err R.TooMuchOutput) takes = ⊥
IsArgument (Err R.OutOfMemory) takes = ⊥

-- the same of a text or items that are lent
abbrev pub IsLent : {X : Type 0} → Result (Bor X) Refused → ((X → Answer) → Answer) → Type 0
IsLent {X} (Ok x) takes = (go : X → Answer) → takes go ≡ go x.now
IsLent {X} (Err R.Wrong) takes = (go : X → Answer) → takes go ≡ Wrong
IsLent (Err (R.Faulted f)) takes = ⊥
IsLent (Err R.TooManySteps) takes = ⊥
IsLent (Err R.TooMuchOutput) takes = ⊥
IsLent (Err R.OutOfMemory) takes = ⊥

-- what a row says; want of memory alone is free
abbrev pub IsAnswer : Result Value Refused → Answer → Type 0
IsAnswer (Ok v) a = a ≡ Gives v
IsAnswer (Err R.Wrong) a = a ≡ Wrong
IsAnswer (Err (R.Faulted f)) a = a ≡ Refuses f
IsAnswer (Err R.TooManySteps) a = ⊥
IsAnswer (Err R.TooMuchOutput) a = ⊥
IsAnswer (Err R.OutOfMemory) a = Unit {0}

-- a value whose charge is above the steps left: no use to make it
abbrev pub IsTooDear : Limits → Answer → Type 0
IsTooDear l a = (v : Value) × (a ≡ Gives v) × (l.left < l.operands + size_of (term_of v))

-- what a row says, or that its value is too dear
abbrev pub IsWithin : Limits → Result Value Refused → Answer → Type 0
IsWithin l (Ok v) a = a ≡ Gives v
IsWithin l (Err R.Wrong) a = a ≡ Wrong
IsWithin l (Err (R.Faulted f)) a = a ≡ Refuses f
IsWithin l (Err R.TooManySteps) a = IsTooDear l a
IsWithin l (Err R.TooMuchOutput) a = ⊥
IsWithin l (Err R.OutOfMemory) a = Unit {0}

-- a print that has no room
abbrev pub HasNoRoom : Limits → Answer → Type 0
HasNoRoom l a = (text : List ℕ) × (v : Value) × (a ≡ Prints text v) × (l.room < length text)

-- what a row says, with what it prints
abbrev pub IsGiven : Limits → Result Given Refused → Answer → Type 0
IsGiven l (Ok (Quiet v)) a = a ≡ Gives v
IsGiven l (Ok (Printed text v)) a = (a ≡ Prints text v) × (length text ≤ l.room)
IsGiven l (Err R.Wrong) a = a ≡ Wrong
IsGiven l (Err (R.Faulted f)) a = a ≡ Refuses f
IsGiven l (Err R.TooManySteps) a = IsTooDear l a
IsGiven l (Err R.TooMuchOutput) a = HasNoRoom l a
IsGiven l (Err R.OutOfMemory) a = Unit {0}

-- whether arguments and a value of a size can be paid
abbrev pub Covers : Limits → ℕ → Result (Unit {0}) Refused → Type 0
Covers l size (Ok u) = l.operands + size ≤ l.left
Covers l size (Err R.TooManySteps) = l.left < l.operands + size
Covers l size (Err R.Wrong) = ⊥
Covers l size (Err (R.Faulted f)) = ⊥
Covers l size (Err R.TooMuchOutput) = ⊥
Covers l size (Err R.OutOfMemory) = ⊥

-- the limits of a call of these arguments
abbrev pub AreOf : Limits → List Value → Type 0
AreOf l args = l.operands ≡ capped (sizes_of (terms_of args))

-- a value is charged, for all arguments that the limits are of, if there are any
abbrev pub Charges : Limits → Value → List ℕ → Result Called CallError → Type 0
Charges l v text r = (args : List Value) → AreOf l args → 1 ≤ length args → IsCalled r (charged args l.left text v)

-- a call without arguments gives no value
abbrev pub IsRefusedWithout : List Value → Answer → Type 0
IsRefusedWithout [] a = (f : Fault) × (a ≡ Refuses f)
IsRefusedWithout (v ∷ vs) a = Unit {0}

-- an answer is settled, whatever it is an answer to
abbrev pub Settles : List ℕ → List Value → Limits → Result Given Refused → Result Called CallError → Type 0
Settles name args l given r = (a : Answer) → AreOf l args → IsGiven l given a → IsRefusedWithout args a → IsCalled r (settled name args l.left l.room a)

-- a tuple or a list has no text for readers
abbrev pub has_no_text : Value → Bool
has_no_text v = not (is_some (displayed (term_of v)))
