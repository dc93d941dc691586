-- The texts of faults.
use Rattle.std.specs.Prelude.{ℕ, List, ◌++◌, codes, decimal}
use Rattle.ex_model.specs.declared.fault.Fault.{Fault}
use Rattle.ex_model.specs.declared.fault.Fault.TheVariants.{Unbuilt, SourceTooLong, ValueTooLarge, TooManySteps, IntegerTooWide, UnboundVariable, BadArgument}

-- a fault as it is printed
abbrev pub text_of : Fault → List ℕ
text_of Unbuilt = codes "unbuilt"
text_of SourceTooLong = codes "source too long"
text_of ValueTooLarge = codes "value too large"
text_of TooManySteps = codes "too many steps"
text_of IntegerTooWide = codes "integer too wide"
text_of (UnboundVariable x) = codes "unbound variable: " ++ x
text_of (BadArgument name arity) = codes "bad argument: " ++ name ++ codes "/" ++ decimal arity
