-- The texts of faults. A text is the list of its bytes.
use Rattle.std.specs.Prelude.{ℕ, List, ◌++◌, codes, decimal}
use Rattle.ex_terms.specs.Printed.{inspected}
use Rattle.ex_terms.specs.Seen.{term_of}
use Rattle.ex_faults.specs.declared.fault.Fault.{Fault}
use Rattle.ex_faults.specs.declared.fault.Fault.TheVariants.{SourceTooLong, Character, Nesting, Syntax, NoMatch, NoCase, NoCond, NotABoolean, BadArgument, UnknownFunction, DivisionByZero, IntegerTooWide, UnboundVariable, NoText, TooManySteps, ValueTooLarge, TooMuchOutput}

-- a fault as it is printed: its words, and behind them its place in decimal, its value as it is written in a source, its name, or its name, a `/` and its number of arguments in decimal
abbrev pub text_of : Fault → List ℕ
text_of SourceTooLong = codes "source too long"
text_of (Character place) = codes "character at " ++ decimal place
text_of (Nesting place) = codes "nesting at " ++ decimal place
text_of (Syntax place) = codes "syntax at " ++ decimal place
text_of (NoMatch value) = codes "no match: " ++ inspected (term_of value)
text_of (NoCase value) = codes "no case: " ++ inspected (term_of value)
text_of NoCond = codes "no cond"
text_of (NotABoolean value) = codes "not a boolean: " ++ inspected (term_of value)
text_of (BadArgument name arity) = codes "bad argument: " ++ name ++ codes "/" ++ decimal arity
text_of (UnknownFunction name arity) = codes "unknown function: " ++ name ++ codes "/" ++ decimal arity
text_of DivisionByZero = codes "division by zero"
text_of IntegerTooWide = codes "integer too wide"
text_of (UnboundVariable name) = codes "unbound variable: " ++ name
text_of (NoText value) = codes "no text: " ++ inspected (term_of value)
text_of TooManySteps = codes "too many steps"
text_of ValueTooLarge = codes "value too large"
text_of TooMuchOutput = codes "too much output"
