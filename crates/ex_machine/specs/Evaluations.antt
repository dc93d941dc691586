-- What an outcome of the code is in the meaning.
use Rattle.std.specs.Prelude.{ℕ, List}
use Rattle.ex_model.specs.declared.bindings.Binding.{Binding}
use Rattle.ex_model.specs.declared.ran.Outcome.{Outcome}
use Rattle.ex_model.specs.declared.ran.Outcome.TheVariants as Outcomes
use Rattle.ex_model.specs.Meaning.{Evaluated, Gives, Faults}

-- an outcome, with the bindings made so far and the steps left
abbrev pub evaluated : Outcome → List Binding → ℕ → Evaluated
evaluated (Outcomes.Value v) made left = Gives v made left
evaluated (Outcomes.Fault f) made left = Faults f left
