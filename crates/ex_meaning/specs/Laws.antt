-- What holds of every evaluation.
use Rattle.std.specs.Prelude.{◌≡◌, ◌≤◌, ℕ, true, false, List, [], ◌++◌, length}
use Rattle.ex_grammar.specs.declared.operators.Operator.TheVariants as O
use Rattle.ex_grammar.specs.Patterns.{Pattern}
use Rattle.ex_grammar.specs.Trees as E
use Rattle.ex_grammar.specs.Trees.{Tree, Trees}
use Rattle.ex_terms.specs.declared.values.Value.{Value}
use Rattle.ex_faults.specs.declared.fault.Fault.{Fault}
use Rattle.ex_faults.specs.declared.fault.Fault.TheVariants.{TooManySteps}
use Rattle.ex_prims.specs.Answers.{is_falsy}
use Rattle.ex_meaning.specs.Bound.{Bindings}
use Rattle.ex_meaning.specs.Going.{State, Gives, charge, print_limit}
use Rattle.ex_meaning.specs.Evaluating.{evaluated}
use Rattle.ex_meaning.specs.Means.{IsFault, meaning}

-- no evaluation takes more steps than its limit
abbrev pub StepsFit : Type 0
StepsFit = (trees : Trees) (base : Bindings) (limit : ℕ) → (meaning trees base limit).steps ≤ limit

-- no evaluation prints more than it may
abbrev pub PrintsFit : Type 0
PrintsFit = (trees : Trees) (base : Bindings) (limit : ℕ) → length (meaning trees base limit).printed ≤ print_limit

-- an evaluation that has too few steps has used them all
abbrev pub TooManyAreAll : Type 0
TooManyAreAll = (trees : Trees) (base : Bindings) (limit : ℕ) → (meaning trees base limit).outcome ≡ IsFault TooManySteps → (meaning trees base limit).steps ≡ limit

-- after a fault nothing is made
abbrev pub FaultsMakeNothing : Type 0
FaultsMakeNothing = (trees : Trees) (base : Bindings) (limit : ℕ) (f : Fault) → (meaning trees base limit).outcome ≡ IsFault f → (meaning trees base limit).made ≡ []

-- where an expression goes on, what was printed stays in front, and no step comes back
pub record Follows (s t : State) : Type 0 where
  pub more : List ℕ
  pub printed : t.printed ≡ s.printed ++ more
  pub left : t.left ≤ s.left

abbrev pub StatesFollow : Type 0
StatesFollow = (base : Bindings) (tree : Tree) (s t : State) (v : Value) → evaluated base tree s ≡ Gives v t → Follows s t

-- what is bound within an expression doesn't leave it
abbrev pub KeepsBindings : Tree → Type 0
KeepsBindings tree = (base : Bindings) (s t : State) (v : Value) → evaluated base tree s ≡ Gives v t → t.made ≡ s.made

-- so it is with `cond` and `for`
abbrev pub BlocksKeepBindings : Type 0
BlocksKeepBindings = ((choices : E.Choices) → KeepsBindings (E.Cond choices)) × ((p : Pattern) (g : Tree) (parts : E.Parts) (body : Trees) → KeepsBindings (E.For p g parts body))

-- the right operand of `&&` doesn't count where the left one is falsy, nor that of `||` where it isn't
abbrev pub RightIsSkipped : Type 0
RightIsSkipped =
    (base : Bindings) (a b : Tree) (s t : State) (v : Value) → charge 1 s (λ s. evaluated base a s) ≡ Gives v t
    → (is_falsy v ≡ true → evaluated base (E.Apply O.And a b) s ≡ Gives v t) × (is_falsy v ≡ false → evaluated base (E.Apply O.Or a b) s ≡ Gives v t)
