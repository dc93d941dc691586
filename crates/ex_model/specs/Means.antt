-- What a source means. A source is the list of its bytes.
use Rattle.std.specs.Prelude.{ℕ, ◌≤◌, ◌<◌, List, [], length}
use Rattle.ex_model.specs.declared.bindings.Binding.{Binding}
use Rattle.ex_model.specs.declared.fault.Fault.{Fault}
use Rattle.ex_model.specs.declared.fault.Fault.TheVariants.{SourceTooLong, Unbuilt}
use Rattle.ex_model.specs.declared.ran.Outcome.TheVariants as Outcomes
use Rattle.ex_model.specs.declared.ran.Ran.{Ran}
use Rattle.ex_model.specs.Tree.{Tree}
use Rattle.ex_model.specs.Reads.{Reads}
use Rattle.ex_model.specs.Meaning.{meaning}

-- a cell that ends by a fault before its first step
abbrev pub not_begun : Fault → Ran
not_begun fault = record { shown = record { printed = []; outcome = Outcomes.Fault fault; steps = 0 }; made = [] }

-- what a source means over bindings, within a limit of steps
pub data Means : List ℕ → List Binding → ℕ → Ran → Type 0 where
  -- it has more than 1,048,576 bytes
  is_too_long : {source : List ℕ} {base : List Binding} {limit : ℕ} → 1048576 < length source → Means source base limit (not_begun SourceTooLong)
  -- it reads as no body
  is_unread : {source : List ℕ} {base : List Binding} {limit : ℕ} → length source ≤ 1048576 → ((trees : List Tree) → ¬ Reads source trees) → Means source base limit (not_begun Unbuilt)
  -- it reads as a body, whose meaning this is
  is_read : {source : List ℕ} {base : List Binding} {limit : ℕ} {trees : List Tree} → length source ≤ 1048576 → Reads source trees → Means source base limit (meaning trees base limit)
