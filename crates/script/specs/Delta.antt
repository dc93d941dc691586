-- Deltas as they are written in a script: JSON arrays of texts and whole numbers.
use Rattle.std.specs.Prelude.{◌≡◌, ℕ, ◌+◌, ◌^◌, nat_lt, ◌&&◌, if◌then◌else◌, ℤ, pos, negsuc, List, [], ◌∷◌, Option, Some, None, option_map, option_and_then}
use Rattle.std.specs.Str.{chars}
use Rattle.serde_json.specs.Data.{Num, unsigned, negative, float, Data, null, boolean, number, string, array, object, Items, no_items, item}
use Rattle.serde_json.specs.Read.{read}
use Rattle.delta.specs.declared.Step.{Step}
use Rattle.delta.specs.declared.Step.TheVariants.{Retain, Insert, Delete}
use Rattle.delta.specs.Canonical.{IsCanonical}

-- a positive number retains, a negative one deletes, each within 64 signed bits
abbrev pub step_of_integer : ℤ → Option Step
step_of_integer (pos n) = if nat_lt 0 n && nat_lt n (2 ^ 63) then Some (Retain n) else None
step_of_integer (negsuc n) = Some (Delete (n + 1))

-- a number with a point or an exponent is no step, nor is `-0`
abbrev pub step_of_number : Num → Option Step
step_of_number (unsigned n) = step_of_integer (pos n)
step_of_number (negative z) = step_of_integer z
step_of_number (float _) = None

-- a string inserts, and a number retains or deletes
abbrev pub step_of : Data → Option Step
step_of null = None
step_of (boolean _) = None
step_of (number n) = step_of_number n
step_of (string bytes) = Some (Insert (chars bytes))
step_of (array _) = None
step_of (object _) = None

-- the steps of an array's items, where each is one
abbrev pub steps_of : Items → Option (List Step)
steps_of no_items = Some []
steps_of (item d items) = option_and_then (λ step. option_map (λ steps. step ∷ steps) (steps_of items)) (step_of d)

-- the steps of an array
abbrev pub steps_of_array : Data → Option (List Step)
steps_of_array null = None
steps_of_array (boolean _) = None
steps_of_array (number n) = None
steps_of_array (string bytes) = None
steps_of_array (array items) = steps_of items
steps_of_array (object _) = None

-- the text is JSON of an array of steps, and they are canonical
pub record IsDelta (text : List ℕ) (delta : List Step) : Type 0 where
  pub steps : option_and_then steps_of_array (read text) ≡ Some delta
  pub canonical : IsCanonical delta
