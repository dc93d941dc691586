-- Names with their values. A name counts by its first binding.
use Rattle.std.specs.Prelude.{ℕ, List, [], ◌∷◌, Option, Some, None, if◌then◌else◌}
use Rattle.std.specs.Str.{bytes_eq}
use Rattle.ex_value.specs.declared.Value.{Value}
use Rattle.ex_model.specs.declared.bindings.Binding.{Binding}

-- the value of a name
abbrev pub value_of : List Binding → List ℕ → Option Value
value_of [] x = None
value_of (b ∷ bs) x = if bytes_eq b.name x then Some b.value else value_of bs x

-- a name bound to a value: in the place of its binding, or at the end
abbrev pub put : List Binding → List ℕ → Value → List Binding
put [] x v = record { name = x; value = v } ∷ []
put (b ∷ bs) x v = if bytes_eq b.name x then record { name = x; value = v } ∷ bs else b ∷ put bs x v

-- bindings with others put over them, one after the other
abbrev pub put_all : List Binding → List Binding → List Binding
put_all bs [] = bs
put_all bs (b ∷ others) = put_all (put bs b.name b.value) others
