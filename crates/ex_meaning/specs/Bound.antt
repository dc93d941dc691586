-- Names with their values.
use Rattle.std.specs.Prelude.{ℕ, ◌+◌, List, [], ◌∷◌, Option, Some, None, if◌then◌else◌}
use Rattle.std.specs.Str.{bytes_eq}
use Rattle.ex_terms.specs.declared.values.Value.{Value}
use Rattle.ex_terms.specs.Seen.{term_of}
use Rattle.ex_terms.specs.Sizes.{size_of}

-- names, as lists of bytes, each with its value; a name counts by its first binding
abbrev pub Bindings : Type 0
Bindings = List (List ℕ × Value)

-- the value of a name
abbrev pub bound_to : Bindings → List ℕ → Option Value
bound_to [] x = None
bound_to (b ∷ bs) x = if bytes_eq b.0 x then Some b.1 else bound_to bs x

-- a name bound to a value: in the place of its binding, or at the end
abbrev pub put : Bindings → List ℕ → Value → Bindings
put [] x v = (x, v) ∷ []
put (b ∷ bs) x v = if bytes_eq b.0 x then (x, v) ∷ bs else b ∷ put bs x v

-- bindings with others put over them
abbrev pub put_all : Bindings → Bindings → Bindings
put_all bs [] = bs
put_all bs (b ∷ others) = put_all (put bs b.0 b.1) others

-- the first that is there
abbrev pub or_else : Option Value → Option Value → Option Value
or_else (Some v) o = Some v
or_else None o = o

-- a name has the value that the cell gave it, else the one from before the cell
abbrev pub seen : Bindings → Bindings → List ℕ → Option Value
seen base made x = or_else (bound_to made x) (bound_to base x)

-- the sizes of the values that are bound
abbrev pub bound_size : Bindings → ℕ
bound_size [] = 0
bound_size (b ∷ bs) = size_of (term_of b.1) + bound_size bs
