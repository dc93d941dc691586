-- One unit after another.
use Rattle.std.specs.Prelude.{ℕ, List, [], ◌∷◌, Option, Some, None}

-- the characters of an answer: one or none
abbrev pub characters_of : Option ℕ → List ℕ
characters_of None = []
characters_of (Some c) = c ∷ []
