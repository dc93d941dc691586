-- How a delta ends.
use Rattle.std.specs.Prelude.{◌<◌, ℕ, nat_le, IsTrue, Bool, false, List, [], ◌∷◌}
use Rattle.utf16_text.specs.Units.{unit_count}
use Rattle.delta.specs.declared.Step.{Step}
use Rattle.delta.specs.declared.Step.TheVariants.{Retain, Insert, Delete}
use Rattle.delta.specs.Moves.{text_after, transformed}
use Rattle.delta.specs.Steps.{reach_of}

-- whether a step puts a unit in or drops one
abbrev pub is_felt : Step → Bool
is_felt (Retain n) = false
is_felt (Insert text) = nat_le 1 (unit_count text)
is_felt (Delete n) = nat_le 1 n

-- whether the last step does, as that of every delta that isn't empty
abbrev pub ends_felt : List Step → Bool
ends_felt [] = false
ends_felt (step ∷ []) = is_felt step
ends_felt (step ∷ next ∷ steps) = ends_felt (next ∷ steps)

-- after the left the right still reaches past the text, and still ends in a step that is felt
pub record StaysPast (right_first : Bool) (left right : List Step) (t : List ℕ) : Type 0 where
  pub past : unit_count (text_after left t) < reach_of (transformed right_first left right)
  pub felt : IsTrue (ends_felt (transformed right_first left right))
