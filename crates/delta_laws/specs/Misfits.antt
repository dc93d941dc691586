-- What keeps a delta from a text.
use Rattle.std.specs.Prelude.{ℕ, nat_le, if◌then◌else◌, List, Option, Some, None}
use Rattle.utf16_text.specs.Units.{unit_count}
use Rattle.delta.specs.declared.Step.{Step}
use Rattle.delta.specs.Steps.{reach_of, broken_cut}

-- it reaches past the text, which has so many units, or cuts it inside a character, first at this place
pub data Misfit : Type 0 where
  Past : ℕ → Misfit
  Splits : ℕ → Misfit

-- the first cut inside a character, if there is one
abbrev pub split_misfit : Option ℕ → Option Misfit
split_misfit None = None
split_misfit (Some at) = Some (Splits at)

-- why a delta doesn't fit a text: nothing where it fits
abbrev pub misfit : List Step → List ℕ → Option Misfit
misfit d t = if nat_le (reach_of d) (unit_count t) then split_misfit (broken_cut d t) else Some (Past (unit_count t))
