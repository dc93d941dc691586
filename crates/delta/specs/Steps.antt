-- The steps of a delta, its reach, and where it cuts a text.
use Rattle.std.specs.Prelude.{ℕ, ◌+◌, if◌then◌else◌, List, [], ◌∷◌, map, sum_by, replicate, Option, Some, None}
use Rattle.std.specs.List.{flat_map}
use Rattle.utf16_text.specs.Units.{units, unit_count, is_whole}
use Rattle.delta.specs.declared.Step.{Step}
use Rattle.delta.specs.declared.Step.TheVariants.{Retain, Insert, Delete}
use Rattle.delta.specs.Spread.{Small, Keep, Drop, Put, keep, gap, woven}

-- how many old units a step passes
abbrev pub passed : Step → ℕ
passed (Retain n) = n
passed (Insert text) = 0
passed (Delete n) = n

-- how many units a step puts in
abbrev pub put_in : Step → ℕ
put_in (Retain n) = 0
put_in (Insert text) = unit_count text
put_in (Delete n) = 0

-- the reach: how many old units the steps pass
abbrev pub reach_of : List Step → ℕ
reach_of steps = sum_by passed steps

-- how many units the steps put in
abbrev pub inserted_by : List Step → ℕ
inserted_by steps = sum_by put_in steps

-- the small steps that a step stands for
abbrev pub small_steps : Step → List Small
small_steps (Retain n) = replicate n Keep
small_steps (Insert text) = map Put (units text)
small_steps (Delete n) = replicate n Drop

abbrev pub all_small : List Step → List Small
all_small steps = flat_map small_steps steps

-- the units that the steps make of a text's units
abbrev pub applied : List Step → List ℕ → List ℕ
applied steps us = woven (keep (all_small steps)) (gap (all_small steps)) us

-- the cuts: the old place after each step, where the first step begins at a place
abbrev pub cuts_from : ℕ → List Step → List ℕ
cuts_from at [] = []
cuts_from at (step ∷ steps) = (at + passed step) ∷ cuts_from (at + passed step) steps

-- the first of the places that stands within a character
abbrev pub first_broken : List ℕ → List ℕ → Option ℕ
first_broken cs [] = None
first_broken cs (at ∷ places) = if is_whole cs at then first_broken cs places else Some at

-- the first cut of the steps that splits a pair of the text
abbrev pub broken_cut : List Step → List ℕ → Option ℕ
broken_cut steps cs = first_broken cs (cuts_from 0 steps)
