-- What is printed of a delta: a compact JSON array.
use Rattle.std.specs.Prelude.{ℕ, List, [], ◌∷◌, ◌++◌, codes}
use Rattle.std.specs.Fmt.{decimal}
use Rattle.std.specs.List.{flat_map}
use Rattle.delta.specs.declared.Step.{Step}
use Rattle.delta.specs.declared.Step.TheVariants.{Retain, Insert, Delete}
use Rattle.transcript.specs.Texts.{text_of}

-- a retain is a positive number, an insert a text, and a delete a negative number
abbrev pub step_text : Step → List ℕ
step_text (Retain n) = decimal n
step_text (Insert text) = text_of text
step_text (Delete n) = codes "-" ++ decimal n

-- a step with a comma before it
abbrev pub next_step_text : Step → List ℕ
next_step_text step = codes "," ++ step_text step

-- the steps with a comma between two
abbrev pub steps_text : List Step → List ℕ
steps_text [] = []
steps_text (step ∷ steps) = step_text step ++ flat_map next_step_text steps

abbrev pub delta_text : List Step → List ℕ
delta_text steps = codes "[" ++ (steps_text steps ++ codes "]")
