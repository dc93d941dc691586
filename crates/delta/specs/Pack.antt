-- Small steps as the steps of a delta.
use Rattle.std.specs.Prelude.{ℕ, zero, suc, List, [], ◌∷◌, ◌++◌}
use Rattle.utf16_text.specs.Units.{decoded}
use Rattle.delta.specs.declared.Step.{Step}
use Rattle.delta.specs.declared.Step.TheVariants.{Retain, Insert, Delete}
use Rattle.delta.specs.Spread.{Small, Keep, Drop, Put}

-- the units put in before the first Keep
abbrev pub first_puts : List Small → List ℕ
first_puts [] = []
first_puts (Keep ∷ s) = []
first_puts (Drop ∷ s) = first_puts s
first_puts (Put u ∷ s) = u ∷ first_puts s

-- how many units are dropped before the first Keep
abbrev pub first_drops : List Small → ℕ
first_drops [] = zero
first_drops (Keep ∷ s) = zero
first_drops (Drop ∷ s) = suc (first_drops s)
first_drops (Put u ∷ s) = first_drops s

-- an insert of the characters, if there is one
abbrev pub inserting : List ℕ → List Step
inserting [] = []
inserting (c ∷ cs) = Insert (c ∷ cs) ∷ []

-- a delete of as many units, if there is one
abbrev pub deleting : ℕ → List Step
deleting zero = []
deleting (suc n) = Delete (suc n) ∷ []

-- a stretch without a Keep: first what it puts in, without halves of pairs that stand alone, and then what it drops
abbrev pub stretch : List Small → List Step
stretch s = inserting (decoded (first_puts s)) ++ deleting (first_drops s)

-- one more Keep before the steps: it joins a retain, and falls away where nothing follows
abbrev pub kept : List Step → List Step
kept [] = []
kept (Retain n ∷ steps) = Retain (suc n) ∷ steps
kept (Insert text ∷ steps) = Retain 1 ∷ Insert text ∷ steps
kept (Delete n ∷ steps) = Retain 1 ∷ Delete n ∷ steps

-- the steps from the first Keep on
abbrev pub from_keep : List Small → List Step
from_keep [] = []
from_keep (Keep ∷ s) = kept (stretch s ++ from_keep s)
from_keep (Drop ∷ s) = from_keep s
from_keep (Put u ∷ s) = from_keep s

-- the canonical steps of small ones: a stretch, Keeps, a stretch, and so on
abbrev pub packed : List Small → List Step
packed s = stretch s ++ from_keep s
