-- The deltas that a source took, and those that are kept of them.
use Rattle.std.specs.Prelude.{◌≡◌, ℕ, List, [], ◌∷◌, drop}
use Rattle.utf16_text.specs.Units.{unit_count}
use Rattle.delta.specs.declared.Step.{Step}
use Rattle.delta.specs.Moves.{FitsText, text_after, over}
use Rattle.revisions.specs.declared.kept.Kept.{Kept}

-- the deltas alone, in their order
abbrev pub deltas_of : List Kept → List (List Step)
deltas_of [] = []
deltas_of (k ∷ ks) = k.delta ∷ deltas_of ks

-- a delta moved over the kept ones from a place on, each of which goes first in a tie
abbrev pub over_kept : List Step → ℕ → List Kept → List Step
over_kept d from kept = over d (deltas_of (drop from kept))

-- the text that the deltas make of a text, one after the other
abbrev pub made_by : List (List Step) → List ℕ → List ℕ
made_by [] t = t
made_by (x ∷ xs) t = made_by xs (text_after x t)

-- the deltas lead from one text to another: each fits the text that those before it made
abbrev pub LeadsTo : List ℕ → List (List Step) → List ℕ → Type 0
LeadsTo t [] now = t ≡ now
LeadsTo t (x ∷ xs) now = FitsText x t × LeadsTo (text_after x t) xs now

-- each kept delta tells the length of the text before it, from this text on
abbrev pub HaveLens : List ℕ → List Kept → Type 0
HaveLens t [] = Unit {0}
HaveLens t (k ∷ ks) = (k.len ≡ unit_count t) × HaveLens (text_after k.delta t) ks

-- what holds where these kept deltas lead from one text to another, and each tells the length of the text before it
abbrev pub IfTheyLead : List ℕ → List Kept → List ℕ → Type 0 → Type 0
IfTheyLead t kept now holds = HaveLens t kept → LeadsTo t (deltas_of kept) now → holds
