-- What a packer holds.
use Rattle.std.specs.Prelude.{◌≡◌, ℕ, zero, suc, ◌+◌, ◌≤◌, List, [], ◌∷◌, ◌++◌, map, replicate}
use Rattle.utf16_text.specs.Units.{decoded}
use Rattle.delta.specs.Spread.{Small, Drop, Put, small_reach}
use Rattle.delta.specs.Pack.{inserting, deleting, kept, packed}
use Rattle.delta.specs.declared.Step.{Step}
use Rattle.delta.specs.declared.Step.TheVariants.{Retain}
use Rattle.delta.specs.declared.packer.Packer.{Packer}

-- as many Keeps before some steps
abbrev pub kept_many : ℕ → List Step → List Step
kept_many zero steps = steps
kept_many (suc n) steps = kept (kept_many n steps)

-- a retain, if it is one
abbrev pub retaining : ℕ → List Step
retaining zero = []
retaining (suc n) = Retain (suc n) ∷ []

-- the steps of a delta: what is made, and what the open stretch gives with these small steps to come
abbrev pub packs : Packer → List Small → List Step
packs p s = p.made.items ++ kept_many p.keeps (packed (map Put p.puts.items ++ (replicate p.drops Drop ++ s)))

-- the open stretch is ended: with any steps to come the whole is the same
pub record IsFlushed (old new : Packer) : Type 0 where
  pub puts : new.puts.items ≡ []
  pub drops : new.drops ≡ 0
  pub keeps : new.keeps ≤ old.keeps
  pub same : (d : List Step) → new.made.items ++ kept_many new.keeps d ≡ old.made.items ++ kept_many old.keeps (inserting (decoded old.puts.items) ++ (deleting old.drops ++ d))

-- these small steps were taken
pub record TakesSteps (old new : Packer) (more : List Small) : Type 0 where
  pub same : (s : List Small) → packs new s ≡ packs old (more ++ s)
  pub count : new.keeps + new.drops ≤ old.keeps + old.drops + small_reach more
