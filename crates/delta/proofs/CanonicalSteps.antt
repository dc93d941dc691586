-- The test of each step in turn.
use Rattle.std.proofs.Common.{◌≡◌, ℕ, ◌^◌, ◌≤◌, List, take, drop}
use Rattle.delta.specs.Canonical.{first_bad, bad_step}
use Rattle.delta.specs.declared.Step.{Step}
use Rattle.delta.specs.Steps.{reach_of, inserted_by}

-- the first i steps keep the rules, and their sums are these
pub record SoFar (steps : List Step) (i reach inserted : ℕ) : Type 0 where
  pub same : first_bad (take i steps) (drop i steps) ≡ bad_step steps
  pub reached : reach ≡ reach_of (take i steps)
  pub put : inserted ≡ inserted_by (take i steps)
  pub reach_small : reach ≤ 2 ^ 62
  pub inserted_small : inserted ≤ 2 ^ 62
