use Rattle.std.proofs.Common.{◌≡◌, ◌++◌, length, map}
use Rattle.notebook.specs.Before.{left}
use Rattle.notebook.specs.Flow.{passed}
use Rattle.freshness.proofs.walk.path_of.Given as goal

-- what is copied so far, and what is left
abbrev pub invariant-loop-cell : goal.invariant-loop-cell
invariant-loop-cell l = map passed (left l.cells) ≡ l.path ++ map passed (left l.rest)

abbrev pub decreases-loop-cell : goal.decreases-loop-cell
decreases-loop-cell l = length (left l.rest)
