use Rattle.std.proofs.Common.{length, map}
use Rattle.notebook.specs.Before.{left}
use Rattle.notebook.specs.Flow.{passed}
use Rattle.session_core.specs.Jobs.{HasAfter}
use Rattle.session_core.proofs.Basing.{Walked}
use Rattle.session_core.proofs.job.base_of.Given as goal

-- the bindings after the cells that were passed
abbrev pub invariant-loop-cell : goal.invariant-loop-cell
invariant-loop-cell l = HasAfter (map passed (left l.cells)) → Walked (left l.cells) (left l.rest) l.bindings

abbrev pub decreases-loop-cell : goal.decreases-loop-cell
decreases-loop-cell l = length (left l.rest)
