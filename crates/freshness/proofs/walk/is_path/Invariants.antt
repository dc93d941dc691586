use Rattle.std.proofs.Common.{◌≡◌, drop, map}
use Rattle.notebook.specs.Before.{left}
use Rattle.notebook.specs.Flow.{passed}
use Rattle.notebook.specs.Validity.{same_path}
use Rattle.freshness.proofs.walk.is_path.Given as goal

-- the path is the same exactly where what is left of both is
abbrev pub invariant-loop-passed : goal.invariant-loop-passed
invariant-loop-passed l =
    same_path l.read (map passed (left l.cells)) ≡ same_path (drop l.passed-index l.read) (map passed (left l.rest))
