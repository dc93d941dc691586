use Rattle.std.proofs.Common.{◌≡◌, map, take}
use Rattle.std.specs.List.{AllByRecursion}
use Rattle.session_ops.specs.State.{State}
use Rattle.session_core.specs.Logs.{IsLogIn, log_cell, with_revision}
use Rattle.session_core.proofs.logs.revisions.Given as goal

-- the earlier cells stand in the list
abbrev pub invariant-loop-log : goal.invariant-loop-log
invariant-loop-log l = (s : State) → AllByRecursion (IsLogIn s) l.logs → l.revs ≡ map (with_revision s) (map log_cell (take l.log-index l.logs))
