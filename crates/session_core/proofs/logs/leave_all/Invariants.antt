use Rattle.std.proofs.Common.{◌≡◌, map}
use Rattle.std.specs.List.{AllByRecursion}
use Rattle.session_ops.specs.State.{State, once_left}
use Rattle.session_core.specs.Logs.{ArePast, IsLogIn, log_cell}
use Rattle.session_core.proofs.logs.leave_all.Given as goal

-- the earlier logs stand for the state in which the client has left, and the others for the one before
abbrev pub invariant-loop-at : goal.invariant-loop-at
invariant-loop-at l =
    (map log_cell l.logs ≡ map log_cell l.fn.logs)
    × ((s : State) → AllByRecursion (IsLogIn s) l.fn.logs → ArePast (IsLogIn (once_left l.client s)) (IsLogIn s) l.at l.logs)
