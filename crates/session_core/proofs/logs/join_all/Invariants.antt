use Rattle.std.proofs.Common.{◌≡◌, false, map}
use Rattle.std.specs.List.{AllByRecursion}
use Rattle.session_ops.specs.Numbers.{is_in}
use Rattle.session_ops.specs.State.{State}
use Rattle.session_core.specs.Logs.{ArePast, IsLogIn, log_cell, once_joined}
use Rattle.session_core.proofs.logs.join_all.Given as goal

-- the earlier logs stand for the state in which the client has joined, and the others for the one before
abbrev pub invariant-loop-at : goal.invariant-loop-at
invariant-loop-at l =
    (map log_cell l.logs ≡ map log_cell l.fn.logs)
    × ((s : State) → is_in l.client s.joined ≡ false → AllByRecursion (IsLogIn s) l.fn.logs → ArePast (IsLogIn (once_joined l.client s)) (IsLogIn s) l.at l.logs)
