use Rattle.std.proofs.Common.{◌≡◌, ◌≤◌, false, length, map}
use Rattle.session_ops.specs.Numbers.{is_in}
use Rattle.session_ops.specs.State.{State}
use Rattle.session_core.specs.Logs.{ArePast, IsLogIn, log_cell, once_joined}
use Rattle.session_core.proofs.logs.leave_first.Given as goal

-- the first logs still stand for the state in which the client has joined
abbrev pub invariant-loop-left : goal.invariant-loop-left
invariant-loop-left l =
    (l.left ≤ length l.logs)
    × ((map log_cell l.logs ≡ map log_cell l.initial.logs)
    × ((s : State) → is_in l.client s.joined ≡ false → ArePast (IsLogIn (once_joined l.client s)) (IsLogIn s) l.count l.initial.logs → ArePast (IsLogIn (once_joined l.client s)) (IsLogIn s) l.left l.logs))

abbrev pub decreases-loop-left : goal.decreases-loop-left
decreases-loop-left l = l.left
