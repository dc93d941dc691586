use Rattle.std.proofs.Common.{◌≡◌, drop}
use Rattle.session_core.specs.Logs.{place_in, later}
use Rattle.session_core.proofs.logs.place_of.Given as goal

-- the place is among those that are left
abbrev pub invariant-loop-at : goal.invariant-loop-at
invariant-loop-at l = place_in l.cell l.logs ≡ later l.at (place_in l.cell (drop l.at l.logs))
