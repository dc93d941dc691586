use Rattle.std.proofs.Common.{◌≡◌, take, map, None}
use Rattle.client_sync.specs.Client.{pending_of}
use Rattle.client_sync.specs.Stands.{pending_in}
use Rattle.client_sync.proofs.pending.place_of.Given as goal

-- none that was passed is of the cell
abbrev pub invariant-loop-at : goal.invariant-loop-at
invariant-loop-at l = pending_of l.cell (map pending_in (take l.at l.pending)) ≡ None
