use Rattle.std.proofs.Common.{◌≡◌, drop}
use Rattle.session_ops.specs.Snapshot.{listed_revision}
use Rattle.client_sync.proofs.revs.rev_in.Given as goal

-- the cell's revision is among those that are left
abbrev pub invariant-loop-id : goal.invariant-loop-id
invariant-loop-id l = listed_revision l.cell l.revs ≡ listed_revision l.cell (drop l.id-index l.revs)
