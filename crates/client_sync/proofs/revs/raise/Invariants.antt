use Rattle.std.proofs.Common.{◌≡◌, ◌++◌, drop, take, map}
use Rattle.client_sync.specs.Revisions.{raised_one}
use Rattle.client_sync.proofs.revs.raise.Given as goal

-- those that were passed are raised, and the others are as they were
abbrev pub invariant-loop-entry : goal.invariant-loop-entry
invariant-loop-entry l = l.revs ≡ map (raised_one l.cell l.rev) (take l.entry-index l.fn.revs) ++ drop l.entry-index l.fn.revs
