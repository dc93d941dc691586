use Rattle.std.proofs.Common.{◌≡◌, ◌++◌, drop}
use Rattle.revisions.specs.Floors.{at_zero}
use Rattle.revisions.proofs.floors.floors_at_zero.Given as goal

-- what is put in so far and what is left are all
abbrev pub invariant-loop-client : goal.invariant-loop-client
invariant-loop-client l = l.floors.items ++ at_zero (drop l.client-index l.clients) ≡ at_zero l.clients
