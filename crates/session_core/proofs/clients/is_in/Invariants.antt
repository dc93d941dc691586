use Rattle.std.proofs.Common.{◌≡◌, drop}
use Rattle.session_ops.specs.Numbers.{is_in}
use Rattle.session_core.proofs.clients.is_in.Given as goal

-- whether the client is among those that are left
abbrev pub invariant-loop-member : goal.invariant-loop-member
invariant-loop-member l = is_in l.client l.joined ≡ is_in l.client (drop l.member-index l.joined)
