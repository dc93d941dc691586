use Rattle.std.proofs.Common.{◌≡◌, drop}
use Rattle.revisions.proofs.kept.drop_first.Given as goal

abbrev pub invariant-loop : goal.invariant-loop
invariant-loop l = l.kept.items ≡ drop l.counter l.fn.kept.items
