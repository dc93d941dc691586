use Rattle.std.proofs.Common.{◌≡◌, drop}
use Rattle.delta.specs.Moves.{over}
use Rattle.revisions.specs.Kept.{deltas_of}
use Rattle.revisions.proofs.kept.moved_over.Given as goal

-- what was moved so far, moved over the rest, is moved over all
abbrev pub invariant-loop-at : goal.invariant-loop-at
invariant-loop-at l = over l.moved (deltas_of (drop l.at l.kept.items)) ≡ over l.delta (deltas_of (drop l.from l.kept.items))
