use Rattle.std.proofs.Common.{◌≡◌, take, None, find}
use Rattle.freshness.specs.Marked.{is_mark_of}
use Rattle.freshness.proofs.following.place_of.Given as goal

-- no earlier one passes
abbrev pub invariant-loop-at : goal.invariant-loop-at
invariant-loop-at l = find (is_mark_of l.cell) (take l.at l.marks) ≡ None
