use Rattle.std.proofs.Common.{◌≡◌, take, None, find}
use Rattle.lanes.specs.Work.{is_mark_of}
use Rattle.lanes.proofs.change.place_of.Given as goal

-- no earlier one passes
abbrev pub invariant-loop-at : goal.invariant-loop-at
invariant-loop-at l = find (is_mark_of l.cell) (take l.at l.marks) ≡ None
