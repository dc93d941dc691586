use Rattle.std.proofs.Common.{◌≡◌, length}
use Rattle.lanes.specs.Changes.{moved_mark}
use Rattle.lanes.proofs.Lists.{half}
use Rattle.lanes.proofs.change.abort_moved.Given as goal

-- the earlier marks are done, and the others are as they were
abbrev pub invariant-loop-at : goal.invariant-loop-at
invariant-loop-at l = (l.marks ≡ half (moved_mark l.book l.running) l.at l.fn.marks) × (l.at-end ≡ length l.fn.marks)
