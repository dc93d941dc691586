use Rattle.std.proofs.Common.{◌≡◌, length}
use Rattle.lanes.specs.Changes.{swept_mark}
use Rattle.lanes.proofs.Lists.{half}
use Rattle.lanes.proofs.work.Work.sweep.Given as goal

-- the earlier marks are swept, and the rest is as it was
abbrev pub invariant-loop-at : goal.invariant-loop-at
invariant-loop-at l =
    (l.self ≡ record l.fn.self { marks = half (swept_mark l.book l.fn.self) l.at l.fn.self.marks }) × (l.at-end ≡ length l.fn.self.marks)
