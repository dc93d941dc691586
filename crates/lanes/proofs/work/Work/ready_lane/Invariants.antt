use Rattle.std.proofs.Common.{◌≡◌, drop, map, filter, find}
use Rattle.lanes.specs.Work.{may_start_in, branch_lane, branches, ready_lane}
use Rattle.lanes.proofs.work.Work.ready_lane.Given as goal

-- the first lane in which a cell may start is among those left
abbrev pub invariant-loop-section : goal.invariant-loop-section
invariant-loop-section l = ready_lane l.book l.self ≡ find (may_start_in l.book l.self) (map branch_lane (filter branches (drop l.section-index l.section-items)))
