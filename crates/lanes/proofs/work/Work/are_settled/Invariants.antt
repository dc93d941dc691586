use Rattle.std.proofs.Common.{◌≡◌, length, map}
use Rattle.notebook.specs.Before.{left}
use Rattle.std.specs.List.{list_all}
use Rattle.notebook.specs.Rules.{cell_number}
use Rattle.lanes.specs.Work.{is_settled}
use Rattle.lanes.proofs.work.Work.are_settled.Given as goal

-- all are settled exactly where those left are
abbrev pub invariant-loop-cell : goal.invariant-loop-cell
invariant-loop-cell l = list_all (is_settled l.book l.self) (map cell_number (left l.cells)) ≡ list_all (is_settled l.book l.self) (map cell_number (left l.rest))

abbrev pub decreases-loop-cell : goal.decreases-loop-cell
decreases-loop-cell l = length (left l.rest)
