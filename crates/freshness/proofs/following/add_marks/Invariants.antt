use Rattle.std.proofs.Common.{◌≡◌, drop}
use Rattle.freshness.specs.Following.{Extends, with_marks}
use Rattle.freshness.proofs.following.add_marks.Given as goal

-- what the cells that are left would give is what all give, and the marks so far begin with the old ones
abbrev pub invariant-loop-cell : goal.invariant-loop-cell
invariant-loop-cell l = record {
  rest : with_marks (drop l.cell-index l.cells) l.marks ≡ with_marks l.cells l.fn.marks;
  front : Extends l.fn.marks l.marks;
}
