use Rattle.std.proofs.Common.{◌≡◌, ◌++◌, drop}
use Rattle.notebook.specs.Flow.{main_cells}
use Rattle.notebook.specs.Seen.{seen}
use Rattle.notebook.proofs.flow.push_main.Given as goal

abbrev pub invariant-loop-section : goal.invariant-loop-section
invariant-loop-section l = seen l.lane.items ++ main_cells (drop l.section-index l.sections) ≡ seen l.fn.lane.items ++ main_cells l.sections
