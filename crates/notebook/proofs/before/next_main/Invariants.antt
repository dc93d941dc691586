use Rattle.std.proofs.Common.{◌≡◌, drop}
use Rattle.notebook.specs.Flow.{main_cells}
use Rattle.notebook.proofs.before.next_main.Given as goal

-- the main code is that of the sections left
abbrev pub invariant-loop-at : goal.invariant-loop-at
invariant-loop-at l = main_cells l.sections ≡ main_cells (drop l.at l.sections)
