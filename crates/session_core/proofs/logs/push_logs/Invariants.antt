use Rattle.std.proofs.Common.{◌++◌, List, take}
use Rattle.std.specs.List.{AllByRecursion}
use Rattle.notebook.specs.declared.parts.Cell.{Cell}
use Rattle.notebook.specs.declared.parts.Parts.{Parts}
use Rattle.session_ops.specs.State.{opening}
use Rattle.session_core.specs.Logs.{LineUp, BeginsIn}
use Rattle.session_core.proofs.logs.push_logs.Given as goal

-- the earlier cells have their logs
abbrev pub invariant-loop-cell : goal.invariant-loop-cell
invariant-loop-cell l =
    (n : Parts) (before : List Cell) → AllByRecursion (BeginsIn n) l.cells → LineUp (opening n) before l.initial.logs.items → LineUp (opening n) (before ++ take l.cell-index l.cells) l.logs.items
