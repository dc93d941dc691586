use Rattle.std.proofs.Common.{◌≡◌, ◌++◌, drop, string_bytes}
use Rattle.notebook.specs.declared.parts.Parts.{Parts}
use Rattle.lanes.specs.declared.work.Work.{Work}
use Rattle.driver.specs.Statuses.{Tells}
use Rattle.transcript.specs.Texts.{as_text}
use Rattle.driver.specs.Statuses.{AllHavePaths, code_lines}
use Rattle.driver.proofs.statuses.push_cells.Given as goal

-- what is printed so far and the cells that are left are all
abbrev pub invariant-loop-cell : goal.invariant-loop-cell
invariant-loop-cell l =
    (n : Parts) (w : Work) → Tells n w l.session → AllHavePaths n l.cells → (string_bytes l.out ++ as_text (code_lines n w l.home (drop l.cell-index l.cells)) ≡ string_bytes l.initial.out ++ as_text (code_lines n w l.home l.cells)) × AllHavePaths n (drop l.cell-index l.cells)
