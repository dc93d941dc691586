use Rattle.std.proofs.Common.{◌≡◌, ◌+◌, length, drop}
use Rattle.std.specs.List.{flat_map}
use Rattle.notebook.specs.Book.{cells_of}
use Rattle.notebook.proofs.sections.cell_count.Given as goal

abbrev pub invariant-loop-section : goal.invariant-loop-section
invariant-loop-section l = l.count + length (flat_map cells_of (drop l.section-index l.sections)) ≡ length (flat_map cells_of l.sections)
