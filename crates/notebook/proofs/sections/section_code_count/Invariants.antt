use Rattle.std.proofs.Common.{◌≡◌, ◌+◌, drop}
use Rattle.std.specs.List.{flat_map}
use Rattle.notebook.specs.Book.{cells_of}
use Rattle.notebook.specs.Rules.{code_count}
use Rattle.notebook.proofs.sections.section_code_count.Given as goal

abbrev pub invariant-loop-section : goal.invariant-loop-section
invariant-loop-section l = l.count + code_count (flat_map cells_of (drop l.section-index l.sections)) ≡ code_count (flat_map cells_of l.sections)
