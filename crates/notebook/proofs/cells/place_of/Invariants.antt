use Rattle.std.proofs.Common.{◌≡◌, take, None}
use Rattle.std.specs.List.{flat_map}
use Rattle.notebook.specs.Book.{cells_of, found}
use Rattle.notebook.proofs.cells.place_of.Given as goal

abbrev pub invariant-loop-section : goal.invariant-loop-section
invariant-loop-section l = found l.id (flat_map cells_of (take l.section l.sections)) ≡ None
