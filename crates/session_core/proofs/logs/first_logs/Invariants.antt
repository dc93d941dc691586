use Rattle.std.proofs.Common.{◌∷◌, take}
use Rattle.std.specs.List.{AllByRecursion, flat_map}
use Rattle.notebook.specs.Book.{cells, cells_of}
use Rattle.session_ops.specs.State.{opening}
use Rattle.session_core.specs.Logs.{LineUp, BeginsIn}
use Rattle.session_core.proofs.logs.first_logs.Given as goal

-- the setup cell and the earlier sections' cells have their logs
abbrev pub invariant-loop-section : goal.invariant-loop-section
invariant-loop-section l = AllByRecursion (BeginsIn l.book) (cells l.book) → LineUp (opening l.book) (l.book.setup ∷ flat_map cells_of (take l.section-index l.section-items)) l.logs.items
