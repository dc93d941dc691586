use Rattle.std.proofs.Common.{◌≡◌, take, None}
use Rattle.notebook.specs.Book.{found}
use Rattle.notebook.proofs.cells.place_in.Given as goal

abbrev pub invariant-loop-at : goal.invariant-loop-at
invariant-loop-at l = found l.id (take l.at l.cells) ≡ None
