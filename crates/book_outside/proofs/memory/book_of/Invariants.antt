use Rattle.std.proofs.Common.{◌≡◌, map, drop}
use Rattle.book_outside.specs.Outside.{held_under}
use Rattle.book_outside.specs.Memory.{entry_of}
use Rattle.book_outside.proofs.memory.book_of.Given as goal

abbrev pub invariant-loop-held : goal.invariant-loop-held
invariant-loop-held l = held_under l.name (map entry_of (drop l.held-index l.books)) ≡ held_under l.name (map entry_of l.books)
