-- Cells that are lent.
use Rattle.std.specs.Prelude.{List, map}
use Rattle.std.specs.Borrow.{Bor}
use Rattle.notebook.specs.declared.parts.Cell.{Cell}

abbrev pub seen_cell : Bor Cell → Cell
seen_cell c = c.now

-- the cells behind references
abbrev pub seen : List (Bor Cell) → List Cell
seen cs = map seen_cell cs
