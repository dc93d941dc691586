-- What a cell's last finished evaluation is worth. Another rule of validity changes this file alone.
use Rattle.std.specs.Prelude.{ℕ, List, Option}
use Rattle.std.specs.Option.{option_map}
use Rattle.notebook.specs.declared.parts.Passed.{Passed}
use Rattle.notebook.specs.declared.states.Validity.{Validity}
use Rattle.notebook.specs.Flow.{path}
use Rattle.notebook.specs.Validity.{validity_by}
use Rattle.freshness.specs.Marked.{Marked, finished_of, is_aborted, path_read}

-- where the cell's present path is this one: aborted where it is marked, else fresh where nothing was finished, else evaluated where the path read is this one, else stale
abbrev pub validity_on : Marked → ℕ → List Passed → Validity
validity_on m cell present = validity_by (is_aborted m cell) (option_map path_read (finished_of m cell)) present

-- in the notebook of the marks: none where no live setup or code cell has the number
abbrev pub validity_of : Marked → ℕ → Option Validity
validity_of m cell = option_map (validity_on m cell) (path m.book cell)
