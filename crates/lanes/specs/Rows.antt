-- What is told of a cell.
use Rattle.std.specs.Prelude.{◌≡◌, ℕ, List, Some, option_map, option_copied}
use Rattle.notebook.specs.declared.parts.Parts.{Parts}
use Rattle.notebook.specs.declared.parts.Passed.{Passed}
use Rattle.notebook.specs.Flow.{path}
use Rattle.notebook.specs.Validity.{status_by, validity_by}
use Rattle.lanes.specs.declared.work.Work.{Work}
use Rattle.lanes.specs.declared.judge.Row.{Row}
use Rattle.lanes.specs.Work.{is_queued, is_aborted, is_running, last_finished, path_read, shown_in}

-- what is asked for a cell, what its last evaluation is worth by its present path, and what that showed
pub record IsRow (n : Parts) (w : Work) (cell : ℕ) (r : Row) : Type 0 where
  pub present : List Passed
  pub live : path n cell ≡ Some present
  pub status : r.status ≡ status_by (is_running w cell) (is_queued w cell)
  pub validity : r.validity ≡ validity_by (is_aborted w cell) (option_map path_read (last_finished w cell)) present
  pub shown : option_copied r.shown ≡ option_map shown_in (last_finished w cell)
