-- Cells that have not been made yet.
use Rattle.std.specs.Prelude.{◌≡◌, ◌≤◌, ℕ}
use Rattle.session_ops.specs.State.{State, revision}

-- no delta was applied to a number that no cell has been given yet, as in each legal history
abbrev pub TouchesMadeCells : State → Type 0
TouchesMadeCells s = (cell : ℕ) → s.book.next_cell ≤ cell → revision s cell ≡ 0
