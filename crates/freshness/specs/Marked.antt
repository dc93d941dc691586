-- What is kept for the cells of a notebook.
use Rattle.std.specs.Prelude.{◌≡◌, ℕ, ◌==◌, Bool, true, false, List, [], Option, Some, None, is_some, find, unwrap_or}
use Rattle.std.specs.Option.{option_map}
use Rattle.ex_model.specs.declared.ran.Shown.{Shown}
use Rattle.notebook.specs.declared.parts.Parts.{Parts}
use Rattle.notebook.specs.declared.parts.Passed.{Passed}
use Rattle.notebook.specs.Flow.{lane_of, path}
use Rattle.freshness.specs.declared.mark.Started.{Started}
use Rattle.freshness.specs.declared.mark.Finished.{Finished}
use Rattle.freshness.specs.declared.mark.Mark.{Mark}

-- a notebook, and the marks of its cells
pub record Marked : Type 0 where
  pub book : Parts
  pub marks : List Mark

-- the mark of a cell, if it has one
abbrev pub is_mark_of : ℕ → Mark → Bool
is_mark_of cell m = m.cell == cell

abbrev pub mark_of : Marked → ℕ → Option Mark
mark_of m cell = find (is_mark_of cell) m.marks

-- whether a live setup or code cell has the number
abbrev pub is_live : Parts → ℕ → Bool
is_live n cell = is_some (lane_of n cell)

-- each live setup or code cell has a mark, and no other number has one
pub record IsMarked (m : Marked) : Type 0 where
  pub each : (cell : ℕ) → is_some (mark_of m cell) ≡ is_live m.book cell

-- whether a cell is marked aborted, and its last finished evaluation: a cell without a mark isn't, and none was finished
abbrev pub aborted_by : Option Mark → Bool
aborted_by None = false
aborted_by (Some m) = m.aborted

abbrev pub finished_by : Option Mark → Option Finished
finished_by None = None
finished_by (Some m) = m.finished

abbrev pub is_aborted : Marked → ℕ → Bool
is_aborted m cell = aborted_by (mark_of m cell)

abbrev pub finished_of : Marked → ℕ → Option Finished
finished_of m cell = finished_by (mark_of m cell)

-- the path that a finished evaluation read, and what it showed
abbrev pub path_read : Finished → List Passed
path_read f = f.path

abbrev pub shown_in : Finished → Shown
shown_in f = f.shown

-- the number of the evaluation that was last started for a cell, whether or not it has finished
abbrev pub finished_eval : Finished → ℕ
finished_eval f = f.eval

abbrev pub last_eval : Option Started → Option Finished → Option ℕ
last_eval None last = option_map finished_eval last
last_eval (Some s) last = Some s.eval

abbrev pub last_started_by : Option Mark → Option ℕ
last_started_by None = None
last_started_by (Some m) = last_eval m.started m.finished

abbrev pub last_started : Marked → ℕ → Option ℕ
last_started m cell = last_started_by (mark_of m cell)

-- a cell's path in a notebook, empty where it has none
abbrev pub present_path : Parts → ℕ → List Passed
present_path n cell = unwrap_or (path n cell) []

-- the mark of a cell for which nothing was started yet
abbrev pub new_mark : ℕ → Mark
new_mark cell = record { cell = cell; aborted = false; started = None; finished = None }

-- a mark once an evaluation was started along a path
abbrev pub with_started : Started → Mark → Mark
with_started s m = record m { started = Some s }

abbrev pub as_started : ℕ → List Passed → Mark → Mark
as_started eval p m = with_started (record { eval = eval; path = p }) m

-- a finished evaluation that shows something else
abbrev pub with_shown : Shown → Finished → Finished
with_shown shown f = record f { shown = shown }

abbrev pub shown_again : Shown → Option Finished → Option Finished
shown_again shown last = option_map (with_shown shown) last

-- a mark once the evaluation that was last started has finished: it read the path that was kept at its start
abbrev pub finish_by : ℕ → Shown → Mark → Option Started → Mark
finish_by eval shown m None = record m { aborted = false; finished = shown_again shown m.finished }
finish_by eval shown m (Some s) = record m { aborted = false; started = None; finished = Some (record { eval = eval; path = s.path; shown = shown }) }

abbrev pub as_finished : ℕ → Shown → Mark → Mark
as_finished eval shown m = finish_by eval shown m m.started

-- a mark once the last attempt was broken off
abbrev pub as_aborted : Mark → Mark
as_aborted m = record m { aborted = true }
