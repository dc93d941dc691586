-- What calls make of the work.
use Rattle.std.specs.Prelude.{ℕ, ◌==◌, ◌&&◌, not, Bool, true, false, if◌then◌else◌, List, [], ◌∷◌, ◌++◌, Option, Some, None, is_some, map, filter, find, unwrap_or}
use Rattle.std.specs.List.{list_any}
use Rattle.ex_model.specs.declared.ran.Shown.{Shown}
use Rattle.notebook.specs.declared.parts.Parts.{Parts}
use Rattle.notebook.specs.declared.parts.Passed.{Passed}
use Rattle.notebook.specs.declared.states.Lane.{Lane}
use Rattle.notebook.specs.Book.{cells, found}
use Rattle.notebook.specs.Flow.{path, lane_of}
use Rattle.lanes.specs.declared.work.Mark.{Mark}
use Rattle.lanes.specs.declared.work.Running.{Running}
use Rattle.lanes.specs.declared.work.Work.{Work}
use Rattle.lanes.specs.Work.{runs_cell, failed_ancestor, same_lane}

-- the mark of a cell for which nothing was asked yet
abbrev pub new_mark : ℕ → Mark
new_mark cell = record { cell = cell; queued = false; aborted = false; last = None }

-- the marks with that of the cell changed, and made first where there is none
abbrev pub marked : ℕ → (Mark → Mark) → List Mark → List Mark
marked cell f [] = f (new_mark cell) ∷ []
marked cell f (m ∷ ms) = if m.cell == cell then f m ∷ ms else m ∷ marked cell f ms

-- the marks with that of the cell changed, if there is one
abbrev pub remarked : ℕ → (Mark → Mark) → List Mark → List Mark
remarked cell f [] = []
remarked cell f (m ∷ ms) = if m.cell == cell then f m ∷ ms else m ∷ remarked cell f ms

-- a mark once its cell was asked for, its evaluation began, its evaluation showed this along a path, and it was cancelled
abbrev pub as_asked : Mark → Mark
as_asked m = record m { queued = true }

abbrev pub as_begun : Mark → Mark
as_begun m = record m { queued = false }

abbrev pub as_stored : List Passed → Shown → Mark → Mark
as_stored p shown m = record m { aborted = false; last = Some (record { path = p; shown = shown }) }

abbrev pub as_cancelled : Mark → Mark
as_cancelled m = record m { queued = false; aborted = true }

abbrev pub as_aborted : Mark → Mark
as_aborted m = record m { aborted = true }

-- the cell is queued
abbrev pub asked : ℕ → Work → Work
asked cell w = record w { marks = marked cell as_asked w.marks }

-- the cell's evaluation begins: the cell isn't queued any more, and its present path is kept
abbrev pub begun : Parts → Lane → ℕ → ℕ → Work → Work
begun n lane eval cell w = record { marks = marked cell as_begun w.marks; running = w.running ++ record { lane = lane; eval = eval; cell = cell; path = unwrap_or (path n cell) [] } ∷ []; started = eval }

-- the running evaluation of a number, and the others
abbrev pub is_eval : ℕ → Running → Bool
is_eval eval r = r.eval == eval

abbrev pub running_eval : Work → ℕ → Option Running
running_eval w eval = find (is_eval eval) w.running

abbrev pub is_other_eval : ℕ → Running → Bool
is_other_eval eval r = not (r.eval == eval)

-- a running evaluation's answer is kept: it runs no more, and its cell isn't marked aborted
abbrev pub stored : Shown → Work → Option Running → Work
stored shown w None = w
stored shown w (Some r) = record w { marks = remarked r.cell (as_stored r.path shown) w.marks; running = filter (is_other_eval r.eval) w.running }

-- the cell isn't queued any more, its running evaluation is taken away, and it is marked aborted
abbrev pub runs_other : ℕ → Running → Bool
runs_other cell r = not (runs_cell cell r)

abbrev pub cancelled : ℕ → Work → Work
cancelled cell w = record w { marks = remarked cell as_cancelled w.marks; running = filter (runs_other cell) w.running }

-- of cells that live no more all is dropped
abbrev pub lives : Parts → ℕ → Bool
lives n cell = is_some (found cell (cells n))

abbrev pub mark_lives : Parts → Mark → Bool
mark_lives n m = lives n m.cell

abbrev pub run_lives : Parts → Running → Bool
run_lives n r = lives n r.cell

abbrev pub without_dead : Parts → Work → Work
without_dead n w = record w { marks = filter (mark_lives n) w.marks; running = filter (run_lives n) w.running }

-- an evaluation whose cell has another lane is taken away, and the cell is marked aborted
abbrev pub is_lane : Lane → Option Lane → Bool
is_lane lane None = false
is_lane lane (Some other) = same_lane lane other

abbrev pub is_home : Parts → Running → Bool
is_home n r = is_lane r.lane (lane_of n r.cell)

abbrev pub has_moved : Parts → ℕ → Running → Bool
has_moved n cell r = runs_cell cell r && not (is_home n r)

abbrev pub moved_mark : Parts → List Running → Mark → Mark
moved_mark n rs m = if list_any (has_moved n m.cell) rs then as_aborted m else m

abbrev pub without_moved : Parts → Work → Work
without_moved n w = record w { marks = map (moved_mark n w.running) w.marks; running = filter (is_home n) w.running }

-- the work once the notebook has become this one
abbrev pub housed : Parts → Work → Work
housed n w = without_moved n (without_dead n w)

-- all queued cells that have an ancestor that failed are taken out and marked aborted, in one step
abbrev pub is_hopeless : Parts → Work → ℕ → Bool
is_hopeless n w cell = is_some (failed_ancestor n w cell)

abbrev pub swept_mark : Parts → Work → Mark → Mark
swept_mark n w m = if m.queued && is_hopeless n w m.cell then as_cancelled m else m

abbrev pub swept : Parts → Work → Work
swept n w = record w { marks = map (swept_mark n w) w.marks }
