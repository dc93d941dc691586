-- What calls make of the queues, and what they answer.
use Rattle.std.specs.Prelude.{ℕ, not, Bool, if◌then◌else◌, [], ◌∷◌, ◌++◌, Option, filter, find, option_map}
use Rattle.notebook.specs.declared.parts.Parts.{Parts}
use Rattle.notebook.specs.declared.states.Lane.{Lane}
use Rattle.section_queues.specs.declared.wants.Run.{Run}
use Rattle.section_queues.specs.Facts.{Facts, is_other}
use Rattle.section_queues.specs.Wanted.{Wanted, cell_of_run, eval_of_run, is_eval, is_other_eval, is_queued, runs_cell, runs_other}
use Rattle.section_queues.specs.Starts.{is_hopeless}

-- nothing is queued and nothing runs
abbrev pub no_wants : Wanted
no_wants = record { queued = []; running = [] }

-- the cell is queued: at the end, if it wasn't
abbrev pub asked : ℕ → Wanted → Wanted
asked cell w = if is_queued w cell then w else record w { queued = w.queued ++ cell ∷ [] }

-- the cell isn't queued
abbrev pub unasked : ℕ → Wanted → Wanted
unasked cell w = record w { queued = filter (is_other cell) w.queued }

-- the evaluation runs in the lane, and its cell isn't queued
abbrev pub begun : Lane → Run → Wanted → Wanted
begun lane run w = record { queued = filter (is_other run.cell) w.queued; running = w.running ++ record { lane = lane; run = run } ∷ [] }

-- the number of a cell's running evaluation, and what is left without it
abbrev pub eval_of : Wanted → ℕ → Option ℕ
eval_of w cell = option_map eval_of_run (find (runs_cell cell) w.running)

abbrev pub taken_away : ℕ → Wanted → Wanted
taken_away cell w = record w { running = filter (runs_other cell) w.running }

-- the cell of a running evaluation, and what is left without it
abbrev pub cell_of : Wanted → ℕ → Option ℕ
cell_of w eval = option_map cell_of_run (find (is_eval eval) w.running)

abbrev pub ended : ℕ → Wanted → Wanted
ended eval w = record w { running = filter (is_other_eval eval) w.running }

-- the queued cells are those without an ancestor that failed
abbrev pub is_hopeful : Parts → Facts → ℕ → Bool
is_hopeful n f cell = not (is_hopeless n f cell)

abbrev pub swept : Parts → Facts → Wanted → Wanted
swept n f w = record w { queued = filter (is_hopeful n f) w.queued }
