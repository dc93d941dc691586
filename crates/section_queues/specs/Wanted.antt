-- What is queued and what runs.
use Rattle.std.specs.Prelude.{ℕ, ◌==◌, ◌&&◌, ◌||◌, not, Bool, true, false, List, length, Option, find, option_map}
use Rattle.std.specs.List.{list_any}
use Rattle.notebook.specs.declared.states.Lane.{Lane}
use Rattle.notebook.specs.declared.states.Lane.TheVariants.{Main, Branch}
use Rattle.section_queues.specs.declared.wants.Run.{Run}
use Rattle.section_queues.specs.declared.wants.LaneRun.{LaneRun}
use Rattle.section_queues.specs.Apart.{AreApart}
use Rattle.section_queues.specs.Facts.{is_in, same_number}

-- the queued cells in the order in which they were asked for, and the running evaluations in the order in which they began
pub record Wanted : Type 0 where
  pub queued : List ℕ
  pub running : List LaneRun

abbrev pub same_lane : Lane → Lane → Bool
same_lane Main Main = true
same_lane Main (Branch b) = false
same_lane (Branch a) Main = false
same_lane (Branch a) (Branch b) = a == b

-- whether a run is in a lane, is an evaluation, and is of a cell
abbrev pub runs_in : Lane → LaneRun → Bool
runs_in lane r = same_lane r.lane lane

abbrev pub is_eval : ℕ → LaneRun → Bool
is_eval eval r = r.run.eval == eval

abbrev pub runs_cell : ℕ → LaneRun → Bool
runs_cell cell r = r.run.cell == cell

-- and whether it isn't
abbrev pub is_other_eval : ℕ → LaneRun → Bool
is_other_eval eval r = not (r.run.eval == eval)

abbrev pub runs_other : ℕ → LaneRun → Bool
runs_other cell r = not (r.run.cell == cell)

-- two runs clash that have a lane, an evaluation or a cell in common
abbrev pub clashes : LaneRun → LaneRun → Bool
clashes r s = runs_in s.lane r || (is_eval s.run.eval r || runs_cell s.run.cell r)

-- no cell is queued twice, and no lane, evaluation or cell runs twice
pub record IsOrderly (w : Wanted) : Type 0 where
  pub once : AreApart same_number w.queued
  pub apart : AreApart clashes w.running

-- whether a cell is queued, and whether it runs
abbrev pub is_queued : Wanted → ℕ → Bool
is_queued w cell = is_in cell w.queued

abbrev pub is_running : Wanted → ℕ → Bool
is_running w cell = list_any (runs_cell cell) w.running

-- the evaluation that runs in a lane
abbrev pub run_of : LaneRun → Run
run_of r = r.run

abbrev pub running_in : Wanted → Lane → Option Run
running_in w lane = option_map run_of (find (runs_in lane) w.running)

-- the number of a run's evaluation, and its cell
abbrev pub eval_of_run : LaneRun → ℕ
eval_of_run r = r.run.eval

abbrev pub cell_of_run : LaneRun → ℕ
cell_of_run r = r.run.cell

-- nothing is queued and nothing runs
abbrev pub is_idle : Wanted → Bool
is_idle w = (length w.queued == 0) && (length w.running == 0)
