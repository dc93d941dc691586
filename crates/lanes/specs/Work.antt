-- What is asked of the evaluators, what runs, and what was shown.
use Rattle.std.specs.Prelude.{ℕ, ◌==◌, ◌&&◌, ◌||◌, not, Bool, true, false, if◌then◌else◌, List, [], ◌∷◌, length, Option, Some, None, is_some, map, filter, find, option_map, option_and_then, unwrap_or}
use Rattle.std.specs.List.{list_any, list_all}
use Rattle.ex_model.specs.declared.ran.Outcome.{Outcome}
use Rattle.ex_model.specs.declared.ran.Outcome.TheVariants.{Value, Fault}
use Rattle.ex_model.specs.declared.ran.Shown.{Shown}
use Rattle.notebook.specs.declared.parts.Cell.{Cell}
use Rattle.notebook.specs.declared.parts.Section.{Section}
use Rattle.notebook.specs.declared.parts.Parts.{Parts}
use Rattle.notebook.specs.declared.parts.Passed.{Passed}
use Rattle.notebook.specs.declared.states.Lane.{Lane}
use Rattle.notebook.specs.declared.states.Lane.TheVariants.{Main, Branch}
use Rattle.notebook.specs.Rules.{cell_number}
use Rattle.notebook.specs.Flow.{path, flow, lane_of, lane_cells, is_cell, is_section, section_code}
use Rattle.notebook.specs.Validity.{validity_by, is_evaluated_so}
use Rattle.lanes.specs.declared.work.Finished.{Finished}
use Rattle.lanes.specs.declared.work.Mark.{Mark}
use Rattle.lanes.specs.declared.work.Running.{Running}
use Rattle.lanes.specs.declared.work.Work.{Work}

-- nothing was asked for yet
abbrev pub no_work : Work
no_work = record { marks = []; running = []; started = 0 }

-- the mark of a cell, if it has one
abbrev pub is_mark_of : ℕ → Mark → Bool
is_mark_of cell m = m.cell == cell

abbrev pub mark_of : Work → ℕ → Option Mark
mark_of w cell = find (is_mark_of cell) w.marks

-- whether a cell is queued, whether it is marked aborted, and its last finished evaluation: a cell without a mark is neither, and none was finished
abbrev pub queued_by : Option Mark → Bool
queued_by None = false
queued_by (Some m) = m.queued

abbrev pub aborted_by : Option Mark → Bool
aborted_by None = false
aborted_by (Some m) = m.aborted

abbrev pub last_by : Option Mark → Option Finished
last_by None = None
last_by (Some m) = m.last

abbrev pub is_queued : Work → ℕ → Bool
is_queued w cell = queued_by (mark_of w cell)

abbrev pub is_aborted : Work → ℕ → Bool
is_aborted w cell = aborted_by (mark_of w cell)

abbrev pub last_finished : Work → ℕ → Option Finished
last_finished w cell = last_by (mark_of w cell)

abbrev pub path_read : Finished → List Passed
path_read f = f.path

abbrev pub shown_in : Finished → Shown
shown_in f = f.shown

-- whether a cell runs
abbrev pub runs_cell : ℕ → Running → Bool
runs_cell cell r = r.cell == cell

abbrev pub is_running : Work → ℕ → Bool
is_running w cell = list_any (runs_cell cell) w.running

-- whether a cell is evaluated: its last finished evaluation read the path that it has now
abbrev pub is_evaluated_on : Work → ℕ → List Passed → Bool
is_evaluated_on w cell present = is_evaluated_so (validity_by (is_aborted w cell) (option_map path_read (last_finished w cell)) present)

abbrev pub has_path : Work → ℕ → Option (List Passed) → Bool
has_path w cell None = false
has_path w cell (Some present) = is_evaluated_on w cell present

abbrev pub is_evaluated : Parts → Work → ℕ → Bool
is_evaluated n w cell = has_path w cell (path n cell)

-- whether an outcome, and a cell's last finished evaluation, is a fault
abbrev pub is_fault : Outcome → Bool
is_fault (Value v) = false
is_fault (Fault f) = true

abbrev pub shows_fault : Option Finished → Bool
shows_fault None = false
shows_fault (Some f) = is_fault f.shown.outcome

-- whether a cell is evaluated and shows a fault
abbrev pub has_failed : Parts → Work → ℕ → Bool
has_failed n w cell = is_evaluated n w cell && shows_fault (last_finished w cell)

-- a list up to the first element that passes, without it
abbrev pub before : {X : Type 0} → (X → Bool) → List X → List X
before p [] = []
before p (x ∷ xs) = if p x then [] else x ∷ before p xs

-- the numbers of the cells before a cell in its flow
abbrev pub earlier_in : Parts → ℕ → Lane → List ℕ
earlier_in n cell lane = map cell_number (before (is_cell cell) (lane_cells n lane))

abbrev pub earlier : Parts → ℕ → List ℕ
earlier n cell = unwrap_or (option_map (earlier_in n cell) (lane_of n cell)) []

-- the first cell before a cell in its flow that is evaluated and shows a fault
abbrev pub failed_ancestor : Parts → Work → ℕ → Option ℕ
failed_ancestor n w cell = find (has_failed n w) (earlier n cell)

-- whether a cell stands in the flow of another, which is its own too
abbrev pub stands_in : Parts → ℕ → ℕ → Bool
stands_in n cell other = list_any (is_cell cell) (unwrap_or (flow n other) [])

-- whether the mark is that of a queued cell in whose flow the cell stands
abbrev pub is_asked_by : Parts → ℕ → Mark → Bool
is_asked_by n cell m = m.queued && stands_in n cell m.cell

-- a cell is due if it is queued, or if it isn't evaluated and stands in the flow of a queued cell
abbrev pub is_due : Parts → Work → ℕ → Bool
is_due n w cell = is_queued w cell || (not (is_evaluated n w cell) && list_any (is_asked_by n cell) w.marks)

-- whether a section has the number and branches from another
abbrev pub is_branch : ℕ → Section → Bool
is_branch id s = is_section id s && is_some s.parent

-- a lane's own cells, in notebook order; nothing where there is no such lane
abbrev pub own_cells : Parts → Lane → List Cell
own_cells n Main = lane_cells n Main
own_cells n (Branch section) = unwrap_or (option_map section_code (find (is_branch section) n.sections)) []

-- whether a cell holds up those after it no more: it isn't queued and doesn't run, is evaluated, and shows no fault
abbrev pub is_settled : Parts → Work → ℕ → Bool
is_settled n w cell = not (is_queued w cell) && (not (is_running w cell) && (is_evaluated n w cell && not (shows_fault (last_finished w cell))))

abbrev pub settled_before : Parts → Work → ℕ → Option ℕ
settled_before n w cell = if list_all (is_settled n w) (earlier n cell) then Some cell else None

abbrev pub same_lane : Lane → Lane → Bool
same_lane Main Main = true
same_lane Main (Branch b) = false
same_lane (Branch a) Main = false
same_lane (Branch a) (Branch b) = a == b

abbrev pub runs_in : Lane → Running → Bool
runs_in lane r = same_lane lane r.lane

-- the cell that may start in a lane: its first due cell, where the lane runs none and all cells before it in its flow are settled
abbrev pub may_start : Parts → Work → Lane → Option ℕ
may_start n w lane =
    if list_any (runs_in lane) w.running
    then None
    else option_and_then (settled_before n w) (find (is_due n w) (map cell_number (own_cells n lane)))

-- the lanes: the main one, and then one for each section that branches, in notebook order
abbrev pub branch_lane : Section → Lane
branch_lane s = Branch s.id

abbrev pub branches : Section → Bool
branches s = is_some s.parent

abbrev pub lanes_of : Parts → List Lane
lanes_of n = Main ∷ map branch_lane (filter branches n.sections)

-- the first lane in which a cell may start
abbrev pub may_start_in : Parts → Work → Lane → Bool
may_start_in n w lane = is_some (may_start n w lane)

abbrev pub ready_lane : Parts → Work → Option Lane
ready_lane n w = find (may_start_in n w) (lanes_of n)

-- nothing is queued and nothing runs
abbrev pub is_queued_mark : Mark → Bool
is_queued_mark m = m.queued

abbrev pub is_idle : Work → Bool
is_idle w = not (list_any is_queued_mark w.marks) && (length w.running == 0)
