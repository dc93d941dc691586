-- Which cells are due, which cell may start in a lane, and which can't be evaluated.
use Rattle.std.specs.Prelude.{ℕ, ◌&&◌, ◌||◌, not, Bool, if◌then◌else◌, List, [], ◌∷◌, Option, Some, None, is_some, map, filter, find, option_map, option_and_then, unwrap_or}
use Rattle.std.specs.List.{list_any, list_all}
use Rattle.notebook.specs.declared.parts.Cell.{Cell}
use Rattle.notebook.specs.declared.parts.Section.{Section}
use Rattle.notebook.specs.declared.parts.Parts.{Parts}
use Rattle.notebook.specs.declared.states.Lane.{Lane}
use Rattle.notebook.specs.declared.states.Lane.TheVariants.{Main, Branch}
use Rattle.notebook.specs.Rules.{cell_number}
use Rattle.notebook.specs.Flow.{flow, lane_of, lane_cells, is_cell, is_section, section_code}
use Rattle.section_queues.specs.Facts.{Facts, has_failed, is_evaluated, shows_fault}
use Rattle.section_queues.specs.Wanted.{Wanted, is_queued, is_running, runs_in}

-- a list up to the first element that passes, without it
abbrev pub before : {X : Type 0} → (X → Bool) → List X → List X
before p [] = []
before p (x ∷ xs) = if p x then [] else x ∷ before p xs

-- the numbers of the cells before a cell in its flow
abbrev pub earlier_in : Parts → ℕ → Lane → List ℕ
earlier_in n cell lane = map cell_number (before (is_cell cell) (lane_cells n lane))

abbrev pub earlier : Parts → ℕ → List ℕ
earlier n cell = unwrap_or (option_map (earlier_in n cell) (lane_of n cell)) []

-- the first cell before a cell in its flow that is evaluated and shows a fault
abbrev pub failed_ancestor : Parts → Facts → ℕ → Option ℕ
failed_ancestor n f cell = find (has_failed f) (earlier n cell)

-- a cell that has one can't be evaluated
abbrev pub is_hopeless : Parts → Facts → ℕ → Bool
is_hopeless n f cell = is_some (failed_ancestor n f cell)

-- whether a cell stands in the flow of another, which is its own too
abbrev pub stands_in : Parts → ℕ → ℕ → Bool
stands_in n cell other = list_any (is_cell cell) (unwrap_or (flow n other) [])

-- a cell is due if it is queued, or if it isn't evaluated and stands in the flow of a queued cell
abbrev pub is_due : Parts → Facts → Wanted → ℕ → Bool
is_due n f w cell = is_queued w cell || (not (is_evaluated f cell) && list_any (stands_in n cell) w.queued)

-- whether a section has the number and branches from another
abbrev pub is_branch : ℕ → Section → Bool
is_branch id s = is_section id s && is_some s.parent

-- a lane's own cells, in notebook order; nothing where there is no such lane
abbrev pub own_cells : Parts → Lane → List Cell
own_cells n Main = lane_cells n Main
own_cells n (Branch section) = unwrap_or (option_map section_code (find (is_branch section) n.sections)) []

-- whether a cell holds up those after it no more: it is neither queued nor running, is evaluated, and shows no fault
abbrev pub is_settled : Facts → Wanted → ℕ → Bool
is_settled f w cell = not (is_queued w cell) && (not (is_running w cell) && (is_evaluated f cell && not (shows_fault f cell)))

abbrev pub settled_before : Parts → Facts → Wanted → ℕ → Option ℕ
settled_before n f w cell = if list_all (is_settled f w) (earlier n cell) then Some cell else None

-- the cell that may start in a lane: its first due cell in notebook order, where the lane runs none and all cells before it in its flow are settled
abbrev pub may_start : Parts → Facts → Wanted → Lane → Option ℕ
may_start n f w lane =
    if list_any (runs_in lane) w.running
    then None
    else option_and_then (settled_before n f w) (find (is_due n f w) (map cell_number (own_cells n lane)))

-- the lanes: the main one, and then one for each section that branches, in notebook order
abbrev pub branch_lane : Section → Lane
branch_lane s = Branch s.id

abbrev pub branches : Section → Bool
branches s = is_some s.parent

abbrev pub lanes_of : Parts → List Lane
lanes_of n = Main ∷ map branch_lane (filter branches n.sections)

-- the first lane that may start
abbrev pub may_start_in : Parts → Facts → Wanted → Lane → Bool
may_start_in n f w lane = is_some (may_start n f w lane)

abbrev pub ready_lane : Parts → Facts → Wanted → Option Lane
ready_lane n f w = find (may_start_in n f w) (lanes_of n)
