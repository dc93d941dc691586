-- Worked starts and sweeps, by computation: a check of the definitions.
use Rattle.std.proofs.Common.{◌≡◌, ℕ, List, [], ◌∷◌, Option, Some, None, filter, refl}
use Rattle.notebook.specs.declared.parts.Cell.{Cell}
use Rattle.notebook.specs.declared.parts.Section.{Section}
use Rattle.notebook.specs.declared.parts.Parts.{Parts}
use Rattle.notebook.specs.declared.parts.Kind.TheVariants.{Code}
use Rattle.notebook.specs.declared.states.Lane.TheVariants.{Main, Branch}
use Rattle.notebook.specs.Book.{untitled}
use Rattle.section_queues.specs.Calls.{asked, begun, cell_of, ended, eval_of, no_wants, swept, taken_away}
use Rattle.section_queues.specs.Facts.{known}
use Rattle.section_queues.specs.Starts.{failed_ancestor, is_hopeless, may_start, ready_lane}
use Rattle.section_queues.specs.Wanted.{Wanted, running_in}

abbrev code : ℕ → Cell
code id = record { id = id; kind = Code; source = []; before = []; saved = [] }

abbrev section : ℕ → Option ℕ → List Cell → Section
section id parent cells = record { id = id; name = []; before = []; parent = parent; cells = cells }

-- a section, two branches of it with two cells each, and another section
abbrev book : Parts
book = record untitled {
  sections = section 1 None (code 1 ∷ [])
      ∷ section 2 (Some 1) (code 2 ∷ code 3 ∷ [])
      ∷ section 3 (Some 1) (code 4 ∷ code 5 ∷ [])
      ∷ section 4 None (code 6 ∷ [])
      ∷ [];
  next_cell = 7;
  next_section = 5;
}

-- the last cells of both branches are asked for
abbrev wants : Wanted
wants = asked 5 (asked 3 no_wants)

-- asked twice is asked once
once : asked 3 wants ≡ wants
once = refl

-- what stands before them starts first, the setup cell before all
setup_first : may_start book (known [] []) wants Main ≡ Some 0
setup_first = refl

then_the_section : may_start book (known (0 ∷ []) []) wants Main ≡ Some 1
then_the_section = refl

-- a branch waits for what stands before it
branch_waits : may_start book (known (0 ∷ []) []) wants (Branch 2) ≡ None
branch_waits = refl

-- then both branches may start, and the main lane has no more to do
one_branch : may_start book (known (0 ∷ 1 ∷ []) []) wants (Branch 2) ≡ Some 2
one_branch = refl

other_branch : may_start book (known (0 ∷ 1 ∷ []) []) wants (Branch 3) ≡ Some 4
other_branch = refl

nobody_asked : may_start book (known (0 ∷ 1 ∷ []) []) wants Main ≡ None
nobody_asked = refl

first_ready : ready_lane book (known (0 ∷ 1 ∷ []) []) wants ≡ Some (Branch 2)
first_ready = refl

-- a lane runs one evaluation, and the others don't wait for it
abbrev one_runs : Wanted
one_runs = begun (Branch 2) (record { eval = 3; cell = 2 }) wants

runs_one : may_start book (known (0 ∷ 1 ∷ []) []) one_runs (Branch 2) ≡ None
runs_one = refl

other_starts : may_start book (known (0 ∷ 1 ∷ []) []) one_runs (Branch 3) ≡ Some 4
other_starts = refl

-- the evaluation ends, or is taken away
knows_cell : cell_of one_runs 3 ≡ Some 2
knows_cell = refl

knows_eval : eval_of one_runs 2 ≡ Some 3
knows_eval = refl

no_such_eval : cell_of one_runs 4 ≡ None
no_such_eval = refl

ends : running_in (ended 3 one_runs) (Branch 2) ≡ None
ends = refl

goes : running_in (taken_away 2 one_runs) (Branch 2) ≡ None
goes = refl

-- a queued cell starts again where it is evaluated, and those after it wait
again : may_start book (known (0 ∷ 1 ∷ []) []) (asked 1 wants) Main ≡ Some 1
again = refl

wait_for_it : may_start book (known (0 ∷ 1 ∷ []) []) (asked 1 wants) (Branch 2) ≡ None
wait_for_it = refl

-- no section of the number, and one that branches from none
no_lane : may_start book (known (0 ∷ 1 ∷ []) []) wants (Branch 9) ≡ None
no_lane = refl

no_branch : may_start book (known (0 ∷ 1 ∷ []) []) (asked 1 wants) (Branch 1) ≡ None
no_branch = refl

-- a fault before both branches takes both cells out; one that isn't evaluated doesn't
fault_before : failed_ancestor book (known (0 ∷ 1 ∷ []) (1 ∷ [])) 5 ≡ Some 1
fault_before = refl

all_go : swept book (known (0 ∷ 1 ∷ []) (1 ∷ [])) wants ≡ no_wants
all_go = refl

which_go : filter (is_hopeless book (known (0 ∷ 1 ∷ []) (1 ∷ []))) wants.queued ≡ 3 ∷ 5 ∷ []
which_go = refl

stale_fault : swept book (known (0 ∷ []) (1 ∷ [])) wants ≡ wants
stale_fault = refl

-- a fault in one branch is none of the other's
one_goes : filter (is_hopeless book (known (0 ∷ 1 ∷ 2 ∷ []) (2 ∷ []))) wants.queued ≡ 3 ∷ []
one_goes = refl

-- the cell's own fault isn't before it
own_fault : failed_ancestor book (known (0 ∷ 1 ∷ []) (1 ∷ [])) 1 ≡ None
own_fault = refl

-- all of these are worked: a citation of this one has the file checked
pub worked : may_start book (known [] []) no_wants Main ≡ None
worked = refl
