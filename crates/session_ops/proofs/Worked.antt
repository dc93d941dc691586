-- Worked sessions, by computation: a check of the definitions.
use Rattle.std.proofs.Common.{◌≡◌, ℕ, List, [], ◌∷◌, ◌++◌, map, Option, Some, None, refl, codes}
use Rattle.std.specs.Prelude.{filter}
use Rattle.std.specs.Option.{option_map}
use Rattle.ex_value.specs.Values.{nil}
use Rattle.ex_model.specs.declared.ran.Shown.{Shown}
use Rattle.ex_model.specs.declared.ran.Outcome.{Outcome}
use Rattle.ex_model.specs.declared.ran.Outcome.TheVariants.{Value, Fault as Failed}
use Rattle.ex_model.specs.declared.fault.Fault.TheVariants.{Unbuilt}
use Rattle.delta.specs.declared.Step.TheVariants as step
use Rattle.notebook.specs.declared.parts.Cell.{Cell}
use Rattle.notebook.specs.declared.parts.Section.{Section}
use Rattle.notebook.specs.declared.parts.Parts.{Parts}
use Rattle.notebook.specs.declared.parts.Kind.{Kind}
use Rattle.notebook.specs.declared.parts.Kind.TheVariants.{Code, Markdown}
use Rattle.notebook.specs.declared.change.CellKind.TheVariants as new
use Rattle.notebook.specs.declared.states.Lane.TheVariants.{Main, Branch}
use Rattle.notebook.specs.declared.states.Validity.{Validity}
use Rattle.notebook.specs.declared.states.Validity.TheVariants.{Fresh, Evaluated, Stale, Aborted}
use Rattle.notebook.specs.Book.{untitled, cells}
use Rattle.notebook.specs.Rules.{cell_number}
use Rattle.notebook.specs.declared.parts.Passed.{Passed}
use Rattle.notebook.specs.Flow.{path, flow, lane_of}
use Rattle.notebook.specs.Validity.{validity_by}
use Rattle.session_ops.specs.declared.entry.Op.TheVariants.{Join, Leave, InsertSection, DeleteSection, SetParent, InsertCell, DeleteCell, RestoreCell, MoveCell, Delta, Report, Queue, Cancel}
use Rattle.session_ops.specs.declared.entry.Call.{Call}
use Rattle.session_ops.specs.declared.entry.Call.TheVariants.{Client, Start, Respond}
use Rattle.session_ops.specs.declared.entry.Refusal.TheVariants.{NotJoined, NoCell, NotCode, BadIndex, BadParent, HasBranches, TooNew, TooOld, AncestorFailed, NotQueued}
use Rattle.session_ops.specs.declared.entry.Reply.{Reply}
use Rattle.session_ops.specs.declared.entry.Reply.TheVariants.{Accepted, Applied, NewCell, NewSection, Started, Stored, Late, Refused}
use Rattle.session_ops.specs.declared.entry.Entry.{Entry}
use Rattle.lanes.specs.Work.{path_read, last_finished, is_aborted, may_start, ready_lane, is_queued_mark}
use Rattle.session_ops.specs.State.{State, opening, after, reply, state, jobs, least, first_source}

abbrev written : ℕ → Kind → List ℕ → Cell
written id kind source = record { id = id; kind = kind; source = source; before = []; saved = [] }

abbrev code : ℕ → List ℕ → Cell
code id source = written id Code source

abbrev section : ℕ → Option ℕ → List Cell → Section
section id parent cells = record { id = id; name = []; before = []; parent = parent; cells = cells }

abbrev book : List Section → Parts
book sections = record untitled { sections = sections }

-- a call under the number 0, with its answer
abbrev answered : State → Call → Entry
answered s call = record { by = 0; call = call; reply = reply s call }

-- the answers to calls that are made one after the other, and the state after them
abbrev replies : State → List Call → List Reply
replies s [] = []
replies s (c ∷ cs) = reply s c ∷ replies (after s (answered s c)) cs

abbrev played : State → List Call → State
played s [] = s
played s (c ∷ cs) = played (after s (answered s c)) cs

abbrev validity : State → ℕ → List Passed → Validity
validity s cell present = validity_by (is_aborted s.work cell) (option_map path_read (last_finished s.work cell)) present

abbrev validities : State → List ℕ → List (Option Validity)
validities s [] = []
validities s (cell ∷ cells) = option_map (validity s cell) (path s.book cell) ∷ validities s cells

abbrev shows : Outcome → Shown
shows o = record { printed = []; outcome = o; steps = 1 }

abbrev good : Shown
good = shows (Value nil)

abbrev bad : Shown
bad = shows (Failed Unbuilt)

abbrev ask : ℕ → Call
ask cell = Client 0 (Queue cell)

-- two code cells, of which the second is asked for
abbrev pair : State
pair = opening (book (section 1 None (code 1 (codes "x = 2") ∷ code 2 (codes "x * 21") ∷ []) ∷ []))

abbrev evaluation : List Call
evaluation = Client 0 Join ∷ ask 2 ∷ Start Main ∷ Respond 1 good ∷ Start Main ∷ Respond 2 good ∷ Start Main ∷ Respond 3 good ∷ []

pair-replies : replies pair evaluation ≡ Accepted ∷ Accepted ∷ Started 1 0 ∷ Stored 1 ∷ Started 2 1 ∷ Stored 2 ∷ Started 3 2 ∷ Stored 3 ∷ []
pair-replies = refl

pair-evaluated : validities (played pair evaluation) (0 ∷ 1 ∷ 2 ∷ []) ≡ Some Evaluated ∷ Some Evaluated ∷ Some Evaluated ∷ []
pair-evaluated = refl

-- the cell that may start in a lane before each of some calls, and after them
abbrev starts : State → List Call → List (Option ℕ)
starts s [] = may_start s.book s.work Main ∷ []
starts s (c ∷ cs) = may_start s.book s.work Main ∷ starts (after s (answered s c)) cs

pair-starts : starts pair evaluation ≡ None ∷ None ∷ Some 0 ∷ None ∷ Some 1 ∷ None ∷ Some 2 ∷ None ∷ None ∷ []
pair-starts = refl

-- an edit of the first, and the edit back
abbrev changed : List Call
changed = evaluation ++ Client 0 (Delta 1 0 (step.Retain 4 ∷ step.Insert (codes "3") ∷ step.Delete 1 ∷ [])) ∷ []

abbrev changed_back : List Call
changed_back = changed ++ Client 0 (Delta 1 1 (step.Retain 4 ∷ step.Insert (codes "2") ∷ step.Delete 1 ∷ [])) ∷ []

pair-stale : validities (played pair changed) (0 ∷ 1 ∷ 2 ∷ []) ≡ Some Evaluated ∷ Some Stale ∷ Some Stale ∷ []
pair-stale = refl

pair-again : validities (played pair changed_back) (0 ∷ 1 ∷ 2 ∷ []) ≡ Some Evaluated ∷ Some Evaluated ∷ Some Evaluated ∷ []
pair-again = refl

-- an edit of an earlier cell while a later one runs: what it showed is stored, and is stale
abbrev overtaken : List Call
overtaken = Client 0 Join ∷ ask 1 ∷ Start Main ∷ Respond 1 good ∷ Start Main ∷ Client 0 (Delta 0 0 (step.Insert (codes "y = 1") ∷ [])) ∷ Respond 2 good ∷ []

pair-overtaken : replies pair overtaken ≡ Accepted ∷ Accepted ∷ Started 1 0 ∷ Stored 1 ∷ Started 2 1 ∷ Applied 1 (step.Insert (codes "y = 1") ∷ []) ∷ Stored 2 ∷ []
pair-overtaken = refl

pair-overtaken-stale : validities (played pair overtaken) (0 ∷ 1 ∷ 2 ∷ []) ≡ Some Stale ∷ Some Stale ∷ Some Fresh ∷ []
pair-overtaken-stale = refl

-- an answer of an evaluation that doesn't run is late and changes nothing
late : replies pair (evaluation ++ Respond 3 bad ∷ Respond 9 good ∷ []) ≡ replies pair evaluation ++ Late 3 ∷ Late 9 ∷ []
late = refl

late-state : played pair (Respond 1 bad ∷ []) ≡ pair
late-state = refl

-- the jobs that are out: one between a start and its answer, with the path that was read
abbrev history : State → List Call → List Entry
history s [] = []
history s (c ∷ cs) = answered s c ∷ history (after s (answered s c)) cs

abbrev second_runs : List Call
second_runs = Client 0 Join ∷ ask 1 ∷ Start Main ∷ Respond 1 good ∷ Start Main ∷ Client 0 (Delta 1 0 (step.Delete 5 ∷ [])) ∷ []

job-out : jobs pair.book (history pair second_runs) ≡ record { eval = 2; by = 0; path = record { cell = 0; source = [] } ∷ record { cell = 1; source = codes "x = 2" } ∷ [] } ∷ []
job-out = refl

job-done : jobs pair.book (history pair (second_runs ++ Respond 2 good ∷ [])) ≡ []
job-done = refl

still-runs : (state pair.book (history pair second_runs)).work.running ≡ record { lane = Main; eval = 2; cell = 1; path = record { cell = 0; source = [] } ∷ record { cell = 1; source = codes "x = 2" } ∷ [] } ∷ []
still-runs = refl

-- a cell that fails, one after it in its section, and one in a branch of the section
abbrev failing : State
failing = opening (book (section 1 None (code 1 (codes "1 = 2") ∷ code 2 (codes "5") ∷ []) ∷ section 2 (Some 1) (code 3 (codes "6") ∷ []) ∷ []))

abbrev failure : List Call
failure = Client 0 Join ∷ ask 2 ∷ ask 3 ∷ Start Main ∷ Respond 1 good ∷ Start Main ∷ Respond 2 bad ∷ []

failing-replies : replies failing (failure ++ ask 3 ∷ ask 2 ∷ ask 1 ∷ []) ≡ Accepted ∷ Accepted ∷ Accepted ∷ Started 1 0 ∷ Stored 1 ∷ Started 2 1 ∷ Stored 2 ∷ Refused (AncestorFailed 1) ∷ Refused (AncestorFailed 1) ∷ Accepted ∷ []
failing-replies = refl

failing-validities : validities (played failing failure) (0 ∷ 1 ∷ 2 ∷ 3 ∷ []) ≡ Some Evaluated ∷ Some Evaluated ∷ Some Aborted ∷ Some Aborted ∷ []
failing-validities = refl

failing-starts : starts failing failure ≡ None ∷ None ∷ Some 0 ∷ Some 0 ∷ None ∷ Some 1 ∷ None ∷ None ∷ []
failing-starts = refl

failing-swept : filter is_queued_mark (played failing failure).work.marks ≡ []
failing-swept = refl

-- a branch waits for the cells before it that aren't its own
failing-branch : may_start (played failing (Client 0 Join ∷ ask 3 ∷ [])).book (played failing (Client 0 Join ∷ ask 3 ∷ [])).work (Branch 2) ≡ None
failing-branch = refl

-- what is refused, in the order of the checks
refusals : replies (opening (book (section 1 None (written 1 Markdown [] ∷ []) ∷ []))) (ask 1 ∷ Client 0 Join ∷ ask 1 ∷ ask 9 ∷ ask 0 ∷ []) ≡ Refused NotJoined ∷ Accepted ∷ Refused NotCode ∷ Refused NoCell ∷ Accepted ∷ []
refusals = refl

-- two branches of one section, and a section after them
abbrev branching : Parts
branching = book (section 1 None (code 1 [] ∷ []) ∷ section 2 (Some 1) (code 2 [] ∷ code 3 [] ∷ []) ∷ section 3 (Some 1) (code 4 [] ∷ code 5 [] ∷ []) ∷ section 4 None (written 7 Markdown [] ∷ code 6 [] ∷ []) ∷ [])

flows : map (λ id. option_map (map cell_number) (flow branching id)) (0 ∷ 3 ∷ 5 ∷ 6 ∷ 7 ∷ 99 ∷ []) ≡ Some (0 ∷ []) ∷ Some (0 ∷ 1 ∷ 2 ∷ 3 ∷ []) ∷ Some (0 ∷ 1 ∷ 4 ∷ 5 ∷ []) ∷ Some (0 ∷ 1 ∷ 6 ∷ []) ∷ None ∷ None ∷ []
flows = refl

lanes : map (lane_of branching) (1 ∷ 2 ∷ 3 ∷ 4 ∷ 5 ∷ 6 ∷ []) ≡ Some Main ∷ Some (Branch 2) ∷ Some (Branch 2) ∷ Some (Branch 3) ∷ Some (Branch 3) ∷ Some Main ∷ []
lanes = refl

-- a section that branches from none is no lane of its own
no-lane : may_start (played pair (evaluation ++ ask 2 ∷ [])).book (played pair (evaluation ++ ask 2 ∷ [])).work (Branch 1) ≡ None
no-lane = refl

-- a structure that is made step by step, and what is refused of it
abbrev plan : List Call
plan = Client 0 Join ∷ Client 0 (InsertSection 0 (codes "A")) ∷ Client 0 (InsertCell 1 0 new.Code) ∷ Client 0 (InsertSection 1 (codes "B")) ∷ Client 0 (SetParent 2 (Some 1)) ∷ Client 0 (SetParent 1 (Some 2)) ∷ Client 0 (DeleteSection 1) ∷ Client 0 (MoveCell 1 2 0) ∷ Client 0 (InsertCell 2 5 new.Markdown) ∷ []

plan-replies : replies (opening untitled) plan ≡ Accepted ∷ NewSection 1 ∷ NewCell 1 ∷ NewSection 2 ∷ Accepted ∷ Refused BadParent ∷ Refused HasBranches ∷ Accepted ∷ Refused (BadIndex 1) ∷ []
plan-replies = refl

plan-lane : lane_of (played (opening untitled) plan).book 1 ≡ Some (Branch 2)
plan-lane = refl

-- a cell is asked for and cancelled while it runs: its answer is late, and it is aborted until an answer is stored
abbrev broken_off : List Call
broken_off = Client 0 Join ∷ ask 1 ∷ Start Main ∷ Respond 1 good ∷ Start Main ∷ Client 0 (Cancel 1) ∷ Client 0 (Cancel 1) ∷ Respond 2 good ∷ []

pair-broken_off : replies pair broken_off ≡ Accepted ∷ Accepted ∷ Started 1 0 ∷ Stored 1 ∷ Started 2 1 ∷ Accepted ∷ Refused NotQueued ∷ Late 2 ∷ []
pair-broken_off = refl

pair-aborted : validities (played pair broken_off) (0 ∷ 1 ∷ 2 ∷ []) ≡ Some Evaluated ∷ Some Aborted ∷ Some Fresh ∷ []
pair-aborted = refl

pair-asked-again : replies (played pair broken_off) (ask 1 ∷ Start Main ∷ Respond 3 good ∷ []) ≡ Accepted ∷ Started 3 1 ∷ Stored 3 ∷ []
pair-asked-again = refl

pair-whole-again : validities (played (played pair broken_off) (ask 1 ∷ Start Main ∷ Respond 3 good ∷ [])) (1 ∷ []) ≡ Some Evaluated ∷ []
pair-whole-again = refl

-- a queued cell that is cancelled before it starts
pair-never-ran : starts pair (Client 0 Join ∷ ask 2 ∷ Client 0 (Cancel 2) ∷ []) ≡ None ∷ None ∷ Some 0 ∷ None ∷ []
pair-never-ran = refl

-- a deleted cell is restored: it has a new number and no revision, begins with the source that it had, and nothing is kept of its evaluation
abbrev restored : List Call
restored = evaluation ++ Client 0 (Delta 1 0 (step.Retain 4 ∷ step.Insert (codes "0") ∷ [])) ∷ ask 1 ∷ Client 0 (DeleteCell 1) ∷ Client 0 (DeleteCell 1) ∷ ask 1 ∷ Client 0 (RestoreCell 1 1 1) ∷ Client 0 (Delta 3 0 (step.Insert (codes "y") ∷ [])) ∷ []

abbrev three : State
three = opening (record (book (section 1 None (code 1 (codes "x = 2") ∷ code 2 (codes "x * 21") ∷ []) ∷ [])) { next_cell = 3; next_section = 2 })

restored-replies : replies three restored ≡ replies three evaluation ++ Applied 1 (step.Retain 4 ∷ step.Insert (codes "0") ∷ []) ∷ Accepted ∷ Accepted ∷ Refused NoCell ∷ Refused NoCell ∷ NewCell 3 ∷ Applied 1 (step.Insert (codes "y") ∷ []) ∷ []
restored-replies = refl

restored-source : first_source 3 (played three restored).began ≡ codes "x = 02"
restored-source = refl

restored-validities : validities (played three restored) (0 ∷ 1 ∷ 2 ∷ 3 ∷ []) ≡ Some Evaluated ∷ None ∷ Some Stale ∷ Some Fresh ∷ []
restored-validities = refl

restored-order : map cell_number (cells (played three restored).book) ≡ 0 ∷ 2 ∷ 3 ∷ []
restored-order = refl

-- the marks that a delete drops are gone, also when the cell ran: its answer is late
deleted-late : replies pair (Client 0 Join ∷ ask 1 ∷ Start Main ∷ Respond 1 good ∷ Start Main ∷ Client 0 (DeleteCell 1) ∷ Respond 2 good ∷ []) ≡ Accepted ∷ Accepted ∷ Started 1 0 ∷ Stored 1 ∷ Started 2 1 ∷ Accepted ∷ Late 2 ∷ []
deleted-late = refl

-- who leaves is known no more, and begins anew
abbrev left_again : List Call
left_again = Client 0 Join ∷ Client 1 Join ∷ Client 0 (Delta 1 0 (step.Insert (codes "a") ∷ [])) ∷ Client 0 Leave ∷ Client 0 (Report 1 1) ∷ Client 0 Leave ∷ Client 0 Join ∷ Client 1 (Delta 1 0 (step.Insert (codes "b") ∷ [])) ∷ []

left-replies : replies pair left_again ≡ Accepted ∷ Accepted ∷ Applied 1 (step.Insert (codes "a") ∷ []) ∷ Accepted ∷ Refused NotJoined ∷ Refused NotJoined ∷ Accepted ∷ Applied 2 (step.Retain 1 ∷ step.Insert (codes "b") ∷ []) ∷ []
left-replies = refl

-- they stand last who join again
left-order : (played pair left_again).joined ≡ 1 ∷ 0 ∷ []
left-order = refl

left-least : map (least (played pair left_again)) (1 ∷ 2 ∷ []) ≡ 1 ∷ 0 ∷ []
left-least = refl

-- reports raise the least floor, and an old delta is told so
abbrev reported : List Call
reported = Client 0 Join ∷ Client 1 Join ∷ Client 0 (Delta 1 0 (step.Insert (codes "a") ∷ [])) ∷ Client 1 (Report 1 2) ∷ Client 1 (Report 9 0) ∷ Client 1 (Report 1 1) ∷ Client 1 (Delta 1 0 (step.Insert (codes "b") ∷ [])) ∷ Client 1 (Report 1 0) ∷ []

reported-replies : replies pair reported ≡ Accepted ∷ Accepted ∷ Applied 1 (step.Insert (codes "a") ∷ []) ∷ Refused (TooNew 1) ∷ Refused NoCell ∷ Accepted ∷ Refused (TooOld 1) ∷ Accepted ∷ []
reported-replies = refl

-- a lower report lowers nothing
reported-least : map (least (played pair reported)) (1 ∷ 2 ∷ []) ≡ 1 ∷ 0 ∷ []
reported-least = refl

-- a section becomes a branch while its cell runs in the main lane: the cell is aborted, and its answer late; a cell of a branch that only gets another parent goes on
abbrev reparented : State
reparented = opening (book (section 1 None (code 1 [] ∷ []) ∷ section 2 None (code 2 [] ∷ []) ∷ section 3 (Some 2) (code 3 [] ∷ []) ∷ []))

abbrev until_two : List Call
until_two = Client 0 Join ∷ ask 3 ∷ Start Main ∷ Respond 1 good ∷ Start Main ∷ Respond 2 good ∷ Start Main ∷ []

abbrev two_runs : List Call
two_runs = until_two ++ Client 0 (SetParent 3 (Some 1)) ∷ Client 0 (SetParent 2 (Some 1)) ∷ Respond 3 good ∷ []

reparented-replies : replies reparented two_runs ≡ Accepted ∷ Accepted ∷ Started 1 0 ∷ Stored 1 ∷ Started 2 1 ∷ Stored 2 ∷ Started 3 2 ∷ Accepted ∷ Accepted ∷ Late 3 ∷ []
reparented-replies = refl

reparented-validities : validities (played reparented two_runs) (1 ∷ 2 ∷ 3 ∷ []) ≡ Some Evaluated ∷ Some Aborted ∷ Some Fresh ∷ []
reparented-validities = refl

abbrev three_runs : List Call
three_runs = until_two ++ Respond 3 good ∷ Start (Branch 3) ∷ Client 0 (SetParent 3 (Some 1)) ∷ Respond 4 good ∷ []

reparented-goes-on : replies reparented three_runs ≡ replies reparented until_two ++ Stored 3 ∷ Started 4 3 ∷ Accepted ∷ Stored 4 ∷ []
reparented-goes-on = refl

reparented-stale : validities (played reparented three_runs) (2 ∷ 3 ∷ []) ≡ Some Evaluated ∷ Some Stale ∷ []
reparented-stale = refl

-- two branches run side by side, and the lane that is ready is the first of them
abbrev branches_asked : List Call
branches_asked = Client 0 Join ∷ ask 3 ∷ ask 4 ∷ Start Main ∷ Respond 1 good ∷ Start Main ∷ Respond 2 good ∷ Start (Branch 2) ∷ Start (Branch 3) ∷ Respond 4 good ∷ []

branches-replies : replies (opening branching) branches_asked ≡ Accepted ∷ Accepted ∷ Accepted ∷ Started 1 0 ∷ Stored 1 ∷ Started 2 1 ∷ Stored 2 ∷ Started 3 2 ∷ Started 4 4 ∷ Stored 4 ∷ []
branches-replies = refl

branches-ready : ready_lane (played (opening branching) branches_asked).book (played (opening branching) branches_asked).work ≡ None
branches-ready = refl

branches-ready-then : ready_lane (played (opening branching) (branches_asked ++ Respond 3 good ∷ [])).book (played (opening branching) (branches_asked ++ Respond 3 good ∷ [])).work ≡ Some (Branch 2)
branches-ready-then = refl
