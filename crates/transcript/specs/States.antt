-- What is printed of a cell's state: lists of bytes, a line without its LF.
use Rattle.std.specs.Prelude.{ℕ, List, [], ◌∷◌, ◌++◌, Option, Some, None, codes}
use Rattle.std.specs.Fmt.{decimal}
use Rattle.json.specs.Print.{quoted}
use Rattle.ex_value.specs.Values.{inspected}
use Rattle.ex_model.specs.declared.ran.Outcome.{Outcome}
use Rattle.ex_model.specs.declared.ran.Outcome.TheVariants.{Value, Fault}
use Rattle.ex_model.specs.declared.ran.Shown.{Shown}
use Rattle.ex_model.specs.Faults.{text_of as fault_text}
use Rattle.notebook.specs.declared.states.Lane.{Lane}
use Rattle.notebook.specs.declared.states.Lane.TheVariants.{Main, Branch}
use Rattle.notebook.specs.declared.states.Status.{Status}
use Rattle.notebook.specs.declared.states.Status.TheVariants.{Ready, Queued, Evaluating}
use Rattle.notebook.specs.declared.states.Validity.{Validity}
use Rattle.notebook.specs.declared.states.Validity.TheVariants.{Fresh, Evaluated, Stale, Aborted}

abbrev pub lane_text : Lane → List ℕ
lane_text Main = codes "main"
lane_text (Branch section) = codes "branch " ++ decimal section

abbrev pub status_text : Status → List ℕ
status_text Ready = codes "ready"
status_text Queued = codes "queued"
status_text Evaluating = codes "evaluating"

abbrev pub validity_text : Validity → List ℕ
validity_text Fresh = codes "fresh"
validity_text Evaluated = codes "evaluated"
validity_text Stale = codes "stale"
validity_text Aborted = codes "aborted"

-- the printed text of an evaluation, if it isn't empty
abbrev pub printed_text : List ℕ → List ℕ
printed_text [] = []
printed_text (b ∷ bs) = codes " printed " ++ quoted (b ∷ bs)

abbrev pub outcome_text : Outcome → List ℕ
outcome_text (Value v) = codes " value " ++ inspected v
outcome_text (Fault f) = codes " fault " ++ fault_text f

-- what the last finished evaluation showed, where there is one
abbrev pub shown_text : Option Shown → List ℕ
shown_text None = []
shown_text (Some shown) = printed_text shown.printed ++ outcome_text shown.outcome

-- a setup or code cell with its lane, its status and its validity, and what it shows
abbrev pub state_line : ℕ → Lane → Status → Validity → Option Shown → List ℕ
state_line cell lane status validity shown =
    codes "code " ++ (decimal cell ++ (codes " " ++ (lane_text lane ++ (codes " " ++ (status_text status ++ (codes " " ++ (validity_text validity ++ shown_text shown)))))))
