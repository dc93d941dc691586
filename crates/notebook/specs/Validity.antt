-- What a cell's last evaluation is worth, and what is asked for it.
use Rattle.std.specs.Prelude.{◌==◌, ◌&&◌, Bool, true, false, if◌then◌else◌, List, Option, Some, None, nat_eq}
use Rattle.std.specs.Cmp.Lexicographic.{pointwise}
use Rattle.notebook.specs.declared.parts.Passed.{Passed}
use Rattle.notebook.specs.declared.states.Status.{Status}
use Rattle.notebook.specs.declared.states.Status.TheVariants.{Ready, Queued, Evaluating}
use Rattle.notebook.specs.declared.states.Validity.{Validity}
use Rattle.notebook.specs.declared.states.Validity.TheVariants.{Fresh, Evaluated, Stale, Aborted}

-- the same cell with the same source
abbrev pub same_passed : Passed → Passed → Bool
same_passed a b = (a.cell == b.cell) && pointwise nat_eq a.source b.source

-- the same cells with the same sources, in the same order
abbrev pub same_path : List Passed → List Passed → Bool
same_path p q = pointwise same_passed p q

-- by the path that the last finished evaluation read, if there is one, and the cell's present path
abbrev pub validity_by_path : Option (List Passed) → List Passed → Validity
validity_by_path None present = Fresh
validity_by_path (Some read) present = if same_path read present then Evaluated else Stale

-- a cell that is marked so is aborted, whatever was finished
abbrev pub validity_by : Bool → Option (List Passed) → List Passed → Validity
validity_by marked read present = if marked then Aborted else validity_by_path read present

abbrev pub status_by : Bool → Bool → Status
status_by runs queued = if runs then Evaluating else (if queued then Queued else Ready)

abbrev pub is_evaluated_so : Validity → Bool
is_evaluated_so Fresh = false
is_evaluated_so Evaluated = true
is_evaluated_so Stale = false
is_evaluated_so Aborted = false
