-- Whether two calls of clients are the same, as a test, part by part.
use Rattle.std.specs.Prelude.{ℕ, ◌==◌, ◌&&◌, Bool, true, false, List, [], ◌∷◌, Option, Some, None}
use Rattle.notebook.specs.declared.change.CellKind.{CellKind}
use Rattle.notebook.specs.declared.change.CellKind.TheVariants.{Code, Markdown}
use Rattle.delta.specs.declared.Step.{Step}
use Rattle.delta.specs.declared.Step.TheVariants.{Retain, Insert, Delete}
use Rattle.session_ops.specs.declared.entry.Op.{Op}
use Rattle.session_ops.specs.declared.entry.Op.TheVariants.{Join, Leave, SetName, InsertSection, SetSectionName, DeleteSection, MoveSection, SetParent, InsertCell, DeleteCell, RestoreCell, MoveCell, Delta, Report, Queue, Cancel}
use Rattle.session_ops.specs.declared.entry.Call.{Call}
use Rattle.session_ops.specs.declared.entry.Call.TheVariants.{Client}

abbrev pub same_numbers : List ℕ → List ℕ → Bool
same_numbers [] [] = true
same_numbers [] (b ∷ bs) = false
same_numbers (a ∷ xs) [] = false
same_numbers (a ∷ xs) (b ∷ bs) = (a == b) && same_numbers xs bs

-- the same kind of step, with the same number or the same characters
abbrev pub same_step : Step → Step → Bool
same_step (Retain m) (Retain n) = m == n
same_step (Insert s) (Insert t) = same_numbers s t
same_step (Delete m) (Delete n) = m == n
same_step a b = false

abbrev pub same_steps : List Step → List Step → Bool
same_steps [] [] = true
same_steps [] (b ∷ bs) = false
same_steps (a ∷ xs) [] = false
same_steps (a ∷ xs) (b ∷ bs) = same_step a b && same_steps xs bs

-- the same number, where there may be none, and the same kind of cell
abbrev pub same_option : Option ℕ → Option ℕ → Bool
same_option None None = true
same_option None (Some b) = false
same_option (Some a) None = false
same_option (Some a) (Some b) = a == b

abbrev pub same_kind : CellKind → CellKind → Bool
same_kind Code Code = true
same_kind Code Markdown = false
same_kind Markdown Code = false
same_kind Markdown Markdown = true

-- the same operation on the same things
abbrev pub same_op : Op → Op → Bool
same_op Join Join = true
same_op Leave Leave = true
same_op (SetName name) (SetName name') = same_numbers name name'
same_op (InsertSection index name) (InsertSection index' name') = (index == index') && same_numbers name name'
same_op (SetSectionName section name) (SetSectionName section' name') = (section == section') && same_numbers name name'
same_op (DeleteSection section) (DeleteSection section') = section == section'
same_op (MoveSection section index) (MoveSection section' index') = (section == section') && (index == index')
same_op (SetParent section parent) (SetParent section' parent') = (section == section') && same_option parent parent'
same_op (InsertCell section index kind) (InsertCell section' index' kind') = (section == section') && ((index == index') && same_kind kind kind')
same_op (DeleteCell cell) (DeleteCell cell') = cell == cell'
same_op (RestoreCell cell section index) (RestoreCell cell' section' index') = (cell == cell') && ((section == section') && (index == index'))
same_op (MoveCell cell section index) (MoveCell cell' section' index') = (cell == cell') && ((section == section') && (index == index'))
same_op (Delta cell base d) (Delta cell' base' d') = (cell == cell') && ((base == base') && same_steps d d')
same_op (Report cell rev) (Report cell' rev') = (cell == cell') && (rev == rev')
same_op (Queue cell) (Queue cell') = cell == cell'
same_op (Cancel cell) (Cancel cell') = cell == cell'
same_op a b = false

-- the same client's same operation
abbrev pub same_call : Call → Call → Bool
same_call (Client n op) (Client n' op') = (n == n') && same_op op op'
same_call a b = false
