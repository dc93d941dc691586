-- What kind an operation is of.
use Rattle.std.specs.Prelude.{Bool, true, false, Option, Some, None}
use Rattle.notebook.specs.declared.change.Change.{Change}
use Rattle.notebook.specs.declared.change.Change.TheVariants as note
use Rattle.session_ops.specs.declared.entry.Op.{Op}
use Rattle.session_ops.specs.declared.entry.Op.TheVariants.{Join, Leave, SetName, InsertSection, SetSectionName, DeleteSection, MoveSection, SetParent, InsertCell, DeleteCell, RestoreCell, MoveCell, Delta, Report, Queue, Cancel}

-- the change that an operation asks for, if it asks for one
abbrev pub change_of : Op → Option Change
change_of Join = None
change_of Leave = None
change_of (SetName name) = Some (note.SetName name)
change_of (InsertSection index name) = Some (note.InsertSection index name)
change_of (SetSectionName section name) = Some (note.SetSectionName section name)
change_of (DeleteSection section) = Some (note.DeleteSection section)
change_of (MoveSection section index) = Some (note.MoveSection section index)
change_of (SetParent section parent) = Some (note.SetParent section parent)
change_of (InsertCell section index kind) = Some (note.InsertCell section index kind)
change_of (DeleteCell cell) = Some (note.DeleteCell cell)
change_of (RestoreCell cell section index) = Some (note.RestoreCell cell section index)
change_of (MoveCell cell section index) = Some (note.MoveCell cell section index)
change_of (Delta cell base d) = None
change_of (Report cell rev) = None
change_of (Queue cell) = None
change_of (Cancel cell) = None

-- an operation that may be posted as it is: joins, leaves, deltas and reports can't be
abbrev pub is_postable : Op → Bool
is_postable Join = false
is_postable Leave = false
is_postable (SetName name) = true
is_postable (InsertSection index name) = true
is_postable (SetSectionName section name) = true
is_postable (DeleteSection section) = true
is_postable (MoveSection section index) = true
is_postable (SetParent section parent) = true
is_postable (InsertCell section index kind) = true
is_postable (DeleteCell cell) = true
is_postable (RestoreCell cell section index) = true
is_postable (MoveCell cell section index) = true
is_postable (Delta cell base d) = false
is_postable (Report cell rev) = false
is_postable (Queue cell) = true
is_postable (Cancel cell) = true
