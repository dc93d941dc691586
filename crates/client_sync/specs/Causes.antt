-- What the errors of an edit and of a report tell.
use Rattle.std.specs.Prelude.{◌≡◌, Option, None, ◌≢◌, IsSome}
use Rattle.delta_laws.specs.Misfits.{Past, Splits}
use Rattle.client_sync.specs.declared.edit_error.EditError.{EditError}
use Rattle.client_sync.specs.declared.edit_error.EditError.TheVariants.{NoCell, EditTooLong, PastEnd, SplitsPair, OutOfMemory}
use Rattle.client_sync.specs.declared.post_error.PostError.{PostError}
use Rattle.client_sync.specs.declared.post_error.PostError.TheVariants as post
use Rattle.client_sync.specs.Client.{Client, Edited, NoCell as NoSuchCell, EditTooLong as TooLong, Unfit}

-- why the edit is refused; want of memory is told only where neither the cell nor the length refuses it
abbrev pub IsEditCause : Edited → EditError → Type 0
IsEditCause e NoCell = e ≡ NoSuchCell
IsEditCause e EditTooLong = e ≡ TooLong
IsEditCause e (PastEnd len) = e ≡ Unfit (Past len)
IsEditCause e (SplitsPair at) = e ≡ Unfit (Splits at)
IsEditCause e OutOfMemory = (e ≢ NoSuchCell) × (e ≢ TooLong)

-- why the report isn't posted; want of memory is told only where the client has the cell
abbrev pub IsPostCause : Option Client → PostError → Type 0
IsPostCause o post.NoCell = o ≡ None
IsPostCause o post.OutOfMemory = IsSome o
