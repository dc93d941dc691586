-- What an entry did to the notebook, and the notebook after it.
use Rattle.std.specs.Prelude.{◌≡◌, ℕ, ◌==◌, if◌then◌else◌, List, Option, Some, None}
use Rattle.delta.specs.declared.Step.{Step}
use Rattle.delta.specs.Moves.{FitsText, text_after}
use Rattle.notebook.specs.declared.change.Change.{Change}
use Rattle.notebook.specs.declared.change.Changed.{Changed}
use Rattle.notebook.specs.declared.parts.Cell.{Cell}
use Rattle.notebook.specs.declared.parts.Parts.{Parts}
use Rattle.notebook.specs.Book.{cells, found, resourced}
use Rattle.notebook.specs.Change.{Attempt, Makes, Fails, change}
use Rattle.session_ops.specs.declared.deed.CellEdit.{CellEdit as EditInMemory}
use Rattle.session_ops.specs.declared.deed.Deed.{Deed as DeedInMemory}
use Rattle.session_ops.specs.declared.deed.Deed.TheVariants as memory
use Rattle.session_ops.specs.declared.entry.Op.TheVariants.{Delta}
use Rattle.session_ops.specs.declared.entry.Call.{Call}
use Rattle.session_ops.specs.declared.entry.Call.TheVariants.{Client}
use Rattle.session_ops.specs.declared.entry.Reply.{Reply}
use Rattle.session_ops.specs.declared.entry.Reply.TheVariants.{Applied, Refused}
use Rattle.session_ops.specs.Structure.{change_of}

-- a client's delta that a cell's source took: its steps as they were applied, and the revision that it made
pub record CellEdit : Type 0 where
  pub client : ℕ
  pub cell : ℕ
  pub rev : ℕ
  pub delta : List Step

-- what an entry did to the notebook: nothing, an edit of a cell's source, or a change of the structure
pub data Deed : Type 0 where
  Nothing : Deed
  Edits : CellEdit → Deed
  Changes : Change → Deed

abbrev pub changes_if : Option Change → Deed
changes_if None = Nothing
changes_if (Some asked) = Changes asked

-- what a call did that was answered so
abbrev pub deed : Call → Reply → Deed
deed (Client n op) (Refused why) = Nothing
deed (Client n (Delta cell base d)) (Applied rev x) = Edits (record { client = n; cell = cell; rev = rev; delta = x })
deed (Client n op) answer = changes_if (change_of op)
deed call answer = Nothing

-- a cell's source after a delta that one of the cells takes
abbrev pub moved_source : ℕ → List Step → Cell → List ℕ
moved_source cell x c = if c.id == cell then text_after x c.source else c.source

-- the notebook with a delta done to a cell's source
abbrev pub book_after : ℕ → List Step → Parts → Parts
book_after cell x n = resourced (moved_source cell x) n

-- the notebook after a change, if it is made
abbrev pub book_if : Parts → Attempt → Parts
book_if n (Makes n' made) = n'
book_if n (Fails why) = n

-- the notebook after what an entry did
abbrev pub noted : Deed → Parts → Parts
noted Nothing n = n
noted (Edits e) n = book_after e.cell e.delta n
noted (Changes asked) n = book_if n (change n asked)

-- a delta that fits the source of the live cell of a number
pub record FitsCell (n : Parts) (k : ℕ) (x : List Step) : Type 0 where
  pub own : Cell
  pub there : found k (cells n) ≡ Some own
  pub fits : FitsText x own.source

-- a change that is made
pub record IsMade (n : Parts) (asked : Change) : Type 0 where
  pub book : Parts
  pub made : Changed
  pub makes : change n asked ≡ Makes book made

-- what can be done to the notebook, as what the session's next entry did can
abbrev pub CanBeDone : Deed → Parts → Type 0
CanBeDone Nothing n = Unit {0}
CanBeDone (Edits e) n = FitsCell n e.cell e.delta
CanBeDone (Changes asked) n = IsMade n asked

-- an edit and a deed in memory
abbrev pub edit_in : EditInMemory → CellEdit
edit_in e = record { client = e.client; cell = e.cell; rev = e.rev; delta = e.delta.now }

abbrev pub deed_in : DeedInMemory → Deed
deed_in memory.Nothing = Nothing
deed_in (memory.Edits e) = Edits (edit_in e)
deed_in (memory.Changes asked) = Changes asked
