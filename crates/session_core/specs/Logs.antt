-- The logs of a notebook's cells.
use Rattle.std.specs.Prelude.{◌≡◌, ℕ, zero, suc, ◌+◌, ◌==◌, if◌then◌else◌, Bool, true, List, [], ◌∷◌, map, Option, Some, None, IsSome, is_some}
use Rattle.std.specs.List.{AllByRecursion}
use Rattle.notebook.specs.declared.parts.Cell.{Cell}
use Rattle.notebook.specs.declared.parts.Parts.{Parts}
use Rattle.notebook.specs.Book.{cells, found}
use Rattle.session_ops.specs.declared.entry.Op.TheVariants.{Join}
use Rattle.session_ops.specs.declared.entry.Call.TheVariants.{Client}
use Rattle.session_ops.specs.declared.entry.Reply.TheVariants.{Accepted}
use Rattle.session_ops.specs.Numbers.{is_in, AreOnce}
use Rattle.session_ops.specs.State.{State, after_call, first_source, taken_by, floor, opening, revision}
use Rattle.session_core.specs.Stands.{StandsFor}
use Rattle.session_core.specs.declared.logs.CellLog.{CellLog}

-- the cell that a log is of
abbrev pub log_cell : CellLog → ℕ
log_cell l = l.cell

-- the log is that of a live cell
pub record IsLogIn (s : State) (l : CellLog) : Type 0 where
  pub owner : Cell
  pub is_found : found l.cell (cells s.book) ≡ Some owner
  pub stands : StandsFor s l.cell owner.source l.log

-- a live cell of the state's notebook has the number
abbrev pub IsLiveIn : State → ℕ → Type 0
IsLiveIn s cell = IsSome (found cell (cells s.book))

-- each live cell has one log, and there is no other
pub record AreLogs (s : State) (ls : List CellLog) : Type 0 where
  pub once : AreOnce (map log_cell ls)
  pub logs : AllByRecursion (IsLogIn s) ls
  pub live : (cell : ℕ) → IsLiveIn s cell → is_in cell (map log_cell ls) ≡ true

-- the state once a client has joined
abbrev pub once_joined : ℕ → State → State
once_joined client s = after_call s (Client client Join) Accepted

-- the log of a cell
pub record IsCellLog (s : State) (c : Cell) (l : CellLog) : Type 0 where
  pub cell : l.cell ≡ c.id
  pub log : StandsFor s c.id c.source l.log

-- the logs of these cells, in their order
abbrev pub LineUp : State → List Cell → List CellLog → Type 0
LineUp s [] [] = Unit {0}
LineUp s [] (l ∷ ls) = ⊥
LineUp s (c ∷ cs) [] = ⊥
LineUp s (c ∷ cs) (l ∷ ls) = IsCellLog s c l × LineUp s cs ls

-- the notebook's opening state has the cell begin with its source
abbrev pub BeginsIn : Parts → Cell → Type 0
BeginsIn n c = first_source c.id (opening n).began ≡ c.source

-- the first elements, so many of them, are so, and the others so
abbrev pub ArePast : (CellLog → Type 0) → (CellLog → Type 0) → ℕ → List CellLog → Type 0
ArePast P Q zero ls = AllByRecursion Q ls
ArePast P Q (suc n) [] = Unit {0}
ArePast P Q (suc n) (l ∷ ls) = P l × ArePast P Q n ls

-- a log of a cell that lives
abbrev pub log_lives : Parts → CellLog → Bool
log_lives n l = is_some (found l.cell (cells n))

-- the cell is yet to come: it begins with this source, has taken no delta, and nobody is known to have a revision of it
pub record IsFreshIn (s : State) (joined : List ℕ) (cell : ℕ) (source : List ℕ) : Type 0 where
  pub joined_are : s.joined ≡ joined
  pub began : first_source cell s.began ≡ source
  pub taken : taken_by cell s.taken ≡ []
  pub known : (n : ℕ) → floor n cell s.known ≡ 0

-- the log of a cell that begins with this source
abbrev pub IsNewLog : State → ℕ → List ℕ → CellLog → Type 0
IsNewLog s cell source l = (l.cell ≡ cell) × StandsFor s cell source l.log

-- a cell with its revision
abbrev pub with_revision : State → ℕ → ℕ × ℕ
with_revision s cell = (cell, revision s cell)

-- a place, counted from so many places before
abbrev pub later : ℕ → Option ℕ → Option ℕ
later n None = None
later n (Some at) = Some (n + at)

-- the place of a cell's log, the first of that number
abbrev pub place_in : ℕ → List CellLog → Option ℕ
place_in cell [] = None
place_in cell (l ∷ ls) = if l.cell == cell then Some 0 else later 1 (place_in cell ls)
