-- What every state of a legal history keeps.
use Rattle.std.specs.Prelude.{◌≡◌, ℕ, ◌<◌, ◌==◌, Bool, true, false, if◌then◌else◌, List, [], ◌∷◌, map, Some}
use Rattle.std.specs.List.{AllByRecursion}
use Rattle.notebook.specs.declared.parts.Cell.{Cell}
use Rattle.notebook.specs.declared.parts.Parts.{Parts}
use Rattle.notebook.specs.declared.parts.Kind.{Kind}
use Rattle.notebook.specs.declared.parts.Kind.TheVariants.{Setup, Code, Markdown}
use Rattle.notebook.specs.Book.{cells, found}
use Rattle.notebook.specs.Rules.{IsNotebook}
use Rattle.lanes.specs.declared.work.Mark.{Mark}
use Rattle.lanes.specs.declared.work.Running.{Running}
use Rattle.session_ops.specs.Numbers.{AreOnce}
use Rattle.session_ops.specs.State.{State, Began, Taken, Known}

-- code, as the setup cell is too
abbrev pub IsCodeKind : Kind → Type 0
IsCodeKind Setup = Unit {0}
IsCodeKind Code = Unit {0}
IsCodeKind Markdown = ⊥

-- a live setup or code cell has the number
pub record IsCodeLive (n : Parts) (id : ℕ) : Type 0 where
  pub cell : Cell
  pub is_found : found id (cells n) ≡ Some cell
  pub code : IsCodeKind cell.kind

-- what is noted of a cell is of one below the number that the next new cell takes
abbrev pub IsBeganBelow : ℕ → Began → Type 0
IsBeganBelow next b = b.cell < next

abbrev pub IsTakenBelow : ℕ → Taken → Type 0
IsTakenBelow next t = t.cell < next

abbrev pub IsKnownBelow : ℕ → Known → Type 0
IsKnownBelow next k = k.cell < next

-- the source with which each live cell began is noted
abbrev pub has_begun : ℕ → List Began → Bool
has_begun cell [] = false
has_begun cell (b ∷ bs) = if b.cell == cell then true else has_begun cell bs

abbrev pub HaveBegun : Parts → List Began → Type 0
HaveBegun n bs = (cell : ℕ) (c : Cell) → found cell (cells n) ≡ Some c → has_begun cell bs ≡ true

-- the mark, and the running evaluation, is of a live setup or code cell
abbrev pub IsLiveMark : Parts → Mark → Type 0
IsLiveMark n m = IsCodeLive n m.cell

abbrev pub IsLiveRun : Parts → Running → Type 0
IsLiveRun n r = IsCodeLive n r.cell

abbrev pub mark_cell : Mark → ℕ
mark_cell m = m.cell

-- the notebook keeps its rules, numbers stand once, nothing is noted of a cell that is yet to come, and what is asked for or runs lives
pub record IsOrderly (s : State) : Type 0 where
  pub book : IsNotebook s.book
  pub joined : AreOnce s.joined
  pub began : AllByRecursion (IsBeganBelow s.book.next_cell) s.began
  pub all_began : HaveBegun s.book s.began
  pub taken : AllByRecursion (IsTakenBelow s.book.next_cell) s.taken
  pub known : AllByRecursion (IsKnownBelow s.book.next_cell) s.known
  pub marks : AllByRecursion (IsLiveMark s.book) s.work.marks
  pub apart : AreOnce (map mark_cell s.work.marks)
  pub running : AllByRecursion (IsLiveRun s.book) s.work.running
