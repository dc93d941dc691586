-- What a snapshot holds of a session's state.
use Rattle.std.specs.Prelude.{◌≡◌, ℕ, ◌==◌, if◌then◌else◌, List, [], ◌∷◌, map, Option, Some, None, is_some}
use Rattle.notebook.specs.declared.parts.Cell.{Cell}
use Rattle.notebook.specs.declared.parts.Parts.{Parts}
use Rattle.notebook.specs.Book.{cells, found}
use Rattle.notebook.specs.Rules.{AreDistinct}
use Rattle.session_ops.specs.State.{State, revision}

-- a notebook at one moment, a list of cells and revisions, and how many entries led there
pub record Snapshot : Type 0 where
  pub book : Parts
  pub revs : List (ℕ × ℕ)
  pub cursor : ℕ

-- the revision of a live cell
abbrev pub revision_if : State → Option Cell → Option ℕ
revision_if s None = None
revision_if s (Some c) = Some (revision s c.id)

abbrev pub live_revision : State → ℕ → Option ℕ
live_revision s cell = revision_if s (found cell (cells s.book))

-- the revision that a list of cells and revisions gives a cell
abbrev pub listed_revision : ℕ → List (ℕ × ℕ) → Option ℕ
listed_revision cell [] = None
listed_revision cell (r ∷ rs) = if r.0 == cell then Some r.1 else listed_revision cell rs

abbrev pub listed_cell : ℕ × ℕ → ℕ
listed_cell r = r.0

-- the list has each live cell once, the setup cell among them, and no other cell
pub record ListsLiveCells (n : Parts) (revs : List (ℕ × ℕ)) : Type 0 where
  pub apart : AreDistinct (map listed_cell revs)
  pub each : (cell : ℕ) → is_some (listed_revision cell revs) ≡ is_some (found cell (cells n))

-- the list has each live cell once, with its revision, and no other cell
pub record HasRevisions (s : State) (revs : List (ℕ × ℕ)) : Type 0 where
  pub apart : AreDistinct (map listed_cell revs)
  pub each : (cell : ℕ) → listed_revision cell revs ≡ live_revision s cell

-- the notebook, each live cell's revision, and how many entries led there
pub record IsSnapshot (s : State) (entries : ℕ) (x : Snapshot) : Type 0 where
  pub book : x.book ≡ s.book
  pub revs : HasRevisions s x.revs
  pub cursor : x.cursor ≡ entries
