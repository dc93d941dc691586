-- What calls make of the marks.
use Rattle.std.specs.Prelude.{◌≡◌, ℕ, ◌==◌, if◌then◌else◌, List, Option, Some, None, find, unwrap_or}
use Rattle.std.specs.Option.{option_map}
use Rattle.notebook.specs.declared.parts.Parts.{Parts}
use Rattle.freshness.specs.declared.mark.Mark.{Mark}
use Rattle.freshness.specs.Marked.{Marked, is_live, is_mark_of, mark_of, new_mark}

-- a mark that a cell has exactly where it is a live setup or code cell of the notebook
abbrev pub mark_in : Parts → ℕ → Mark → Option Mark
mark_in n cell m = if is_live n cell then Some m else None

-- the marks of a notebook of which nothing was evaluated yet
pub record IsNew (n : Parts) (m : Marked) : Type 0 where
  pub book : m.book ≡ n
  pub marks : (cell : ℕ) → mark_of m cell ≡ mark_in n cell (new_mark cell)

-- the marks were brought to a notebook: each of its live setup and code cells has the mark that it had, or a new one
pub record IsBroughtTo (n : Parts) (old new : Marked) : Type 0 where
  pub book : new.book ≡ n
  pub marks : (cell : ℕ) → mark_of new cell ≡ mark_in n cell (unwrap_or (mark_of old cell) (new_mark cell))

-- a cell's mark is what f makes of it, and all others are as they were
abbrev pub remarked : ℕ → (Mark → Mark) → ℕ → Option Mark → Option Mark
remarked cell f k m = if cell == k then option_map f m else m

abbrev pub AreRemarked : ℕ → (Mark → Mark) → List Mark → List Mark → Type 0
AreRemarked cell f old new = (k : ℕ) → find (is_mark_of k) new ≡ remarked cell f k (find (is_mark_of k) old)

-- and the notebook is as it was
pub record IsRemarked (cell : ℕ) (f : Mark → Mark) (old new : Marked) : Type 0 where
  pub book : new.book ≡ old.book
  pub marks : (k : ℕ) → mark_of new k ≡ remarked cell f k (mark_of old k)
