-- Worked marks and what they are worth, by computation: a check of the definitions.
use Rattle.std.proofs.Common.{◌≡◌, ℕ, pos, List, [], ◌∷◌, Some, None, codes, refl}
use Rattle.ex_value.specs.declared.Value.TheVariants.{Int}
use Rattle.ex_model.specs.declared.ran.Outcome.TheVariants.{Value}
use Rattle.ex_model.specs.declared.ran.Shown.{Shown}
use Rattle.notebook.specs.declared.parts.Cell.{Cell}
use Rattle.notebook.specs.declared.parts.Parts.{Parts}
use Rattle.notebook.specs.declared.parts.Kind.TheVariants.{Code, Markdown}
use Rattle.notebook.specs.declared.states.Validity.TheVariants.{Fresh, Evaluated, Stale, Aborted}
use Rattle.notebook.specs.Book.{untitled, with_source}
use Rattle.freshness.specs.declared.mark.Mark.{Mark}
use Rattle.freshness.specs.Marked.{Marked, as_aborted, as_finished, as_started, last_started, new_mark, present_path}
use Rattle.freshness.specs.Following.{code_numbers, followed}
use Rattle.freshness.specs.Validity.{validity_of}

abbrev code : ℕ → List ℕ → Cell
code id source = record { id = id; kind = Code; source = source; before = []; saved = [] }

-- a section with a text between two code cells, and a branch of it
abbrev book : Parts
book = record untitled {
  sections = record { id = 1; name = []; before = []; parent = None; cells = code 1 (codes "x = 2") ∷ record (code 2 []) { kind = Markdown } ∷ code 3 (codes "x * 21") ∷ [] }
      ∷ record { id = 2; name = []; before = []; parent = Some 1; cells = code 4 (codes "x") ∷ [] }
      ∷ [];
  next_cell = 5;
  next_section = 3;
}

-- which cells have marks
numbered : code_numbers book ≡ 0 ∷ 1 ∷ 3 ∷ 4 ∷ []
numbered = refl

all_new : followed book [] ≡ new_mark 0 ∷ new_mark 1 ∷ new_mark 3 ∷ new_mark 4 ∷ []
all_new = refl

-- a mark that is known stays, and one of a cell that doesn't live goes
follows : followed book (as_aborted (new_mark 3) ∷ as_aborted (new_mark 9) ∷ []) ≡ as_aborted (new_mark 3) ∷ new_mark 0 ∷ new_mark 1 ∷ new_mark 4 ∷ []
follows = refl

-- the marks of the notebook with one for cell 3
abbrev with : Parts → Mark → Marked
with n m = record { book = n; marks = m ∷ [] }

fresh : validity_of (with book (new_mark 3)) 3 ≡ Some Fresh
fresh = refl

-- a cell that is no live code cell
text : validity_of (with book (new_mark 3)) 2 ≡ None
text = refl

no_cell : validity_of (with book (new_mark 3)) 9 ≡ None
no_cell = refl

-- started and not finished yet
abbrev started : Mark
started = as_started 5 (present_path book 3) (new_mark 3)

still_fresh : validity_of (with book started) 3 ≡ Some Fresh
still_fresh = refl

knows_eval : last_started (with book started) 3 ≡ Some 5
knows_eval = refl

abbrev shown : Shown
shown = record { printed = []; outcome = Value (Int (pos 42)); steps = 3 }

abbrev finished : Mark
finished = as_finished 5 shown started

evaluated : validity_of (with book finished) 3 ≡ Some Evaluated
evaluated = refl

-- another source before it, its own, or none that it passes
stale : validity_of (with (with_source 1 (codes "x = 3") book) finished) 3 ≡ Some Stale
stale = refl

own_source : validity_of (with (with_source 3 [] book) finished) 3 ≡ Some Stale
own_source = refl

other_branch : validity_of (with (with_source 4 [] book) finished) 3 ≡ Some Evaluated
other_branch = refl

-- and the old source again
old_source : validity_of (with (with_source 1 (codes "x = 2") (with_source 1 [] book)) finished) 3 ≡ Some Evaluated
old_source = refl

-- broken off, also where an evaluation had finished, until one finishes
aborted : validity_of (with book (as_aborted finished)) 3 ≡ Some Aborted
aborted = refl

again : validity_of (with book (as_finished 6 shown (as_started 6 (present_path book 3) (as_aborted finished)))) 3 ≡ Some Evaluated
again = refl

-- an evaluation that was started before an edit is stale once it has finished
late_source : validity_of (with (with_source 1 (codes "x = 3") book) (as_finished 5 shown started)) 3 ≡ Some Stale
late_source = refl

-- all of these are worked: a citation of this one has the file checked
pub worked : last_started (with book finished) 3 ≡ Some 5
worked = refl
