-- The lines of a text. A text is its bytes: each test of a line is on ASCII bytes.
use Rattle.std.specs.Prelude.{ℕ, ◌==◌, Bool, if◌then◌else◌, List, [], ◌∷◌, map}
use Rattle.std.specs.List.{slice_split, join_with_byte}
use Rattle.blanks.specs.Blanks.{is_empty, drop_end, is_cr}

-- a line feed
abbrev pub is_lf : ℕ → Bool
is_lf b = b == 10

-- the pieces of a text, less the last one where it is empty: that is no line
abbrev pub without_empty_last : List (List ℕ) → List (List ℕ)
without_empty_last [] = []
without_empty_last (x ∷ []) = if is_empty x then [] else x ∷ []
without_empty_last (x ∷ y ∷ more) = x ∷ without_empty_last (y ∷ more)

-- the lines: the text is cut at each line feed, and carriage returns at a line's end are dropped
abbrev pub lines : List ℕ → List (List ℕ)
lines text = map (drop_end is_cr) (without_empty_last (slice_split is_lf text))

-- lines joined by line feeds
abbrev pub joined : List (List ℕ) → List ℕ
joined ls = join_with_byte 10 ls
