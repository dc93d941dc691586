-- How bytes are cut into lines, and which lines count.
use Rattle.std.specs.Prelude.{ℕ, ◌==◌, not, if◌then◌else◌, Bool, true, List, [], ◌∷◌, map, filter}
use Rattle.std.specs.List.{onto_first}
use Rattle.blanks.specs.Blanks.{drop_end, drop_front, is_cr, is_space_or_tab}

-- the bytes cut at each LF; a last piece that is empty isn't a line
abbrev pub lines : List ℕ → List (List ℕ)
lines [] = []
lines (b ∷ bs) = if b == 10 then [] ∷ lines bs else onto_first b (lines bs)

-- what a line says: first the CRs at its end go, then its outer blanks
abbrev pub said : List ℕ → List ℕ
said line = drop_front is_space_or_tab (drop_end is_space_or_tab (drop_end is_cr line))

-- whether a line is skipped: one that says nothing, and a comment
abbrev pub is_skipped : List ℕ → Bool
is_skipped [] = true
is_skipped (b ∷ bs) = b == 35

-- what the lines say that aren't skipped
abbrev pub texts : List (List ℕ) → List (List ℕ)
texts ls = filter (λ text. not (is_skipped text)) (map said ls)
