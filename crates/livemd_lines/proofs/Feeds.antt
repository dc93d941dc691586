-- Lines put together and cut again.
use Rattle.std.proofs.Common.{◌≡◌, ℕ, List, [], ◌∷◌, ◌++◌, map, refl, ap, ◌∙◌}
use Rattle.std.specs.List.{slice_split, AllByRecursion}
use Rattle.blanks.specs.Blanks.{drop_end, is_cr}
use Rattle.livemd_lines.specs.Lines.{is_lf, lines, without_empty_last}
use Rattle.livemd_lines.specs.Written.{HasNoFeed, IsLine, text_of_lines}

pieces-line : (l rest : List ℕ) → HasNoFeed l → slice_split is_lf (l ++ 10 ∷ rest) ≡ l ∷ slice_split is_lf rest
pieces-line [] rest h = refl
pieces-line (c ∷ l) rest h = rw (h.0, pieces-line l rest h.1) refl

pieces-text_of_lines : (ls : List (List ℕ)) → AllByRecursion IsLine ls → slice_split is_lf (text_of_lines ls) ≡ ls ++ [] ∷ []
pieces-text_of_lines [] h = refl
pieces-text_of_lines (l ∷ ls) h = pieces-line l (text_of_lines ls) h.0.0 ∙ ap (λ w. l ∷ w) (pieces-text_of_lines ls h.1)

without_last : (ls : List (List ℕ)) → without_empty_last (ls ++ [] ∷ []) ≡ ls
without_last [] = refl
without_last (l ∷ []) = refl
without_last (l ∷ k ∷ ls) = ap (λ w. l ∷ w) (without_last (k ∷ ls))

-- they have no carriage returns at their ends
pub no_crs : (ls : List (List ℕ)) → AllByRecursion IsLine ls → map (drop_end is_cr) ls ≡ ls
no_crs [] h = refl
no_crs (l ∷ ls) h = rw (h.0.1, no_crs ls h.1) refl

-- lines that are written are read as they were
pub lines-text_of_lines : (ls : List (List ℕ)) → AllByRecursion IsLine ls → lines (text_of_lines ls) ≡ ls
lines-text_of_lines ls h = ap (λ w. map (drop_end is_cr) (without_empty_last w)) (pieces-text_of_lines ls h) ∙ (ap (map (drop_end is_cr)) (without_last ls) ∙ no_crs ls h)
