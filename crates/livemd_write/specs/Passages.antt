-- Markdown text as far as its lines were taken.
use Rattle.std.specs.Prelude.{◌≡◌, ℕ, true, not, List, [], ◌∷◌, ◌++◌, None}
use Rattle.std.specs.List.{flat_map}
use Rattle.std.specs.String.{string_bytes}
use Rattle.livemd_lines.specs.Kinds.{Kinded, kinded}
use Rattle.blanks.specs.Blanks.{drop_end, drop_front, is_blank, is_empty}
use Rattle.livemd_lines.specs.Written.{open_behind}
use Rattle.livemd_write.specs.declared.markdown.Passage.{Passage}
use Rattle.livemd_write.specs.Texts.{joined_by}

-- these lines were taken: those that stay, and the blank ones behind them that wait
pub record IsPassage (seen : List (List ℕ)) (p : Passage) : Type 0 where
  pub kept : List (List ℕ)
  pub waiting : List (List ℕ)
  pub parts : drop_front is_blank seen ≡ kept ++ waiting
  pub ends : drop_end is_blank (kept ++ waiting) ≡ kept
  pub none : is_empty kept ≡ true → waiting ≡ []
  pub text : string_bytes p.text ≡ joined_by (10 ∷ []) kept
  pub begun : p.begun ≡ not (is_empty kept)
  pub left : p.left ≡ open_behind None kept
  pub blanks : string_bytes p.blanks ≡ flat_map (λ l. 10 ∷ l) waiting
  pub around : p.around ≡ open_behind None (kept ++ waiting)

-- one line more was taken, cut by the fence that was open before it
abbrev pub LineTaken : Passage → Kinded → Passage → Type 0
LineTaken old l new = (seen : List (List ℕ)) → l ≡ kinded old.around l.text → IsPassage seen old → IsPassage (seen ++ l.text ∷ []) new
