-- The words of a text, with blanks between them.
use Rattle.std.specs.Prelude.{ℕ, List, drop}
use Rattle.std.specs.List.{before_first, position_or_len}
use Rattle.blanks.specs.Blanks.{drop_front, is_space_or_tab}

-- the text up to its first blank
abbrev pub first_word : List ℕ → List ℕ
first_word text = before_first is_space_or_tab text

-- what follows the first word and the blanks after it
abbrev pub after_word : List ℕ → List ℕ
after_word text = drop_front is_space_or_tab (drop (position_or_len is_space_or_tab text) text)
