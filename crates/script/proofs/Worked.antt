-- Worked cases of the definitions, computed.
use Rattle.std.proofs.Common.{◌≡◌, [], ◌∷◌, ◌++◌, true, false, Some, None, codes, refl}
use Rattle.script.specs.Lines.{lines, said, texts}
use Rattle.script.specs.Words.{first_word, after_word}
use Rattle.script.specs.Name.{is_name}
use Rattle.script.specs.Delta.{steps_of_array}
use Rattle.serde_json.specs.Read.{read}
use Rattle.serde_json.proofs.OnLiterals.{serde_json_on_literals}
use Rattle.std.specs.Prelude.{option_and_then}
use Rattle.std.specs.Str.{chars}
use Rattle.delta.specs.declared.Step.TheVariants.{Retain, Insert, Delete}

-- a last piece that is empty is no line, and one of CRs alone is
cut-ended : lines (codes "a" ++ 10 ∷ 10 ∷ codes "bc" ++ 10 ∷ []) ≡ codes "a" ∷ [] ∷ codes "bc" ∷ []
cut-ended = refl

cut-open : lines (10 ∷ 13 ∷ []) ≡ [] ∷ (13 ∷ []) ∷ []
cut-open = refl

-- CRs go first, then outer blanks; a CR before a blank stays
said-outer : said (9 ∷ 32 ∷ codes "join ann" ++ 32 ∷ 13 ∷ 13 ∷ []) ≡ codes "join ann"
said-outer = refl

said-inner : said (codes "sync" ++ 13 ∷ 32 ∷ []) ≡ codes "sync" ++ 13 ∷ []
said-inner = refl

texts-count : texts (lines (codes "# x" ++ 10 ∷ codes " #y" ++ 10 ∷ 10 ∷ codes "sync" ++ 13 ∷ 10 ∷ [])) ≡ codes "sync" ∷ []
texts-count = refl

words-cut : first_word (codes "edit" ++ 32 ∷ 9 ∷ codes "ann 1") ≡ codes "edit"
words-cut = refl

words-rest : after_word (codes "edit" ++ 32 ∷ 9 ∷ codes "ann 1") ≡ codes "ann 1"
words-rest = refl

words-none : after_word (codes "sync") ≡ []
words-none = refl

-- 16 characters at most, and a small letter first
name-longest : is_name (codes "a234567890_b2345") ≡ true
name-longest = refl

name-too_long : is_name (codes "a234567890_b23456") ≡ false
name-too_long = refl

name-capital : is_name (codes "aB") ≡ false
name-capital = refl

name-digit : is_name (codes "1a") ≡ false
name-digit = refl

steps-three : option_and_then steps_of_array (read (codes "[1, -2 ,3]")) ≡ Some (Retain 1 ∷ Delete 2 ∷ Retain 3 ∷ [])
unfolding serde_json_on_literals
steps-three = refl

steps-text : option_and_then steps_of_array (read (91 ∷ 34 ∷ 88 ∷ 34 ∷ 93 ∷ [])) ≡ Some (Insert (88 ∷ []) ∷ [])
unfolding serde_json_on_literals chars
steps-text = refl

steps-no_integer : option_and_then steps_of_array (read (codes "[1.0]")) ≡ None
unfolding serde_json_on_literals
steps-no_integer = refl

steps-minus_zero : option_and_then steps_of_array (read (codes "[-0]")) ≡ None
unfolding serde_json_on_literals
steps-minus_zero = refl

steps-zero : option_and_then steps_of_array (read (codes "[0]")) ≡ None
unfolding serde_json_on_literals
steps-zero = refl
