-- Printed lines.
use Rattle.std.proofs.Common.{◌≡◌, ℕ, List, [], ◌∷◌, ◌++◌, sym, ap, ◌∙◌, append_assoc}
use Rattle.std.proofs.lemmas.List.{append-nil}
use Rattle.transcript.specs.Texts.{as_text}

-- a name and the words after it, ended, are a line
pub name-line : (before name words : List ℕ) → (before ++ name) ++ (words ++ 10 ∷ []) ≡ before ++ as_text ((name ++ words) ∷ [])
name-line before name words = append_assoc before name (words ++ 10 ∷ []) ∙ ap (λ x. before ++ x) (sym (append-nil _ ∙ append_assoc name words (10 ∷ [])))
