-- The text of steps, one by one.
use Rattle.std.proofs.Common.{◌≡◌, ◌∙◌, ℕ, List, [], ◌∷◌, ◌++◌, codes, refl, sym, ap, append_assoc}
use Rattle.std.specs.List.{flat_map}
use Rattle.std.specs.Fmt.{digits}
use Rattle.std.specs.Char.{encode_utf8}
use Rattle.json.specs.Print.{escape_byte}
use Rattle.delta.specs.declared.Step.{Step}
use Rattle.delta.specs.declared.Step.TheVariants.{Retain, Insert, Delete}
use Rattle.transcript.specs.Deltas.{step_text, next_step_text, delta_text}

-- one step more is put, and the rest is left
pub steps_turn : (left rest : List Step) (step : Step) (out next whole : List ℕ) → left ≡ step ∷ rest → next ≡ (out ++ codes ",") ++ step_text step → out ++ flat_map next_step_text left ≡ whole → next ++ flat_map next_step_text rest ≡ whole
steps_turn left rest step out next whole front put stood =
    let tail : List ℕ = flat_map next_step_text rest in
    ap (λ t. t ++ tail) (put ∙ append_assoc out (codes ",") (step_text step))
    ∙ append_assoc out (next_step_text step) tail
    ∙ ap (λ steps. out ++ flat_map next_step_text steps) (sym front)
    ∙ stood

-- worked texts
delta_empty : delta_text [] ≡ codes "[]"
delta_empty = refl

delta_three : delta_text (Retain 12 ∷ Insert (codes "X") ∷ Delete 1 ∷ []) ≡ codes "[12," ++ 34 ∷ 88 ∷ 34 ∷ codes ",-1]"
unfolding digits encode_utf8 escape_byte
delta_three = refl
