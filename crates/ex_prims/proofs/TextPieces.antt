-- The pieces of a text between the occurrences of another.
use Rattle.std.proofs.Common.{◌≡◌, ℕ, zero, suc, ◌+◌, ◌-◌, ◌<◌, ◌≤◌, Bool, true, false, if◌then◌else◌, Some, List, [], ◌∷◌, ◌++◌, length, take, drop, map, refl, sym, ap, ◌∙◌, arith, append_assoc}
use Rattle.std.specs.List.{onto_first}
use Rattle.std.specs.Str.Pattern.{FindsText, LacksTextAt}
use Rattle.ex_terms.specs.declared.values.Value.{Value}
use Rattle.ex_terms.specs.declared.values.Value.TheVariants.{Str}
use Rattle.ex_prims.specs.Texts.{begins_with, pieces_past}
use Rattle.ex_prims.proofs.TextTests.{begins-so, so-begins}

-- the bytes of the last occurrence are passed by
passed-by : (t u after : List ℕ) → pieces_past t (length u) (u ++ after) ≡ pieces_past t 0 after
passed-by t [] after = refl
passed-by t (b ∷ u) after = passed-by t u after

-- a text that begins with the other
cut-here : (b : ℕ) (t after : List ℕ) → pieces_past (b ∷ t) 0 (b ∷ (t ++ after)) ≡ [] ∷ pieces_past (b ∷ t) 0 after
cut-here b t after =
    let n : length (b ∷ t) - 1 ≡ length t = omega arith in
    ap (λ k. if k then [] ∷ pieces_past (b ∷ t) (length (b ∷ t) - 1) (t ++ after) else onto_first b (pieces_past (b ∷ t) 0 (t ++ after))) (so-begins (b ∷ (t ++ after)) (b ∷ t) after refl)
    ∙ (ap (λ m. [] ∷ pieces_past (b ∷ t) m (t ++ after)) n ∙ ap (λ ps. [] ∷ ps) (passed-by (b ∷ t) t after))

-- a text that doesn't
pub begins-not : (s t : List ℕ) (b : Bool) → begins_with s t ≡ b → LacksTextAt t s 0 → b ≡ false
begins-not s t true e lacks = absurd (lacks (drop (length t) s) (begins-so s t e))
begins-not s t false e lacks = refl

onward : (b d : ℕ) (t s : List ℕ) → LacksTextAt (d ∷ t) (b ∷ s) 0 → pieces_past (d ∷ t) 0 (b ∷ s) ≡ onto_first b (pieces_past (d ∷ t) 0 s)
onward b d t s lacks = ap (λ k. if k then [] ∷ pieces_past (d ∷ t) (length (d ∷ t) - 1) s else onto_first b (pieces_past (d ∷ t) 0 s)) (begins-not (b ∷ s) (d ∷ t) _ refl lacks)

cut-at : (i d : ℕ) (t s after : List ℕ) → ((k : ℕ) → k < i → LacksTextAt (d ∷ t) s k) → drop i s ≡ (d ∷ t) ++ after → pieces_past (d ∷ t) 0 s ≡ take i s ∷ pieces_past (d ∷ t) 0 after
cut-at zero d t s after lacks e = ap (pieces_past (d ∷ t) 0) e ∙ cut-here d t after
cut-at (suc i) d t [] after lacks e = absurd (cc)
cut-at (suc i) d t (b ∷ s) after lacks e =
    onward b d t s (lacks 0 (omega arith))
    ∙ ap (onto_first b) (cut-at i d t s after (λ k lt. lacks (suc k) (omega (arith, lt))) e)

uncut : (d : ℕ) (t s : List ℕ) → ((k : ℕ) → k ≤ length s → LacksTextAt (d ∷ t) s k) → pieces_past (d ∷ t) 0 s ≡ s ∷ []
uncut d t [] lacks = refl
uncut d t (b ∷ s) lacks = onward b d t s (lacks 0 (omega arith)) ∙ ap (onto_first b) (uncut d t s (λ k le. lacks (suc k) (omega (arith, le))))

-- one piece more
pub piece-cut : (t s piece after : List ℕ) (i j : ℕ) (done more whole : List Value) → 0 < length t → FindsText t s (Some (i, j)) → piece ≡ take i s → after ≡ drop j s → more ≡ done ++ Str piece ∷ [] → done ++ map Str (pieces_past t 0 s) ≡ whole → more ++ map Str (pieces_past t 0 after) ≡ whole
piece-cut [] s piece after i j done more whole some found is rest put so_far = absurd (omega (arith, some))
piece-cut (d ∷ t) s piece after i j done more whole some found is rest put so_far =
    ap (λ vs. vs ++ map Str (pieces_past (d ∷ t) 0 after)) put
    ∙ (append_assoc done (Str piece ∷ []) (map Str (pieces_past (d ∷ t) 0 after))
    ∙ (ap (λ p. done ++ Str p ∷ map Str (pieces_past (d ∷ t) 0 after)) is
    ∙ (ap (λ ps. done ++ map Str ps) (sym (cut-at i d t s after found.0 (found.1.split ∙ ap (λ l. (d ∷ t) ++ l) (sym rest)))) ∙ so_far)))

-- the last piece
pub piece-last : (t s : List ℕ) (done more whole : List Value) → 0 < length t → ((k : ℕ) → k ≤ length s → LacksTextAt t s k) → more ≡ done ++ Str s ∷ [] → done ++ map Str (pieces_past t 0 s) ≡ whole → more ≡ whole
piece-last [] s done more whole some lacks put so_far = absurd (omega (arith, some))
piece-last (d ∷ t) s done more whole some lacks put so_far = put ∙ (ap (λ ps. done ++ map Str ps) (sym (uncut d t s lacks)) ∙ so_far)

-- what follows an occurrence is shorter
pub shorter : (t s after : List ℕ) (i j : ℕ) → 0 < length t → i ≤ j → j ≡ i + length t → length after + j ≡ length s → length after < length s
shorter t s after i j some le e whole = omega (arith, some, e, whole)
