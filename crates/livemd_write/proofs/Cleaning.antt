-- A text without carriage returns is clean already.
use Rattle.std.proofs.Common.{◌≡◌, ℕ, true, false, ◌||◌, cond, List, [], ◌∷◌, map, refl, sym, ap, ◌∙◌}
use Rattle.std.specs.Prelude.{IfOk, Result, Ok, Err, chars, encode_utf8_all}
use Rattle.std.specs.List.{list_any, onto_first}
use Rattle.blanks.specs.Blanks.{drop_end, is_cr}
use Rattle.livemd_lines.specs.Lines.{is_lf, joined}
use Rattle.livemd_format.specs.Tidy.{changed, clean, clean_pieces, pieces}
use Rattle.livemd_format.proofs.Trimming.{joined-pieces}

not_first : (b : ℕ) (t : List ℕ) → list_any is_cr (b ∷ t) ≡ false → is_cr b ≡ false
not_first b t = elim (is_cr b) as (λ v. (v || list_any is_cr t) ≡ false → v ≡ false) [ true ↦ λ h. h | false ↦ λ h. refl ]

not_later : (b : ℕ) (t : List ℕ) → list_any is_cr (b ∷ t) ≡ false → list_any is_cr t ≡ false
not_later b t = elim (is_cr b) as (λ v. (v || list_any is_cr t) ≡ false → list_any is_cr t ≡ false) [ true ↦ λ h. absurd cc | false ↦ λ h. h ]

onto_same : (b : ℕ) (ps : List (List ℕ)) → is_cr b ≡ false → map (drop_end is_cr) (onto_first b ps) ≡ onto_first b (map (drop_end is_cr) ps)
onto_same b [] e = rw e refl
onto_same b (p ∷ ps) e = rw e refl

pieces_same : (t : List ℕ) → list_any is_cr t ≡ false → clean_pieces t ≡ pieces t
pieces_same [] h = refl
pieces_same (b ∷ t) h =
    let more : map (drop_end is_cr) (pieces t) ≡ pieces t = pieces_same t (not_later b t h) in
    elim (is_lf b)
    as (λ v. map (drop_end is_cr) (cond v ([] ∷ pieces t) (onto_first b (pieces t))) ≡ cond v ([] ∷ pieces t) (onto_first b (pieces t))) [
      | true ↦ ap (λ ps. [] ∷ ps) more
      | false ↦ onto_same b (pieces t) (not_first b t h) ∙ ap (onto_first b) more
    ]

pub clean-same : (t : List ℕ) → list_any is_cr t ≡ false → clean t ≡ t
clean-same t h = ap joined (pieces_same t h) ∙ joined-pieces t

-- a copy of it is its clean form
pub clean_copy : {E : Type 0} (t b : List ℕ) (r : Result (List ℕ) E) → b ≡ encode_utf8_all t → chars b ≡ t → list_any is_cr b ≡ false → IfOk r (λ x. x ≡ t) → IfOk r (λ x. x ≡ changed clean t)
clean_copy t b (Ok x) e c n h = h ∙ (sym c ∙ ap chars (sym (clean-same b n) ∙ ap clean e))
clean_copy t b (Err x) e c n h = tt
