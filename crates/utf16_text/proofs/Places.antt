-- A place of units as a place of bytes.
use Rattle.std.proofs.Common.{◌==◌, ◌≡◌, ℕ, ◌<◌, List, [], ◌∷◌, ◌++◌, length, take, drop, true, refl, sym, ap, ◌∙◌, subst, arith}
use Rattle.std.proofs.Math.Seq.{take-append_seam, drop-append_seam}
use Rattle.std.proofs.Math.Utf8.{scalars}
use Rattle.std.proofs.lemmas.Str.{chars-encodes, encodes-chars, encodes-append, chars-append, length-le-encodes, IsCharBoundary-at_seam}
use Rattle.std.proofs.lemmas.Bool.Decides.{nat_tests}
use Rattle.std.proofs.lemmas.List.{append-nil}
use Rattle.std.specs.Char.{encode_utf8, IsScalar}
use Rattle.std.specs.Str.{chars, IsUtf8, IsCharBoundary, encode_utf8_all}
use Rattle.utf16_text.proofs.Scalars.{are_scalars-is, chars-AreScalars, AreScalars-front, AreScalars-back}
use Rattle.utf16_text.specs.Units.{AreScalars, CutsInto, IsPlaceOf}

scalars_of : (cs : List ℕ) → AreScalars cs → scalars cs ≡ true
scalars_of cs h = sym (are_scalars-is cs) ∙ h

-- a text whose characters are two lists is their two texts
bytes_of_parts : (bs xs ys : List ℕ) → IsUtf8 bs → chars bs ≡ xs ++ ys → bs ≡ encode_utf8_all xs ++ encode_utf8_all ys
bytes_of_parts bs xs ys h e = sym (encodes-chars bs h) ∙ (ap encode_utf8_all e ∙ encodes-append xs ys)

pub place_boundary : (bs : List ℕ) (at byte : ℕ) → IsUtf8 bs → IsPlaceOf (chars bs) at byte → IsCharBoundary bs byte
place_boundary bs at byte h p =
    let good : AreScalars (p.front ++ p.back) = rw p.cut.parts at (chars-AreScalars bs h) in
    subst (λ n. IsCharBoundary bs n) p.bytes
    (IsCharBoundary-at_seam bs (encode_utf8_all p.front) (encode_utf8_all p.back) (bytes_of_parts bs p.front p.back h p.cut.parts) (p.back, (scalars_of p.back (AreScalars-back p.front p.back good), refl)))

pub place_cuts : (bs : List ℕ) (at byte : ℕ) → IsUtf8 bs → IsPlaceOf (chars bs) at byte → CutsInto (chars bs) at (chars (take byte bs)) (chars (drop byte bs))
place_cuts bs at byte h p =
    let good : AreScalars (p.front ++ p.back) = rw p.cut.parts at (chars-AreScalars bs h) in
    let b = bytes_of_parts bs p.front p.back h p.cut.parts in
    let f : chars (take byte bs) ≡ p.front =
    ap (λ n. chars (take n bs)) (sym p.bytes) ∙ (ap (λ w. chars (take (length (encode_utf8_all p.front)) w)) b
    ∙ (ap chars (take-append_seam (encode_utf8_all p.front) (encode_utf8_all p.back)) ∙ chars-encodes p.front (scalars_of p.front (AreScalars-front p.front p.back good)))) in
    let g : chars (drop byte bs) ≡ p.back =
    ap (λ n. chars (drop n bs)) (sym p.bytes) ∙ (ap (λ w. chars (drop (length (encode_utf8_all p.front)) w)) b
    ∙ (ap chars (drop-append_seam (encode_utf8_all p.front) (encode_utf8_all p.back)) ∙ chars-encodes p.back (scalars_of p.back (AreScalars-back p.front p.back good)))) in
    rw (f, g) p.cut

-- a text has no bytes where it has no characters
none_encoded : (cs : List ℕ) → (length (encode_utf8_all cs) == 0) ≡ (length cs == 0)
none_encoded [] = refl
none_encoded (c ∷ cs) =
    let some : 0 < length (encode_utf8_all (c ∷ cs)) = omega (arith, length-le-encodes (c ∷ cs)) in
    grind (arith, nat_tests)

pub no_bytes : (bs : List ℕ) → IsUtf8 bs → (length bs == 0) ≡ (length (chars bs) == 0)
no_bytes bs h = ap (λ w. length w == 0) (sym (encodes-chars bs h)) ∙ none_encoded (chars bs)

-- one more character at the end
pub chars-push : (bs : List ℕ) (c : ℕ) → IsUtf8 bs → IsScalar c → chars (bs ++ encode_utf8 c) ≡ chars bs ++ c ∷ []
chars-push bs c h good =
    chars-append bs (encode_utf8 c) h
    ∙ ap (λ w. chars bs ++ w) (ap chars (sym (append-nil (encode_utf8 c))) ∙ chars-encodes (c ∷ []) (rw good refl))
