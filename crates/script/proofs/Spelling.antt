-- Names are ASCII, so texts and names are compared as bytes.
use Rattle.std.proofs.Common.{◌≡◌, ◌≢◌, ◌∙◌, ℕ, ◌<◌, ◌≤◌, ◌==◌, Bool, true, false, ◌&&◌, List, [], ◌∷◌, length, get_or, refl, sym, ap, arith, Option, Some, None, MatchOption}
use Rattle.std.specs.Prelude.{slice_get}
use Rattle.std.specs.List.{list_all, position, position_or_len}
use Rattle.std.specs.Str.{chars, IsAscii, encode_utf8_all, bytes_eq}
use Rattle.std.proofs.lemmas.Slice.Eq.{bytes_eq-Decides}
use Rattle.std.proofs.lemmas.Option.{slice_get_within, get_or_from_slice_get, slice_get-get_or}
use Rattle.std.proofs.lemmas.List.Quantifiers.{position-Some}
use Rattle.std.proofs.lemmas.List.Sums.{fails_before_first}
use Rattle.std.proofs.lemmas.Grind.{common_steps}
use Rattle.std.proofs.lemmas.Str.{chars-IsAscii, encodes-IsAscii}
use Rattle.std.proofs.lemmas.Str.Ascii.{IsAscii-cons, IsAscii-nil}
use Rattle.std.proofs.lemmas.Bool.Decides.{nat_tests}
use Rattle.script.specs.Name.{is_name_character, IsName}
use Rattle.script.specs.Clients.{AreNames}

-- texts that a test tells apart
pub apart : (xs ys : List ℕ) → bytes_eq xs ys ≡ false → xs ≡ ys → ⊥
apart xs ys differs same = let e : true ≡ false = sym ((bytes_eq-Decides xs ys).1 same) ∙ differs in absurd (cc)

both : (a b : Bool) → (a && b) ≡ true → (a ≡ true) × (b ≡ true)
both true true e = (refl, refl)
both true false e = absurd (cc)
both false b e = absurd (cc)

is_name_character-ascii : (b : ℕ) → is_name_character b ≡ true → b < 128
is_name_character-ascii b h = grind (arith, nat_tests)

list_all-ascii : (bs : List ℕ) → list_all is_name_character bs ≡ true → IsAscii bs
list_all-ascii [] h = IsAscii-nil
list_all-ascii (b ∷ bs) h =
    let parts = both (is_name_character b) (list_all is_name_character bs) h in
    IsAscii-cons b bs (is_name_character-ascii b parts.0) (list_all-ascii bs parts.1)

IsName-ascii : (name : List ℕ) → IsName name → IsAscii name
IsName-ascii name form = list_all-ascii name (both _ _ (both _ _ form).0).1

pub name-chars : (name : List ℕ) → IsName name → chars name ≡ name
name-chars name form = chars-IsAscii name (IsName-ascii name form)

pub name-bytes : (name : List ℕ) → IsName name → encode_utf8_all name ≡ name
name-bytes name form = encodes-IsAscii name (IsName-ascii name form)

-- the first of the names whose bytes are the word
abbrev IsSpelled : List ℕ → List ℕ → Bool
IsSpelled word text = bytes_eq (encode_utf8_all text) word

place-some : (names : List (List ℕ)) (word : List ℕ) (place : ℕ) → AreNames names → position (IsSpelled word) names ≡ Some place → slice_get names place ≡ Some word
place-some names word place forms found =
    let at = position-Some (IsSpelled word) names place [] found in
    let here : slice_get names place ≡ Some (get_or names place []) = slice_get-get_or names place [] at.0 in
    let spelled : encode_utf8_all (get_or names place []) ≡ word = (bytes_eq-Decides _ word).0 at.1 in
    here ∙ ap Some (sym (name-bytes _ (forms place _ here)) ∙ spelled)

place-none : (names : List (List ℕ)) (word : List ℕ) → AreNames names → position (IsSpelled word) names ≡ None → (place : ℕ) → slice_get names place ≢ Some word
place-none names word forms none place here =
    let all : length names ≤ position_or_len (IsSpelled word) names = grind (arith, common_steps) in
    let within : place < length names = slice_get_within names place word here in
    let at : get_or names place [] ≡ word = get_or_from_slice_get names place word [] here in
    let spelled : encode_utf8_all (get_or names place []) ≡ word = ap encode_utf8_all at ∙ name-bytes word (forms place word here) in
    apart _ word (fails_before_first (IsSpelled word) names place [] (omega (arith, within, all))) spelled

pub place-is : (names : List (List ℕ)) (word : List ℕ) (answer : Option ℕ) → AreNames names → answer ≡ position (IsSpelled word) names
    → MatchOption answer ((place : ℕ) → slice_get names place ≢ Some word) (λ place. slice_get names place ≡ Some word)
place-is names word None forms e = place-none names word forms (sym e)
place-is names word (Some place) forms e = place-some names word place forms (sym e)

pub empty-from_test : (text : List ℕ) (test : Bool) → test ≡ (length text == 0) → test ≡ true → text ≡ []
empty-from_test [] test e passes = refl
empty-from_test (b ∷ text) test e passes = absurd (grind (arith, nat_tests))
