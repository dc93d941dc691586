-- Counting the units of a text, and the turn of a `for` over its characters.
use Rattle.std.proofs.Common.{◌≡◌, ℕ, ◌+◌, ◌-◌, ◌<◌, ◌≤◌, List, [], ◌∷◌, ◌++◌, length, take, drop, Option, Some, None, true, false, cond, ltb, ◌==◌, refl, sym, ap, ◌∙◌, arith, zero, suc, length-append}
use Rattle.std.proofs.lemmas.Iterator.{YieldsList-from_chars}
use Rattle.std.proofs.lemmas.Iterator.Consumers.{YieldsList-turn, YieldsList-end, YieldsList-so_far}
use Rattle.std.proofs.lemmas.List.{take-append-drop, map-id, append-nil}
use Rattle.std.specs.Char.Escape.{encode_utf16}
use Rattle.std.proofs.lemmas.List.Concat.{flat_map-append}
use Rattle.std.proofs.lemmas.Bool.Decides.{nat_tests}
use Rattle.std.proofs.lemmas.Str.{length-encode, encodes-chars, encodes-append}
use Rattle.std.proofs.Math.Seq.{drop-cons}
use Rattle.std.proofs.iter.TextItems.{spells}
use Rattle.std.specs.Iterator.{Yields}
use Rattle.std.specs.Char.{len_utf8, encode_utf8}
use Rattle.std.specs.Str.{chars, IsUtf8, encode_utf8_all}
use Rattle.std.specs.Str.Iter.{chars_rest}
use Rattle.std.specs.declared.str.Chars.{Chars}
use Rattle.utf16_text.proofs.Scalars.{chars-AreScalars, AreScalars-at}
use Rattle.utf16_text.specs.Units.{units, unit_count, units_of_character, is_scalar, is_whole, IsPlaceOf}

-- the turn of a `for` over the characters of a text: it has had xs of them, and now has x, a scalar value
pub record CharsTurn (bs xs : List ℕ) (x : ℕ) : Type 0 where
  pub back : List ℕ
  pub parts : chars bs ≡ xs ++ x ∷ back
  pub good : is_scalar x ≡ true

pub chars_turn : (s : Chars) (bs : List ℕ) → IsUtf8 bs → chars_rest s ≡ bs → (xs : List ℕ) (t : Chars) → Yields spells s xs t
    → (r : Option ℕ) (u : Chars) (x : ℕ) → r ≡ Some x → spells t r u → CharsTurn bs xs x
chars_turn s bs h q xs t y r u x is p =
    let e = YieldsList-from_chars bs h q in
    let turn = YieldsList-turn e xs t y r u x is p in
    let front : xs ≡ take (length xs) (chars bs) = sym (map-id xs) ∙ YieldsList-so_far e xs t y in
    let lt : length xs < length (chars bs) = turn.0 in
    let parts : chars bs ≡ xs ++ x ∷ drop (suc (length xs)) (chars bs) =
    sym (take-append-drop (length xs) (chars bs)) ∙ (
    ap (λ w. w ++ drop (length xs) (chars bs)) (sym front)
    ∙ (ap (λ w. xs ++ w) (drop-cons (chars bs) (length xs) x lt) ∙ ap (λ w. xs ++ w ∷ drop (suc (length xs)) (chars bs)) (sym turn.1))
    ) in
    record { back = drop (suc (length xs)) (chars bs); parts = parts; good = AreScalars-at (chars bs) xs x _ parts (chars-AreScalars bs h) }

-- the end of that `for`
pub chars_end : (s : Chars) (bs : List ℕ) → IsUtf8 bs → chars_rest s ≡ bs → (xs : List ℕ) (t : Chars) → Yields spells s xs t
    → (r : Option ℕ) (u : Chars) → r ≡ None → spells t r u → xs ≡ chars bs
chars_end s bs h q xs t y r u is p = sym (map-id xs) ∙ (YieldsList-end (YieldsList-from_chars bs h q) xs t y r u is p).0

pub units-append : (xs ys : List ℕ) → units (xs ++ ys) ≡ units xs ++ units ys
units-append xs ys = flat_map-append units_of_character xs ys

pub unit_count-append : (xs ys : List ℕ) → unit_count (xs ++ ys) ≡ unit_count xs + unit_count ys
unit_count-append xs ys = ap length (units-append xs ys) ∙ length-append (units xs) (units ys)

pub unit_count-cons : (x : ℕ) (xs : List ℕ) → unit_count (x ∷ xs) ≡ length (units_of_character x) + unit_count xs
unit_count-cons x xs = length-append (units_of_character x) (units xs)

-- how many units a character has
pub length-units_of_character : (c : ℕ) → is_scalar c ≡ true → length (units_of_character c) ≡ cond (ltb c 0x1_0000) 1 2
length-units_of_character c good = rw good (grind (arith, nat_tests))

-- a character has no more units than bytes
width_le : (c : ℕ) → length (units_of_character c) ≤ len_utf8 c
width_le c = grind (arith, nat_tests)

pub unit_count-le-encodes : (cs : List ℕ) → unit_count cs ≤ length (encode_utf8_all cs)
unit_count-le-encodes [] = omega arith
unit_count-le-encodes (c ∷ cs) = omega (arith, unit_count-cons c cs, unit_count-le-encodes cs, width_le c, length-encode c, length-append {A = ℕ})

pub unit_count-le-bytes : (bs : List ℕ) → IsUtf8 bs → unit_count (chars bs) ≤ length bs
unit_count-le-bytes bs h = omega (arith, unit_count-le-encodes (chars bs), ap length (encodes-chars bs h))

-- what `len_utf16` answers
pub width_is : (c r : ℕ) → is_scalar c ≡ true → (c < 0x1_0000 → r ≡ 1) → (0x1_0000 ≤ c → r ≡ 2) → r ≡ length (units_of_character c)
width_is c r good bmp pair = rw (length-units_of_character c good) (grind (arith, nat_tests))

pub unit_count-push : (xs : List ℕ) (c : ℕ) → unit_count (xs ++ c ∷ []) ≡ unit_count xs + length (units_of_character c)
unit_count-push xs c = omega (arith, unit_count-append xs (c ∷ []), unit_count-cons c [])

-- the count of a text that has one character more
pub count_pushed : (cs ds : List ℕ) (c n r : ℕ) → is_scalar c ≡ true → ds ≡ cs ++ c ∷ [] → n ≡ unit_count cs → (c < 0x1_0000 → r ≡ 1) → (0x1_0000 ≤ c → r ≡ 2) → n + r ≡ unit_count ds
count_pushed cs ds c n r good made counted bmp pair = omega (arith, ap unit_count made, unit_count-push cs c, counted, width_is c r good bmp pair)

pub encodes-push : (xs : List ℕ) (c : ℕ) → length (encode_utf8_all (xs ++ c ∷ [])) ≡ length (encode_utf8_all xs) + length (encode_utf8 c)
encodes-push xs c = omega (arith, ap length (encodes-append xs (c ∷ [])), length-append (encode_utf8_all xs) (encode_utf8_all (c ∷ [])), length-append (encode_utf8 c) [])

-- what has been counted, with one more character, stays within the text
pub count_fits : (bs xs : List ℕ) (c : ℕ) (back : List ℕ) → chars bs ≡ xs ++ c ∷ back → unit_count xs + length (units_of_character c) ≤ unit_count (chars bs)
count_fits bs xs c back e = omega (arith, ap unit_count e, unit_count-append xs (c ∷ back), unit_count-cons c back)

pub bytes_fit : (bs xs : List ℕ) (c : ℕ) (back : List ℕ) → IsUtf8 bs → chars bs ≡ xs ++ c ∷ back → length (encode_utf8_all xs) + length (encode_utf8 c) ≤ length bs
bytes_fit bs xs c back h e =
    omega (
      arith,
      ap length (encodes-chars bs h),
      ap (λ w. length (encode_utf8_all w)) e,
      ap length (encodes-append xs (c ∷ back)),
      length-append (encode_utf8_all xs) (encode_utf8_all (c ∷ back)),
      length-append (encode_utf8 c) (encode_utf8_all back),
    )

-- a place within or past the units of c
pub is_whole-zero : (cs : List ℕ) → is_whole cs 0 ≡ true
is_whole-zero [] = refl
is_whole-zero (c ∷ cs) = refl

is_whole_skip : (c : ℕ) (cs : List ℕ) (n : ℕ) → is_whole (c ∷ cs) (length (units_of_character c) + n) ≡ is_whole cs n
is_whole_skip c cs n =
    let e : length (units_of_character c) + n - length (units_of_character c) ≡ n = omega arith in
    rw e (at (length (units_of_character c)) n)
  where
    at : (w m : ℕ) → cond (w + m == 0) true (cond (ltb (w + m) w) false (is_whole cs m)) ≡ is_whole cs m
    at w zero = rw is_whole-zero (grind (arith, nat_tests))
    at w (suc m) = grind (arith, nat_tests)

-- a place past the front is a place of the rest
pub is_whole-append : (xs ys : List ℕ) (n : ℕ) → is_whole (xs ++ ys) (unit_count xs + n) ≡ is_whole ys n
is_whole-append [] ys n = let e : 0 + n ≡ n = omega arith in rw e refl
is_whole-append (x ∷ xs) ys n =
    let e : unit_count (x ∷ xs) + n ≡ length (units_of_character x) + (unit_count xs + n) = omega (arith, unit_count-cons x xs) in
    rw e (is_whole_skip x (xs ++ ys) (unit_count xs + n) ∙ is_whole-append xs ys n)

pub whole_at : (cs xs ys : List ℕ) (at : ℕ) → cs ≡ xs ++ ys → unit_count xs ≡ at → is_whole cs at ≡ true
whole_at cs xs ys at e n =
    let m : at ≡ unit_count xs + 0 = omega arith in
    rw (e, m) (is_whole-append xs ys 0 ∙ is_whole-zero ys)

inside : (c : ℕ) (cs : List ℕ) (n : ℕ) → 0 < n → n < length (units_of_character c) → is_whole (c ∷ cs) n ≡ false
inside c cs n lo hi = grind (arith, nat_tests)

pub not_whole : (cs xs : List ℕ) (c : ℕ) (back : List ℕ) (at : ℕ) → cs ≡ xs ++ c ∷ back → unit_count xs < at → at < unit_count xs + length (units_of_character c) → is_whole cs at ≡ false
not_whole cs xs c back at e lo hi =
    let m : at ≡ unit_count xs + (at - unit_count xs) = omega arith in
    rw (e, m) (is_whole-append xs (c ∷ back) (at - unit_count xs) ∙ inside c back (at - unit_count xs) (omega arith) (omega arith))

-- the place between two parts of a text
pub place_between : (cs xs ys : List ℕ) (at byte : ℕ) → cs ≡ xs ++ ys → unit_count xs ≡ at → length (encode_utf8_all xs) ≡ byte → IsPlaceOf cs at byte
place_between cs xs ys at byte e n b = record { front = xs; back = ys; cut = record { parts = e; before = n }; bytes = b }

pub units-push : (xs : List ℕ) (c : ℕ) → is_scalar c ≡ true → units (xs ++ c ∷ []) ≡ units xs ++ encode_utf16 c
units-push xs c good = units-append xs (c ∷ []) ∙ ap (λ w. units xs ++ w) (append-nil (units_of_character c) ∙ rw good refl)
