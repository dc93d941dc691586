-- Counting units over the bytes of a text.
use Rattle.std.proofs.Common.{◌≡◌, ℕ, ◌+◌, ◌-◌, ◌/◌, ◌%◌, ◌<◌, ◌≤◌, List, [], ◌∷◌, ◌++◌, length, take, drop, get_or, true, refl, sym, ap, subst, ◌∙◌, arith, inl, inr, zero, suc}
use Rattle.std.proofs.Math.Seq.{take-append-add, take-add, take-length}
use Rattle.std.proofs.lemmas.Bool.{cases_lt}
use Rattle.std.proofs.lemmas.Bool.Decides.{nat_tests}
use Rattle.std.proofs.lemmas.List.{get_or-append-add, append-nil, take_all}
use Rattle.std.proofs.Math.ListN.{get_or-append, length-append, length-drop}
use Rattle.std.proofs.lemmas.List.Sums.{sum_by-append, sum_by-cons, sum_by-take-drop, sum_by_more_le}
use Rattle.std.proofs.lemmas.Str.{encodes-chars}
use Rattle.std.specs.Bool.{⊤}
use Rattle.std.specs.Prelude.{Result, Ok, Err, MatchResult}
use Rattle.std.specs.Char.{encode_utf8}
use Rattle.std.specs.Str.{chars, IsUtf8, encode_utf8_all}
use Rattle.utf16_text.proofs.Scalars.{chars-AreScalars, AreScalars-head, AreScalars-tail}
use Rattle.utf16_text.proofs.Counts.{unit_count-cons, unit_count-le-bytes, length-units_of_character, count_fits, not_whole, place_between}
use Rattle.utf16_text.specs.Bytes.{begun_at, begun_in, IsFrontOf}
use Rattle.utf16_text.specs.declared.UnitError.{UnitError}
use Rattle.utf16_text.specs.declared.UnitError.TheVariants.{PastEnd, SplitsPair}
use Rattle.utf16_text.specs.Units.{unit_count, units_of_character, is_scalar, AreScalars, IsPlaceOf, IsCauseOf}

-- bytes with which no unit begins
abbrev continues : List ℕ → Type 0
continues [] = ⊤
continues (b ∷ bs) = (begun_at b ≡ 0) × continues bs

-- a character's first byte, with which its units begin, and the others
record Encoded (c : ℕ) : Type 0 where
  first : ℕ
  others : List ℕ
  bytes : encode_utf8 c ≡ first ∷ others
  begins : begun_at first ≡ length (units_of_character c)
  continue : continues others

one_byte : (c : ℕ) → c < 128 → encode_utf8 c ≡ c ∷ []
unfolding encode_utf8
one_byte c h = grind (arith, nat_tests)

two_bytes : (c : ℕ) → 128 ≤ c → c < 0x800 → encode_utf8 c ≡ (192 + c / 64) ∷ (128 + c % 64) ∷ []
unfolding encode_utf8
two_bytes c m h = grind (arith, nat_tests)

three_bytes : (c : ℕ) → 0x800 ≤ c → c < 0x1_0000 → encode_utf8 c ≡ (224 + c / 4096) ∷ (128 + c / 64 % 64) ∷ (128 + c % 64) ∷ []
unfolding encode_utf8
three_bytes c m h = grind (arith, nat_tests)

four_bytes : (c : ℕ) → 0x1_0000 ≤ c → encode_utf8 c ≡ (240 + c / 262144) ∷ (128 + c / 4096 % 64) ∷ (128 + c / 64 % 64) ∷ (128 + c % 64) ∷ []
unfolding encode_utf8
four_bytes c m = grind (arith, nat_tests)

begins_none : (n : ℕ) → begun_at (128 + n % 64) ≡ 0
begins_none n = grind (arith, nat_tests)

begins_one : (b : ℕ) → b < 128 → begun_at b ≡ 1
begins_one b h = grind (arith, nat_tests)

begins_one_wide : (b : ℕ) → 192 ≤ b → b < 240 → begun_at b ≡ 1
begins_one_wide b m h = grind (arith, nat_tests)

begins_two : (b : ℕ) → 240 ≤ b → begun_at b ≡ 2
begins_two b m = grind (arith, nat_tests)

one_unit : (c : ℕ) → is_scalar c ≡ true → c < 0x1_0000 → length (units_of_character c) ≡ 1
one_unit c good h = length-units_of_character c good ∙ grind (arith, nat_tests)

two_units : (c : ℕ) → is_scalar c ≡ true → 0x1_0000 ≤ c → length (units_of_character c) ≡ 2
two_units c good h = length-units_of_character c good ∙ grind (arith, nat_tests)

encoded : (c : ℕ) → is_scalar c ≡ true → Encoded c
encoded c good = elim (cases_lt c 128) [
  | inl a ↦ record {
    first = c;
    others = [];
    bytes = one_byte c a;
    begins = begins_one c a ∙ sym (one_unit c good (omega arith));
    continue = tt;
  }
  | inr a ↦ elim (cases_lt c 0x800) [
    | inl b ↦ record {
      first = 192 + c / 64;
      others = (128 + c % 64) ∷ [];
      bytes = two_bytes c a b;
      begins = begins_one_wide (192 + c / 64) (omega arith) (omega arith) ∙ sym (one_unit c good (omega arith));
      continue = (begins_none c, tt);
    }
    | inr b ↦ elim (cases_lt c 0x1_0000) [
      | inl d ↦ record {
        first = 224 + c / 4096;
        others = (128 + c / 64 % 64) ∷ (128 + c % 64) ∷ [];
        bytes = three_bytes c b d;
        begins = begins_one_wide (224 + c / 4096) (omega arith) (omega arith) ∙ sym (one_unit c good d);
        continue = (begins_none (c / 64), (begins_none c, tt));
      }
      | inr d ↦ record {
        first = 240 + c / 262144;
        others = (128 + c / 4096 % 64) ∷ (128 + c / 64 % 64) ∷ (128 + c % 64) ∷ [];
        bytes = four_bytes c d;
        begins = begins_two (240 + c / 262144) (omega arith) ∙ sym (two_units c good d);
        continue = (begins_none (c / 4096), (begins_none (c / 64), (begins_none c, tt)));
      }
    ]
  ]
]

none_begun : (bs : List ℕ) → continues bs → begun_in bs ≡ 0
none_begun [] h = refl
none_begun (b ∷ bs) h = omega (arith, sum_by-cons begun_at b bs, h.0, none_begun bs h.1)

begun-encode : (c : ℕ) → is_scalar c ≡ true → begun_in (encode_utf8 c) ≡ length (units_of_character c)
begun-encode c good =
    let e = encoded c good in
    omega (arith, ap begun_in e.bytes, sum_by-cons begun_at e.first e.others, none_begun e.others e.continue, e.begins)

begun-encodes : (cs : List ℕ) → AreScalars cs → begun_in (encode_utf8_all cs) ≡ unit_count cs
begun-encodes [] good = refl
begun-encodes (c ∷ cs) good =
    omega (
      arith,
      sum_by-append begun_at (encode_utf8 c) (encode_utf8_all cs),
      begun-encode c (AreScalars-head c cs good),
      begun-encodes cs (AreScalars-tail c cs good),
      unit_count-cons c cs,
    )

-- the units that begin in the bytes of a text are its units
pub begun-bytes : (bs : List ℕ) → IsUtf8 bs → begun_in bs ≡ unit_count (chars bs)
begun-bytes bs h = ap begun_in (sym (encodes-chars bs h)) ∙ begun-encodes (chars bs) (chars-AreScalars bs h)

-- a character whose first byte is at a place of bytes, with what stands before it
pub record Begins (cs : List ℕ) (i b count : ℕ) : Type 0 where
  pub front : List ℕ
  pub c : ℕ
  pub back : List ℕ
  pub parts : cs ≡ front ++ c ∷ back
  pub place : length (encode_utf8_all front) ≡ i
  pub width : begun_at b ≡ length (units_of_character c)
  pub before : unit_count front ≡ count

continues_at : (bs : List ℕ) (i : ℕ) → continues bs → i < length bs → begun_at (get_or bs i 0) ≡ 0
continues_at [] i h l = absurd (omega arith)
continues_at (b ∷ bs) zero h l = h.0
continues_at (b ∷ bs) (suc i) h l = continues_at bs i h.1 (omega arith)

-- the first byte of a character, behind others or not
first_of : (c : ℕ) (rest : List ℕ) (good : is_scalar c ≡ true) → get_or (encode_utf8 c ++ rest) 0 0 ≡ (encoded c good).first
first_of c rest good = ap (λ w. get_or (w ++ rest) 0 0) (encoded c good).bytes

other_of : (c : ℕ) (rest : List ℕ) (i : ℕ) → is_scalar c ≡ true → suc i < length (encode_utf8 c) → begun_at (get_or (encode_utf8 c ++ rest) (suc i) 0) ≡ 0
other_of c rest i good lt =
    let e = encoded c good in
    let inside : i < length e.others = omega (arith, ap length e.bytes) in
    let at : get_or (encode_utf8 c ++ rest) (suc i) 0 ≡ get_or e.others i 0 = ap (λ w. get_or (w ++ rest) (suc i) 0) e.bytes ∙ get_or-append e.others rest 0 i inside in
    ap begun_at at ∙ continues_at e.others i e.continue inside

-- one more character in front
begins_later : (c : ℕ) (cs : List ℕ) (j b n : ℕ) → is_scalar c ≡ true → Begins cs j b n → (m : ℕ) → m ≡ length (units_of_character c) + n → Begins (c ∷ cs) (length (encode_utf8 c) + j) b m
begins_later c cs j b n good at m e =
    record {
      front = c ∷ at.front;
      c = at.c;
      back = at.back;
      parts = ap (λ w. c ∷ w) at.parts;
      place = length-append (encode_utf8 c) (encode_utf8_all at.front) ∙ ap (λ w. length (encode_utf8 c) + w) at.place;
      width = at.width;
      before = omega (arith, unit_count-cons c at.front, at.before);
    }

-- a unit begins at a byte of a text only where a character does
begins_at : (cs : List ℕ) (i : ℕ) → AreScalars cs → i < length (encode_utf8_all cs) → 0 < begun_at (get_or (encode_utf8_all cs) i 0)
    → Begins cs i (get_or (encode_utf8_all cs) i 0) (begun_in (take i (encode_utf8_all cs)))
begins_at [] i good lt some = absurd (omega arith)
begins_at (c ∷ cs) zero good lt some =
    let one = AreScalars-head c cs good in
    record {
      front = [];
      c = c;
      back = cs;
      parts = refl;
      place = refl;
      width = ap begun_at (first_of c (encode_utf8_all cs) one) ∙ (encoded c one).begins;
      before = refl;
    }
begins_at (c ∷ cs) (suc i) good lt some = elim (cases_lt (suc i) (length (encode_utf8 c))) [
  | inl h ↦ absurd (omega (arith, other_of c (encode_utf8_all cs) i (AreScalars-head c cs good) h))
  | inr h ↦
      let one = AreScalars-head c cs good in
      let j = suc i - length (encode_utf8 c) in
      let e : suc i ≡ length (encode_utf8 c) + j = omega arith in
      let at : get_or (encode_utf8_all (c ∷ cs)) (length (encode_utf8 c) + j) 0 ≡ get_or (encode_utf8_all cs) j 0 = get_or-append-add (encode_utf8 c) (encode_utf8_all cs) j 0 in
      let front : begun_in (take (length (encode_utf8 c) + j) (encode_utf8_all (c ∷ cs))) ≡ length (units_of_character c) + begun_in (take j (encode_utf8_all cs)) =
      ap begun_in (take-append-add (encode_utf8 c) (encode_utf8_all cs) j)
      ∙ (sum_by-append begun_at (encode_utf8 c) (take j (encode_utf8_all cs)) ∙ ap (λ w. w + begun_in (take j (encode_utf8_all cs))) (begun-encode c one)) in
      let later = begins_at cs j (AreScalars-tail c cs good) (omega (arith, length-append (encode_utf8 c) (encode_utf8_all cs))) (rw (e, at) at some) in
      rw (e, at) (begins_later c cs j (get_or (encode_utf8_all cs) j 0) (begun_in (take j (encode_utf8_all cs))) one later _ front)
]

-- the same over the bytes of a text
pub begins : (bs : List ℕ) (i : ℕ) → IsUtf8 bs → i < length bs → 0 < begun_at (get_or bs i 0) → Begins (chars bs) i (get_or bs i 0) (begun_in (take i bs))
begins bs i h lt some =
    let e = encodes-chars bs h in
    subst (λ w. Begins (chars bs) i (get_or w i 0) (begun_in (take i w))) e
    (begins_at (chars bs) i (chars-AreScalars bs h) (omega (arith, ap length e)) (omega (arith, ap (λ w. begun_at (get_or w i 0)) e)))

-- one more block at the front
pub front_more : (bs : List ℕ) (most n u size r : ℕ) → IsFrontOf bs most n u → size ≤ length (drop n bs) → r ≡ begun_in (take size (drop n bs)) → r ≤ most - u → IsFrontOf bs most (n + size) (u + r)
front_more bs most n u size r f fits counted few =
    record {
      within = omega (arith, f.within, length-drop n bs);
      counted = omega (arith, f.counted, counted, ap begun_in (take-add n size bs), sum_by-append begun_at (take n bs) (take size (drop n bs)));
      few = omega (arith, f.few);
    }

-- a front and what comes after it
pub front_all : (bs : List ℕ) (most n u r : ℕ) → IsUtf8 bs → IsFrontOf bs most n u → r ≡ begun_in (drop n bs) → u + r ≡ unit_count (chars bs)
front_all bs most n u r h f e = omega (arith, f.counted, sum_by-take-drop begun_at bs n, begun-bytes bs h)

-- the place of a unit, or why there is none, at the byte behind which more units begin than before the place
pub place_found : (bs : List ℕ) (at i b unit : ℕ) → IsUtf8 bs → i < length bs → b ≡ get_or bs i 0 → unit ≡ begun_in (take i bs) → unit ≤ at → at < unit + begun_at b → unit ≡ at → IsPlaceOf (chars bs) at i
place_found bs at i b unit h lt is counted low high same =
    let here = begins bs i h lt (omega (arith, ap begun_at is)) in
    place_between (chars bs) here.front (here.c ∷ here.back) at i here.parts (here.before ∙ (sym counted ∙ same)) here.place

pub place_split : (bs : List ℕ) (at i b unit : ℕ) → IsUtf8 bs → i < length bs → b ≡ get_or bs i 0 → unit ≡ begun_in (take i bs) → unit ≤ at → at < unit + begun_at b → ((unit ≡ at) → ⊥) → IsCauseOf (chars bs) at (SplitsPair at)
place_split bs at i b unit h lt is counted low high other =
    let here = begins bs i h lt (omega (arith, ap begun_at is)) in
    let wide = here.width in
    let whole = count_fits bs here.front here.c here.back here.parts in (
      refl,
      omega (arith, here.before, ap begun_at is),
      not_whole (chars bs) here.front here.c here.back at here.parts (omega (arith, here.before)) (omega (arith, here.before, ap begun_at is)),
    )

pub place_end : (bs : List ℕ) (at unit : ℕ) → IsUtf8 bs → unit ≡ begun_in (take (length bs) bs) → unit ≡ at → IsPlaceOf (chars bs) at (length bs)
place_end bs at unit h counted same =
    place_between (chars bs) (chars bs) [] at (length bs) (sym (append-nil (chars bs)))
    (sym (begun-bytes bs h) ∙ (ap begun_in (sym (take-length bs)) ∙ (sym counted ∙ same))) (ap length (encodes-chars bs h))

pub place_past : (bs : List ℕ) (at unit : ℕ) → IsUtf8 bs → unit ≡ begun_in (take (length bs) bs) → unit ≤ at → ((unit ≡ at) → ⊥) → IsCauseOf (chars bs) at (PastEnd unit)
place_past bs at unit h counted low other =
    let all : unit ≡ unit_count (chars bs) = counted ∙ (ap begun_in (take-length bs) ∙ begun-bytes bs h) in
    (all, omega (arith, all))

-- what is left behind a place, as a slice of it is written
pub whole_rest : (bs : List ℕ) (n : ℕ) → take (length bs - n) (drop n bs) ≡ drop n bs
whole_rest bs n = take_all (length bs - n) (drop n bs) (omega (arith, length-drop n bs))

-- one byte more: what begins in it, too, is of the text
pub unit_more : (bs : List ℕ) (i b unit : ℕ) → IsUtf8 bs → i < length bs → b ≡ begun_at (get_or bs i 0) → unit ≡ begun_in (take i bs) → unit + b ≤ length bs
unit_more bs i b unit h lt is counted = omega (arith, sum_by_more_le begun_at bs i 0 lt, begun-bytes bs h, unit_count-le-bytes bs h)

-- the answer at the byte behind which more units begin than before the place
pub place_answer : (bs : List ℕ) (at i b unit : ℕ) (r : Result ℕ UnitError) → IsUtf8 bs → i < length bs → b ≡ begun_at (get_or bs i 0) → unit ≡ begun_in (take i bs) → unit ≤ at → at < unit + b
    → MatchResult r (λ byte. (byte ≡ i) × (unit ≡ at)) (λ e. (e ≡ SplitsPair at) × ((unit ≡ at) → ⊥)) → MatchResult r (IsPlaceOf (chars bs) at) (IsCauseOf (chars bs) at)
place_answer bs at i b unit (Ok byte) h lt is counted low high r = rw r.0 (place_found bs at i (get_or bs i 0) unit h lt refl counted low (omega arith) r.1)
place_answer bs at i b unit (Err e) h lt is counted low high r = rw r.0 (place_split bs at i (get_or bs i 0) unit h lt refl counted low (omega arith) r.1)
