-- From characters to units and back.
use Rattle.std.proofs.Common.{◌≡◌, ℕ, ◌+◌, ◌-◌, ◌/◌, ◌%◌, ◌<◌, ◌≤◌, List, [], ◌∷◌, ◌++◌, length, Bool, true, false, cond, ◌&&◌, refl, ap, ◌∙◌, arith, append_assoc, add-one, get_or, drop, inl, inr}
use Rattle.std.proofs.lemmas.Bool.{cases_lt}
use Rattle.std.proofs.lemmas.Bool.Decides.{nat_tests}
use Rattle.std.proofs.lemmas.List.{append-nil}
use Rattle.std.proofs.Math.Seq.{drop-cons}
use Rattle.std.specs.Prelude.{nat_lt}
use Rattle.std.specs.Char.Escape.{encode_utf16}
use Rattle.utf16_text.proofs.Scalars.{AreScalars-head, AreScalars-tail, AreScalars-cons, AreScalars-append}
use Rattle.utf16_text.specs.Units.{units, units_of_character, decoded, begun_by, paired_with_next, character_of_pair, is_high_half, is_low_half, is_scalar, AreScalars}

-- the halves of a character beyond U+FFFF make it
pair_makes : (c : ℕ) → 0x1_0000 ≤ c → c < 0x11_0000 → character_of_pair (0xD800 + (c - 0x1_0000) / 0x400) (0xDC00 + (c - 0x1_0000) % 0x400) ≡ c
pair_makes c lo hi = omega arith

high_half : (c : ℕ) → 0x1_0000 ≤ c → c < 0x11_0000 → is_high_half (0xD800 + (c - 0x1_0000) / 0x400) ≡ true
high_half c lo hi = grind (arith, nat_tests)

low_half : (c : ℕ) → is_low_half (0xDC00 + (c - 0x1_0000) % 0x400) ≡ true
low_half c = grind (arith, nat_tests)

-- a low half begins nothing, and a unit that is no half is its character
low_begins_none : (u : ℕ) (after : List ℕ) → is_low_half u ≡ true → begun_by u after ≡ []
low_begins_none u after h = grind (arith, nat_tests)

one_begins : (c : ℕ) (after : List ℕ) → is_scalar c ≡ true → c < 0x1_0000 → begun_by c after ≡ c ∷ []
one_begins c after good h = grind (arith, nat_tests)

pair_begins : (high low : ℕ) (after : List ℕ) → is_high_half high ≡ true → is_low_half low ≡ true → begun_by high (low ∷ after) ≡ character_of_pair high low ∷ []
pair_begins high low after h l = rw (h, l) refl

scalar_below : (c : ℕ) → is_scalar c ≡ true → c < 0x11_0000
scalar_below c good = grind (arith, nat_tests)

one_unit : (c : ℕ) → c < 0x1_0000 → encode_utf16 c ≡ c ∷ []
one_unit c h = grind (arith, nat_tests)

two_units : (c : ℕ) → 0x1_0000 ≤ c → encode_utf16 c ≡ (0xD800 + (c - 0x1_0000) / 0x400) ∷ (0xDC00 + (c - 0x1_0000) % 0x400) ∷ []
two_units c h = grind (arith, nat_tests)

-- the units of a character stand for it, whatever follows
pub decoded-character : (c : ℕ) (us : List ℕ) → is_scalar c ≡ true → decoded (units_of_character c ++ us) ≡ c ∷ decoded us
decoded-character c us good = rw good (elim (cases_lt c 0x1_0000) [
  | inl h ↦ rw (one_unit c h, one_begins c us good h) refl
  | inr h ↦
      let below = scalar_below c good in
      let high = 0xD800 + (c - 0x1_0000) / 0x400 in
      let low = 0xDC00 + (c - 0x1_0000) % 0x400 in
      rw (two_units c h, pair_begins high low us (high_half c h below) (low_half c), low_begins_none low us (low_half c), pair_makes c h below) refl
])

-- the numbers of a list that are characters
abbrev pub only_scalars : List ℕ → List ℕ
only_scalars [] = []
only_scalars (c ∷ cs) = cond (is_scalar c) (c ∷ only_scalars cs) (only_scalars cs)

pub only_scalars-AreScalars : (cs : List ℕ) → AreScalars cs → only_scalars cs ≡ cs
only_scalars-AreScalars [] h = refl
only_scalars-AreScalars (c ∷ cs) h = rw (AreScalars-head c cs h) (ap (λ w. c ∷ w) (only_scalars-AreScalars cs (AreScalars-tail c cs h)))

pub AreScalars-only_scalars : (cs : List ℕ) → AreScalars (only_scalars cs)
AreScalars-only_scalars [] = refl
AreScalars-only_scalars (c ∷ cs) = at (is_scalar c) refl (AreScalars-only_scalars cs)
  where
    at : (b : Bool) → is_scalar c ≡ b → AreScalars (only_scalars cs) → AreScalars (cond b (c ∷ only_scalars cs) (only_scalars cs))
    at true e h = AreScalars-cons c (only_scalars cs) e h
    at false e h = h

pub units-only_scalars : (cs : List ℕ) → units (only_scalars cs) ≡ units cs
units-only_scalars [] = refl
units-only_scalars (c ∷ cs) = at (is_scalar c) refl (units-only_scalars cs)
  where
    at : (b : Bool) → is_scalar c ≡ b → units (only_scalars cs) ≡ units cs → units (cond b (c ∷ only_scalars cs) (only_scalars cs)) ≡ units_of_character c ++ units cs
    at true e h = ap (λ w. units_of_character c ++ w) h
    at false e h = rw e h

-- the units of characters stand for them, whatever follows
pub decoded-units-append : (cs us : List ℕ) → decoded (units cs ++ us) ≡ only_scalars cs ++ decoded us
decoded-units-append [] us = refl
decoded-units-append (c ∷ cs) us = rw append_assoc (at (is_scalar c) refl (decoded-units-append cs us))
  where
    at : (b : Bool) → is_scalar c ≡ b → decoded (units cs ++ us) ≡ only_scalars cs ++ decoded us
        → decoded (units_of_character c ++ (units cs ++ us)) ≡ cond b (c ∷ only_scalars cs) (only_scalars cs) ++ decoded us
    at true e h = decoded-character c (units cs ++ us) e ∙ ap (λ w. c ∷ w) h
    at false e h = rw e h

pub decoded-units : (cs : List ℕ) → decoded (units cs) ≡ only_scalars cs
decoded-units cs = simp append-nil at (decoded-units-append cs [])

-- a text's units stand for the text
pub decoded-units-AreScalars : (cs : List ℕ) → AreScalars cs → decoded (units cs) ≡ cs
decoded-units-AreScalars cs h = decoded-units cs ∙ only_scalars-AreScalars cs h

-- nothing is lost where the units are those of characters
pub units-decoded-units : (cs : List ℕ) → units (decoded (units cs)) ≡ units cs
units-decoded-units cs = ap units (decoded-units cs) ∙ units-only_scalars cs

-- what a list of units stands for is characters
pair_is_scalar : (high low : ℕ) → is_high_half high ≡ true → is_low_half low ≡ true → is_scalar (character_of_pair high low) ≡ true
pair_is_scalar high low h l = grind (arith, nat_tests)

paired_are_scalars : (high : ℕ) (after : List ℕ) → is_high_half high ≡ true → AreScalars (paired_with_next high after)
paired_are_scalars high [] h = refl
paired_are_scalars high (low ∷ after) h = at (is_low_half low) refl
  where
    at : (b : Bool) → is_low_half low ≡ b → AreScalars (cond b (character_of_pair high low ∷ []) [])
    at true e = AreScalars-cons (character_of_pair high low) [] (pair_is_scalar high low h e) refl
    at false e = refl

begun_are_scalars : (u : ℕ) (after : List ℕ) → AreScalars (begun_by u after)
begun_are_scalars u after = at (is_high_half u) (is_scalar u) (nat_lt u 0x1_0000) refl refl
  where
    at : (a b d : Bool) → is_high_half u ≡ a → is_scalar u ≡ b → AreScalars (cond a (paired_with_next u after) (cond (b && d) (u ∷ []) []))
    at true b d e f = paired_are_scalars u after e
    at false true true e f = AreScalars-cons u [] f refl
    at false true false e f = refl
    at false false d e f = refl

pub decoded-AreScalars : (us : List ℕ) → AreScalars (decoded us)
decoded-AreScalars [] = refl
decoded-AreScalars (u ∷ us) = AreScalars-append (begun_by u us) (decoded us) (begun_are_scalars u us) (decoded-AreScalars us)

-- a `for` over units: what has been made of the first ones, with what the others stand for, is the whole
pub decoded_turn : (us : List ℕ) (i u : ℕ) (made : List ℕ) → i < length us → u ≡ get_or us i 0 → made ++ decoded (drop i us) ≡ decoded us
    → (made ++ begun_by u (drop (i + 1) us)) ++ decoded (drop (i + 1) us) ≡ decoded us
decoded_turn us i u made lt e h =
    let parts : drop i us ≡ u ∷ drop (i + 1) us = rw (add-one, e) (drop-cons us i 0 lt) in
    append_assoc made (begun_by u (drop (i + 1) us)) (decoded (drop (i + 1) us)) ∙ (rw parts at h)
