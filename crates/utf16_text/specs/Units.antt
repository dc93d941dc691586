-- A text as its list of UTF-16 units, and where it may be cut.
use Rattle.std.specs.Prelude.{◌≡◌, ◌≢◌, ℕ, ◌+◌, ◌-◌, ◌*◌, ◌<◌, ◌≤◌, ◌==◌, nat_lt, nat_le, ◌&&◌, ◌||◌, if◌then◌else◌, IsTrue, Bool, true, false, List, [], ◌∷◌, ◌++◌, length}
use Rattle.std.specs.Char.Escape.{encode_utf16}
use Rattle.std.specs.List.{flat_map}
use Rattle.std.specs.Str.{encode_utf8_all}
use Rattle.utf16_text.specs.declared.UnitError.{UnitError}
use Rattle.utf16_text.specs.declared.UnitError.TheVariants.{PastEnd, SplitsPair}

-- a number that is a character: a Unicode scalar value, at most 10FFFF and no surrogate
abbrev pub is_scalar : ℕ → Bool
is_scalar c = nat_lt c 0xD800 || (nat_le 0xE000 c && nat_lt c 0x11_0000)

abbrev pub are_scalars : List ℕ → Bool
are_scalars [] = true
are_scalars (c ∷ cs) = is_scalar c && are_scalars cs

-- each of the numbers is a character
abbrev pub AreScalars : List ℕ → Type 0
AreScalars cs = IsTrue (are_scalars cs)

-- the units of one character: one up to U+FFFF, and two for any other, high before low; a number that is no character has none
abbrev pub units_of_character : ℕ → List ℕ
units_of_character c = if is_scalar c then encode_utf16 c else []

-- the units of the characters, one after the other
abbrev pub units : List ℕ → List ℕ
units cs = flat_map units_of_character cs

-- how many units the characters have
abbrev pub unit_count : List ℕ → ℕ
unit_count cs = length (units cs)

-- the first unit of a pair, and the second
abbrev pub is_high_half : ℕ → Bool
is_high_half u = nat_le 0xD800 u && nat_lt u 0xDC00

abbrev pub is_low_half : ℕ → Bool
is_low_half u = nat_le 0xDC00 u && nat_lt u 0xE000

-- the character of a pair
abbrev pub character_of_pair : ℕ → ℕ → ℕ
character_of_pair high low = 0x1_0000 + ((high - 0xD800) * 0x400 + (low - 0xDC00))

-- a high half stands for a character with the low half that directly follows it, and for nothing without one
abbrev pub paired_with_next : ℕ → List ℕ → List ℕ
paired_with_next high [] = []
paired_with_next high (low ∷ after) = if is_low_half low then character_of_pair high low ∷ [] else []

-- the character that begins with a unit, where these follow it; a low half begins none
abbrev pub begun_by : ℕ → List ℕ → List ℕ
begun_by u after = if is_high_half u then paired_with_next u after else (if is_scalar u && nat_lt u 0x1_0000 then u ∷ [] else [])

-- the characters that a list of units stands for
abbrev pub decoded : List ℕ → List ℕ
decoded [] = []
decoded (u ∷ after) = begun_by u after ++ decoded after

-- the characters are cut at a place of units into these two texts
pub record CutsInto (cs : List ℕ) (at : ℕ) (front back : List ℕ) : Type 0 where
  pub parts : cs ≡ front ++ back
  pub before : unit_count front ≡ at

-- whether the place does not stand between the two units of one character
abbrev pub is_whole : List ℕ → ℕ → Bool
is_whole [] at = at == 0
is_whole (c ∷ cs) at = if at == 0 then true else (if nat_lt at (length (units_of_character c)) then false else is_whole cs (at - length (units_of_character c)))

-- the place of units, as the number of bytes before it
pub record IsPlaceOf (cs : List ℕ) (at byte : ℕ) : Type 0 where
  pub front : List ℕ
  pub back : List ℕ
  pub cut : CutsInto cs at front back
  pub bytes : length (encode_utf8_all front) ≡ byte

-- the place is that of the unit with which a character begins, and the byte is the character's first
abbrev pub BeginsAt : ℕ → ℕ → ℕ → ℕ → Type 0
BeginsAt byte unit at b = (b ≡ byte) × (unit ≡ at)

-- the place is not that of the unit with which the character begins, so it splits the character
abbrev pub IsInside : ℕ → ℕ → UnitError → Type 0
IsInside unit at e = (e ≡ SplitsPair at) × (unit ≢ at)

-- why the characters are not cut at the place: it is past their units, or else within a pair
abbrev pub IsCauseOf : List ℕ → ℕ → UnitError → Type 0
IsCauseOf cs at (PastEnd len) = (len ≡ unit_count cs) × (unit_count cs < at)
IsCauseOf cs at (SplitsPair p) = (p ≡ at) × (at ≤ unit_count cs) × (is_whole cs at ≡ false)
