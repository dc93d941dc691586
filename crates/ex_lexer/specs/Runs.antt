-- The characters of a text, and the digits and names at the front of a source, computed.
use Rattle.std.specs.Prelude.{◌≡◌, ◌<◌, ◌≤◌, ℕ, zero, suc, ◌+◌, ◌^◌, ◌==◌, ◌&&◌, if◌then◌else◌, Bool, true, false, List, [], ◌∷◌, ◌++◌, length, drop, chars, Option, Some, None}
use Rattle.std.specs.Char.{encode_utf8}
use Rattle.std.specs.Str.Parse.{digits_value}
use Rattle.std.specs.Str.{IsCharBoundary, all_scalars}
use Rattle.ex_grammar.specs.Texts.{escapes, escape_in, hex_value, are_hexdigits, first_is, is_plain}
use Rattle.ex_grammar.specs.Names.{is_digit, is_in_name, mark_follows}
use Rattle.ex_lexer.specs.declared.texts.Stop.{Stop}
use Rattle.ex_lexer.specs.declared.texts.Bit.{Bit}
use Rattle.ex_lexer.specs.declared.texts.Bit.TheVariants.{Goes, Stops}
use Rattle.ex_lexer.specs.declared.texts.Stop.TheVariants.{Quote, Hole, End, Escape}

-- how many bytes of a text were read, what they say, and why no more were
pub record Run : Type 0 where
  pub len : ℕ
  pub bytes : List ℕ
  pub stop : Stop

abbrev pub stopped : Stop → Run
stopped s = record { len = 0; bytes = []; stop = s }

-- so many bytes before it, which say this
abbrev pub longer : ℕ → List ℕ → Run → Run
longer n says r = record { len = n + r.len; bytes = says ++ r.bytes; stop = r.stop }

-- whether a number is a character
abbrev pub is_coded : ℕ → Bool
is_coded c = all_scalars (c ∷ [])

abbrev pub coded_if : Bool → ℕ → Option (ℕ × List ℕ)
coded_if true c = Some (5, encode_utf8 c)
coded_if false c = None

abbrev pub coded_escape : List ℕ → Option (ℕ × List ℕ)
coded_escape (a ∷ b ∷ c ∷ d ∷ rest) = coded_if (are_hexdigits a b c d && is_coded (hex_value a b c d)) (hex_value a b c d)
coded_escape bytes = None

abbrev pub short_escape : Option ℕ → Option (ℕ × List ℕ)
short_escape None = None
short_escape (Some c) = Some (1, c ∷ [])

-- the escape after a `\`: how many bytes it has, and what it says
abbrev pub escape_at : List ℕ → Option (ℕ × List ℕ)
escape_at [] = None
escape_at (b ∷ bytes) = if b == 117 then coded_escape bytes else short_escape (escape_in escapes b)

abbrev pub skipped_by : Option (ℕ × List ℕ) → ℕ
skipped_by None = 0
skipped_by (Some e) = e.0

abbrev pub escaped : Option (ℕ × List ℕ) → Run → Run
escaped None r = stopped Escape
escaped (Some e) r = longer 1 e.1 r

-- the characters of a text, where so many bytes belong to an escape and were looked at
unfoldable pub run : ℕ → List ℕ → Run
run n [] = stopped End
run (suc n) (b ∷ bytes) = longer 1 [] (run n bytes)
run zero (b ∷ bytes) =
    if is_plain b bytes then longer 1 (b ∷ []) (run zero bytes)
    else (if b == 34 then stopped Quote
    else (if b == 92 then escaped (escape_at bytes) (run (skipped_by (escape_at bytes)) bytes)
    else stopped Hole))

-- how many bytes at the front stand for themselves
abbrev pub plain_len : List ℕ → ℕ
plain_len [] = 0
plain_len (b ∷ bytes) = if is_plain b bytes then 1 + plain_len bytes else 0

-- the digits at the front, with `_` between any two or without: how many bytes, and the digits alone
abbrev pub another : ℕ → List ℕ → (ℕ × List ℕ) → (ℕ × List ℕ)
another n ds r = (n + r.0, ds ++ r.1)

unfoldable pub digits_at : List ℕ → (ℕ × List ℕ)
digits_at [] = (0, [])
digits_at (b ∷ bytes) =
    if is_digit b then another 1 (b ∷ []) (digits_at bytes)
    else (if b == 95 && first_is is_digit bytes then another 1 [] (digits_at bytes)
    else (0, []))

-- the digit that a byte is, if it is one
abbrev pub digit_in : ℕ → List ℕ
digit_in b = if is_digit b then b ∷ [] else []

-- the number that digits write, as far as it is below 2^128
abbrev pub Counts : Option ℕ → List ℕ → Type 0
Counts None ds = 2 ^ 128 ≤ digits_value 10 ds
Counts (Some n) ds = n ≡ digits_value 10 ds

-- how many bytes the characters at the front take that may stand in a name
abbrev pub word_len_of : List ℕ → ℕ
word_len_of [] = 0
word_len_of (c ∷ cs) = if is_in_name c then length (encode_utf8 c) + word_len_of cs else 0

abbrev pub word_len : List ℕ → ℕ
word_len bytes = word_len_of (chars bytes)

-- how many bytes the name at the front takes
abbrev pub marked_len : ℕ → List ℕ → ℕ
marked_len n rest = if mark_follows rest then n + 1 else n

abbrev pub name_len : List ℕ → ℕ
name_len bytes = marked_len (word_len bytes) (drop (word_len bytes) bytes)

-- what a text says, after so many bytes more of it
pub record Said (old new text : List ℕ) (n : ℕ) : Type 0 where
  pub says : List ℕ
  pub added : new ≡ old ++ says
  pub goes : run 0 text ≡ longer n says (run 0 (drop n text))
  pub some : 0 < n
  pub within : n ≤ length text
  pub boundary : IsCharBoundary text n

-- how the front of a text goes on
abbrev pub GoesOn : List ℕ → List ℕ → List ℕ → Bit → Type 0
GoesOn old new text (Goes n) = Said old new text n
GoesOn old new text (Stops s) = (new ≡ old) × (run 0 text ≡ stopped s)
