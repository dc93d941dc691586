-- Where a source has no tokens: the first place at which no token stands, and why.
use Rattle.std.specs.Prelude.{◌≡◌, ℕ, ◌+◌, ◌≤◌, ◌^◌, ◌==◌, ◌&&◌, Bool, true, false, List, [], ◌∷◌, ◌++◌, length, chars, Some}
use Rattle.std.specs.Str.Parse.{digits_value}
use Rattle.ex_grammar.specs.declared.token.LexErrorKind.{LexErrorKind}
use Rattle.ex_grammar.specs.declared.token.LexErrorKind.TheVariants.{BadChar, BadNumber, TooWide, BadEscape, OpenText}
use Rattle.ex_grammar.specs.Texts.{first_is, IsEscape, Says}
use Rattle.ex_grammar.specs.Names.{is_digit, is_letter, Digits, NumberEnds, digit_second}
use Rattle.ex_grammar.specs.Lexing.{Piece, Part, Stands, Cut, braces}

-- no piece stands at the front
abbrev pub NoPiece : List ℕ → Type 0
NoPiece source = (text rest : List ℕ) (p : Piece) → source ≡ text ++ rest → Stands text p rest → ⊥

-- no escape stands at the front
abbrev pub NoEscape : List ℕ → Type 0
NoEscape source = (letters rest says : List ℕ) → source ≡ letters ++ rest → IsEscape letters says → ⊥

-- a text begins: `"`, or `:"`, whose text is an atom's
abbrev pub begins_text : List ℕ → Bool
begins_text [] = false
begins_text (b ∷ bytes) = b == 34

abbrev pub begins_quoted_atom : List ℕ → Bool
begins_quoted_atom [] = false
begins_quoted_atom (b ∷ bytes) = b == 58 && begins_text bytes

-- a text that began at a place breaks off at its characters: it has no end, or a `\` begins no escape; the refusal has the text's place
pub data BreaksOff : List ℕ → LexErrorKind → Type 0 where
  open_text : BreaksOff [] OpenText
  bad_escape : {rest : List ℕ} → NoEscape rest → BreaksOff (92 ∷ rest) BadEscape

mutual
  -- what stands at a place is refused, at this place and for this reason
  pub data Refused : ℕ → List ℕ → ℕ → LexErrorKind → Type 0 where
    -- digits, and right after them a letter or `_`
    bad_number : {at : ℕ} {text ds : List ℕ} (rest : List ℕ) → Digits text ds → first_is is_letter (chars rest) ≡ true → digit_second rest ≡ false → Refused at (text ++ rest) at BadNumber
    -- an integer of a value above 2^127 - 1
    too_wide : {at : ℕ} {text ds : List ℕ} (rest : List ℕ) → Digits text ds → NumberEnds rest → 2 ^ 127 ≤ digits_value 10 ds → Refused at (text ++ rest) at TooWide
    -- any other character that begins no token
    bad_char : {at b : ℕ} {rest : List ℕ} → NoPiece (b ∷ rest) → is_digit b ≡ false → begins_text (b ∷ rest) ≡ false → begins_quoted_atom (b ∷ rest) ≡ false → Refused at (b ∷ rest) at BadChar
    -- an atom whose text has a `#{`: the `:` begins no token
    atom_hole : {at : ℕ} {text bytes rest : List ℕ} → Says text (35 ∷ 123 ∷ rest) bytes → Refused at (58 ∷ 34 ∷ (text ++ 35 ∷ 123 ∷ rest)) at BadChar
    -- an atom's text that breaks off, at the place of its `"`
    atom_breaks : {at : ℕ} {text bytes rest : List ℕ} {k : LexErrorKind} → Says text rest bytes → BreaksOff rest k → Refused at (58 ∷ 34 ∷ (text ++ rest)) (at + 1) k
    -- a text
    in_text : {at at' : ℕ} {text bytes rest : List ℕ} {k : LexErrorKind} → Says text rest bytes → TextRefused at (at + (1 + length text)) rest at' k → Refused at (34 ∷ (text ++ rest)) at' k

  -- a text that began at a place is refused, where its characters end at another
  pub data TextRefused : ℕ → ℕ → List ℕ → ℕ → LexErrorKind → Type 0 where
    breaks : {opening at : ℕ} {rest : List ℕ} {k : LexErrorKind} → BreaksOff rest k → TextRefused opening at rest opening k
    -- within a `#{` something is refused
    in_hole : {opening at at' at'' n : ℕ} {inner rest : List ℕ} {ps : List Part} {k : LexErrorKind} → Cut (at + 2) inner ps at' rest → braces (Some 0) ps ≡ Some n → Refused at' rest at'' k → TextRefused opening at (35 ∷ 123 ∷ inner) at'' k
    -- the source ends within a `#{`
    open_hole : {opening at at' n : ℕ} {inner : List ℕ} {ps : List Part} → Cut (at + 2) inner ps at' [] → braces (Some 0) ps ≡ Some n → TextRefused opening at (35 ∷ 123 ∷ inner) opening OpenText
    -- a `#{` and its `}`, and what is refused comes later in the text
    after_hole : {opening at at' at'' : ℕ} {inner text bytes rest : List ℕ} {ps : List Part} {k : LexErrorKind} → Cut (at + 2) inner ps at' (125 ∷ (text ++ rest)) → braces (Some 0) ps ≡ Some 0
        → Says text rest bytes → TextRefused opening (at' + (1 + length text)) rest at'' k → TextRefused opening at (35 ∷ 123 ∷ inner) at'' k

-- the source is refused at this place: up to what is refused it is cut into parts
pub record IsRefused (source : List ℕ) (at : ℕ) (k : LexErrorKind) : Type 0 where
  pub parts : List Part
  pub upto : ℕ
  pub rest : List ℕ
  pub cut : Cut 0 source parts upto rest
  pub refused : Refused upto rest at k
