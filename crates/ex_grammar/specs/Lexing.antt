-- How the bytes of a source are cut into tokens, newlines and blanks.
use Rattle.std.specs.Prelude.{◌≡◌, ℕ, zero, suc, ◌+◌, ◌<◌, ◌^◌, ◌==◌, ◌&&◌, ◌||◌, not, Bool, true, false, List, [], ◌∷◌, ◌++◌, length, Option, Some, None, if◌then◌else◌}
use Rattle.std.specs.List.{list_all}
use Rattle.std.specs.Str.Parse.{digits_value}
use Rattle.ex_grammar.specs.declared.token.Sign.{Sign}
use Rattle.ex_grammar.specs.declared.token.Sign.TheVariants.{OpenBrace, CloseBrace}
use Rattle.ex_grammar.specs.declared.token.Keyword.{Keyword}
use Rattle.ex_grammar.specs.Tokens.{Token, Number, Name, Called, Alias, Key, Atom, Word, Mark, TextBegins, HoleBegins, HoleEnds, TextEnds, signs, keyword_of}
use Rattle.ex_grammar.specs.Texts.{first_is, Says}
use Rattle.ex_grammar.specs.Names.{NotFirst, IsName, IsAlias, Digits, NumberEnds}

-- what a source consists of, as it stands: blanks and comments, newlines, `;`, and the other tokens
pub data Piece : Type 0 where
  Blank : Piece
  Comment : Piece
  Newline : Piece
  Semicolon : Piece
  Whole : Token → Piece

-- a piece where it stands: from a byte place up to the place after its last byte
pub record Part : Type 0 where
  pub piece : Piece
  pub from : ℕ
  pub to : ℕ

abbrev pub part : Piece → ℕ → ℕ → Part
part p from to = record { piece = p; from = from; to = to }

-- no newline
abbrev pub is_in_line : ℕ → Bool
is_in_line b = not (b == 10)

-- the bytes begin with these
abbrev pub begins_with : List ℕ → List ℕ → Bool
begins_with [] bytes = true
begins_with (c ∷ text) [] = false
begins_with (c ∷ text) (b ∷ bytes) = b == c && begins_with text bytes

-- the first sign of a table with which the bytes begin; the table of signs has the longest first
abbrev pub sign_in : List (List ℕ × Sign) → List ℕ → Option (List ℕ × Sign)
sign_in [] bytes = None
sign_in (row ∷ rows) bytes = if begins_with row.0 bytes then Some row else sign_in rows bytes

-- a newline: a LF, alone or with a CR before it
pub data IsNewline : List ℕ → Type 0 where
  feed : IsNewline (10 ∷ [])
  return_feed : IsNewline (13 ∷ 10 ∷ [])

-- the blank of a key: a space, a tab or a newline
pub data IsKeyBlank : List ℕ → Type 0 where
  key_space : IsKeyBlank (32 ∷ [])
  key_tab : IsKeyBlank (9 ∷ [])
  key_newline : {bytes : List ℕ} → IsNewline bytes → IsKeyBlank bytes

-- whether such a blank stands first, and whether one does after a `:`
abbrev pub blank_follows : List ℕ → Bool
blank_follows [] = false
blank_follows (b ∷ bytes) = b == 32 || (b == 9 || (b == 10 || (b == 13 && first_is (λ c. c == 10) bytes)))

abbrev pub key_follows : List ℕ → Bool
key_follows [] = false
key_follows (b ∷ bytes) = b == 58 && blank_follows bytes

-- the bytes write the piece, and are as many as they can be where these follow them
pub data Stands : List ℕ → Piece → List ℕ → Type 0 where
  -- a space, and a tab
  space : {rest : List ℕ} → Stands (32 ∷ []) Blank rest
  tab : {rest : List ℕ} → Stands (9 ∷ []) Blank rest
  -- `#` and what follows it on the line
  comment : {text rest : List ℕ} → list_all is_in_line text ≡ true → NotFirst is_in_line rest → Stands (35 ∷ text) Comment rest
  -- a newline, and `;`
  newline : {bytes rest : List ℕ} → IsNewline bytes → Stands bytes Newline rest
  semicolon : {rest : List ℕ} → Stands (59 ∷ []) Semicolon rest
  -- an integer: digits, of a value of at most 2^127 - 1, with no letter or `_` right after them
  integer : {text ds rest : List ℕ} → Digits text ds → NumberEnds rest → digits_value 10 ds < 2 ^ 127 → Stands text (Whole (Number (digits_value 10 ds))) rest
  -- a name, then `:`, then a blank that belongs to the key
  key : {x blank rest : List ℕ} → IsName x (58 ∷ (blank ++ rest)) → IsKeyBlank blank → Stands (x ++ 58 ∷ blank) (Whole (Key x)) rest
  -- any other name that is a word
  word : {x rest : List ℕ} {k : Keyword} → IsName x rest → key_follows rest ≡ false → keyword_of x ≡ Some k → Stands x (Whole (Word k)) rest
  -- any other name, with a `(` right after it or without
  called : {x rest : List ℕ} → IsName x (40 ∷ rest) → keyword_of x ≡ None → Stands x (Whole (Called x)) (40 ∷ rest)
  name : {x rest : List ℕ} → IsName x rest → key_follows rest ≡ false → keyword_of x ≡ None → NotFirst (λ b. b == 40) rest → Stands x (Whole (Name x)) rest
  -- an alias
  alias : {x rest : List ℕ} → IsAlias x rest → Stands x (Whole (Alias x)) rest
  -- `:` and a name, an alias, or a text without `#{`
  atom_name : {x rest : List ℕ} → IsName x rest → Stands (58 ∷ x) (Whole (Atom x)) rest
  atom_alias : {x rest : List ℕ} → IsAlias x rest → Stands (58 ∷ x) (Whole (Atom x)) rest
  atom_text : {text bytes rest : List ℕ} → Says text (34 ∷ rest) bytes → Stands (58 ∷ 34 ∷ (text ++ 34 ∷ [])) (Whole (Atom bytes)) rest
  -- a sign: of those that begin there, the longest
  sign : {text rest : List ℕ} {s : Sign} → sign_in signs (text ++ rest) ≡ Some (text, s) → Stands text (Whole (Mark s)) rest

-- how many braces are open after a piece, where so many were open before it: none where a `}` closes none of them
abbrev pub braces_by : Piece → Option ℕ → Option ℕ
braces_by p None = None
braces_by (Whole (Mark OpenBrace)) (Some n) = Some (suc n)
braces_by (Whole (Mark CloseBrace)) (Some zero) = None
braces_by (Whole (Mark CloseBrace)) (Some (suc n)) = Some n
braces_by p (Some n) = Some n

-- and after all pieces
abbrev pub braces : Option ℕ → List Part → Option ℕ
braces n [] = n
braces n (p ∷ ps) = braces (braces_by p.piece n) ps

mutual
  -- from a place on the source is these parts one after another, up to a place from which on the rest follows
  pub data Cut : ℕ → List ℕ → List Part → ℕ → List ℕ → Type 0 where
    nothing : {at : ℕ} {rest : List ℕ} → Cut at rest [] at rest
    -- one piece, and more
    piece : {at end : ℕ} {text after rest : List ℕ} {p : Piece} {ps : List Part} → Stands text p after → Cut (at + length text) after ps end rest
        → Cut at (text ++ after) (part p at (at + length text) ∷ ps) end rest
    -- a text from its `"` on, and more
    text : {at at' end : ℕ} {text bytes after after' rest : List ℕ} {ps qs : List Part} → Says text after bytes → TextGoes (at + (1 + length text)) after ps at' after' → Cut at' after' qs end rest
        → Cut at (34 ∷ (text ++ after)) (part (Whole (TextBegins bytes)) at (at + (1 + length text)) ∷ (ps ++ qs)) end rest

  -- the same within a text, where its end or a `#{` stands first, up to the place after its end
  pub data TextGoes : ℕ → List ℕ → List Part → ℕ → List ℕ → Type 0 where
    ends : {at : ℕ} {rest : List ℕ} → TextGoes at (34 ∷ rest) (part (Whole TextEnds) at (at + 1) ∷ []) (at + 1) rest
    -- `#{`, parts among which each brace is closed again, and a `}` that closes none of theirs
    hole : {at at' end : ℕ} {inner text bytes after rest : List ℕ} {ps qs : List Part} → Cut (at + 2) inner ps at' (125 ∷ (text ++ after)) → braces (Some 0) ps ≡ Some 0
        → Says text after bytes → TextGoes (at' + (1 + length text)) after qs end rest
        → TextGoes at (35 ∷ 123 ∷ inner) (part (Whole HoleBegins) at (at + 2) ∷ (ps ++ part (Whole (HoleEnds bytes)) at' (at' + (1 + length text)) ∷ qs)) end rest
