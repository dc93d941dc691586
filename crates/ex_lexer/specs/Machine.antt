-- Cutting a source, as a machine: a list of the texts that are open at a `#{`, a place, and the bytes from there on.
use Rattle.std.specs.Prelude.{◌≡◌, ℕ, ◌+◌, ◌==◌, ◌&&◌, if◌then◌else◌, Bool, false, List, [], ◌∷◌, ◌++◌, drop, Option, Some, None}
use Rattle.ex_grammar.specs.declared.token.LexErrorKind.{LexErrorKind}
use Rattle.ex_grammar.specs.declared.token.LexErrorKind.TheVariants.{BadEscape, OpenText}
use Rattle.ex_grammar.specs.Tokens.{Token, TextBegins, HoleBegins, HoleEnds, TextEnds}
use Rattle.ex_grammar.specs.Lexing.{Piece, Whole, Part, part, braces_by}
use Rattle.ex_lexer.specs.declared.texts.Stop.{Stop}
use Rattle.ex_lexer.specs.declared.texts.Stop.TheVariants.{Quote, Hole, End, Escape}
use Rattle.ex_lexer.specs.Runs.{Run, run}
use Rattle.ex_lexer.specs.Front.{Front, Takes, Fails, front}

-- for each text that is open at a `#{`, the innermost first: its place, and how many braces are open within the `#{`
abbrev pub Holes : Type 0
Holes = List (ℕ × ℕ)

-- one step: these parts, and then the source goes on after so many bytes with these texts open; or a refusal
pub data Step : Type 0 where
  Goes : List Part → Holes → ℕ → Step
  Refuses : ℕ → LexErrorKind → Step

-- after the characters of a text, which end at a place: its end, a `#{`, or a refusal
abbrev pub stop_by : Stop → Holes → ℕ → ℕ → ℕ → List Part → Step
stop_by Quote holes opening at len parts = Goes (parts ++ part (Whole TextEnds) at (at + 1) ∷ []) holes (len + 1)
stop_by Hole holes opening at len parts = Goes (parts ++ part (Whole HoleBegins) at (at + 2) ∷ []) ((opening, 0) ∷ holes) (len + 2)
stop_by End holes opening at len parts = Refuses opening OpenText
stop_by Escape holes opening at len parts = Refuses opening BadEscape

-- a `"`, or the `}` of a `#{`, and what the text says from there on
abbrev pub text_step : (List ℕ → Token) → Holes → ℕ → ℕ → Run → Step
text_step token holes opening at r = stop_by r.stop holes opening (at + (1 + r.len)) (1 + r.len) (part (Whole (token r.bytes)) at (at + (1 + r.len)) ∷ [])

-- the braces that are open after a piece
abbrev pub braced : ℕ → Option ℕ → ℕ
braced n None = 0
braced n (Some m) = m

abbrev pub holes_after : Piece → Holes → Holes
holes_after p [] = []
holes_after p (h ∷ hs) = (h.0, braced h.1 (braces_by p (Some h.1))) ∷ hs

abbrev pub piece_step : Front → Holes → ℕ → Step
piece_step (Takes p n) holes at = Goes (part p at (at + n) ∷ []) (holes_after p holes) n
piece_step (Fails n k) holes at = Refuses (at + n) k

-- a `}` that ends a `#{`
abbrev pub ends_hole : ℕ → Holes → Bool
ends_hole b [] = false
ends_hole b (h ∷ hs) = b == 125 && h.1 == 0

abbrev pub outer : Holes → Holes
outer [] = []
outer (h ∷ hs) = hs

abbrev pub opening_of : Holes → ℕ
opening_of [] = 0
opening_of (h ∷ hs) = h.0

abbrev pub step : Holes → ℕ → ℕ → List ℕ → Step
step holes at b bytes =
    if b == 34 then text_step TextBegins holes at at (run 0 bytes)
    else (if ends_hole b holes then text_step HoleEnds (outer holes) (opening_of holes) at (run 0 bytes)
    else piece_step (front (b ∷ bytes)) holes at)

-- what a source gives: parts, or a refusal
pub data Answer : Type 0 where
  Cuts : List Part → Answer
  Fault : ℕ → LexErrorKind → Answer

-- the same with parts before
abbrev pub before : List Part → Answer → Answer
before ps (Cuts qs) = Cuts (ps ++ qs)
before ps (Fault at k) = Fault at k

-- at the source's end no text may be open
abbrev pub at_end : Holes → Answer
at_end [] = Cuts []
at_end (h ∷ hs) = Fault h.0 OpenText

-- what the machine gives from a place on
pub data Gives : Holes → ℕ → List ℕ → Answer → Type 0 where
  over : {holes : Holes} {at : ℕ} → Gives holes at [] (at_end holes)
  refused : {holes : Holes} {at b at' : ℕ} {bytes : List ℕ} {k : LexErrorKind} → step holes at b bytes ≡ Refuses at' k → Gives holes at (b ∷ bytes) (Fault at' k)
  onward : {holes holes' : Holes} {at b n : ℕ} {bytes : List ℕ} {ps : List Part} {a : Answer} → step holes at b bytes ≡ Goes ps holes' n → Gives holes' (at + n) (drop n (b ∷ bytes)) a → Gives holes at (b ∷ bytes) (before ps a)
