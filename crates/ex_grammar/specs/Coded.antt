-- What the tokens of the code stand for.
use Rattle.std.specs.Prelude.{◌≡◌, ◌<◌, ◌^◌, ℕ, pos, List, [], ◌∷◌}
use Rattle.ex_grammar.specs.declared.token.Sign.{Sign}
use Rattle.ex_grammar.specs.declared.token.Keyword.{Keyword}
use Rattle.ex_grammar.specs.declared.token.TokenKind.{TokenKind}
use Rattle.ex_grammar.specs.declared.token.TokenKind.TheVariants as C
use Rattle.ex_grammar.specs.declared.token.Token.{Token as CodeToken}
use Rattle.ex_grammar.specs.Tokens.{Token, Number, Name, Called, Alias, Key, Atom, Word, Mark, TextBegins, HoleBegins, HoleEnds, TextEnds, Separator, Placed}

-- the code's token is this one
pub data IsToken : TokenKind → Token → Type 0 where
  is_integer : {n : ℕ} → n < 2 ^ 127 → IsToken (C.Integer (pos n)) (Number n)
  is_name : {x : List ℕ} → IsToken (C.Name x) (Name x)
  is_called : {x : List ℕ} → IsToken (C.Called x) (Called x)
  is_alias : {x : List ℕ} → IsToken (C.Alias x) (Alias x)
  is_key : {x : List ℕ} → IsToken (C.Key x) (Key x)
  is_atom : {x : List ℕ} → IsToken (C.Atom x) (Atom x)
  is_word : {k : Keyword} → IsToken (C.Word k) (Word k)
  is_sign : {s : Sign} → IsToken (C.Sign s) (Mark s)
  is_text_begins : {bytes : List ℕ} → IsToken (C.TextBegins bytes) (TextBegins bytes)
  is_hole_begins : IsToken C.HoleBegins HoleBegins
  is_hole_ends : {bytes : List ℕ} → IsToken (C.HoleEnds bytes) (HoleEnds bytes)
  is_text_ends : IsToken C.TextEnds TextEnds
  is_separator : IsToken C.Separator Separator

-- and stands there
abbrev pub IsPlaced : CodeToken → Placed → Type 0
IsPlaced x t = IsToken x.kind t.token × (x.from ≡ t.from) × (x.to ≡ t.to)

-- the code's tokens are these, one for one
abbrev pub ArePlaced : List CodeToken → List Placed → Type 0
ArePlaced [] [] = Unit {0}
ArePlaced [] (t ∷ ts) = ⊥
ArePlaced (x ∷ xs) [] = ⊥
ArePlaced (x ∷ xs) (t ∷ ts) = IsPlaced x t × ArePlaced xs ts
