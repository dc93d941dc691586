-- Tokens with settled newlines, as the code makes them.
use Rattle.std.specs.Prelude.{◌≡◌, ℕ, not, Bool, true, false, List, ◌∷◌, ◌++◌, Option}
use Rattle.ex_model.specs.declared.ast.Operator.TheVariants.{Multiply}
use Rattle.ex_model.specs.Tokens.{Token}
use Rattle.ex_model.specs.Lexing.{Piece}
use Rattle.ex_model.specs.Newlines.{Gap, Nothing, Newlines, Semicolons, drops_after, tokens_after, Lexes}
use Rattle.ex_source.specs.declared.lexeme.Lexeme.{Lexeme}
use Rattle.ex_source.specs.declared.lexeme.Lexeme.TheVariants as X
use Rattle.ex_source.specs.declared.lexeme.Mark.TheVariants as M
use Rattle.ex_source.specs.declared.tokens.Gap.{Gap as CodeGap}
use Rattle.ex_source.specs.declared.tokens.Gap.TheVariants as G
use Rattle.ex_source.specs.Lexemes.{AreLexemes}

abbrev pub gap_of : CodeGap → Gap
gap_of G.Nothing = Nothing
gap_of G.Newlines = Newlines
gap_of G.Semicolons = Semicolons

-- whether a gap gives a separator, where newlines in it are dropped or aren't
abbrev pub separates : Bool → Gap → Bool
separates drops Nothing = false
separates drops Newlines = not drops
separates drops Semicolons = true

abbrev pub lexeme_drops_after : Lexeme → Bool
lexeme_drops_after (X.Mark (M.Sign o)) = true
lexeme_drops_after (X.Mark M.Equals) = true
lexeme_drops_after (X.Mark M.Opening) = true
lexeme_drops_after x = false

abbrev pub lexeme_drops_before : Lexeme → Bool
lexeme_drops_before (X.Mark M.Closing) = true
lexeme_drops_before (X.Mark M.Equals) = true
lexeme_drops_before (X.Mark (M.Sign Multiply)) = true
lexeme_drops_before x = false

-- the tokens with a piece more: whatever follows, all tokens stay the same
pub record Adds (made : List Token) (before : Option Token) (gap : Gap) (p : Piece) (xs : List Lexeme) (drops : Bool) (after : Gap) : Type 0 where
  pub made' : List Token
  pub before' : Option Token
  pub shown : AreLexemes xs made'
  pub same : drops ≡ drops_after before'
  pub goes : (ps : List Piece) → made ++ tokens_after before gap (p ∷ ps) ≡ made' ++ tokens_after before' after ps

-- the source has these tokens, and no others
pub record HasTokens (source : List ℕ) (xs : List Lexeme) : Type 0 where
  pub tokens : List Token
  pub shown : AreLexemes xs tokens
  pub lexes : Lexes source tokens
  pub only : (ts : List Token) → Lexes source ts → ts ≡ tokens

abbrev pub HasNoTokens : List ℕ → Type 0
HasNoTokens source = (ts : List Token) → Lexes source ts → ⊥
