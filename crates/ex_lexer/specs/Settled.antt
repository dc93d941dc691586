-- Tokens with settled newlines, as the code makes them.
use Rattle.std.specs.Prelude.{◌≡◌, ℕ, Bool, if◌then◌else◌, List, ◌++◌, Option, Some, None}
use Rattle.ex_grammar.specs.Tokens.{Token, Placed}
use Rattle.ex_grammar.specs.declared.token.Token.{Token as CodeToken}
use Rattle.ex_grammar.specs.Lexing.{Part}
use Rattle.ex_grammar.specs.Newlines.{Gap, Nothing, Newlines, Semicolons, drops_after, tokens_after}
use Rattle.ex_grammar.specs.Coded.{ArePlaced}
use Rattle.ex_lexer.specs.declared.settled.Gap.{Gap as CodeGap}
use Rattle.ex_lexer.specs.declared.settled.Gap.TheVariants as G

abbrev pub gap_of : CodeGap → Gap
gap_of G.Nothing = Nothing
gap_of (G.Newlines from to) = Newlines from to
gap_of (G.Semicolons from to) = Semicolons from to

-- the place of the separator that a gap gives, where newlines in it are dropped or aren't
abbrev pub separator_at : Gap → Bool → Option (ℕ × ℕ)
separator_at Nothing drops = None
separator_at (Newlines from to) drops = if drops then None else Some (from, to)
separator_at (Semicolons from to) drops = Some (from, to)

-- the code's tokens are those made so far, and the next newline is dropped as after the token before
pub record IsSettled (tokens : List CodeToken) (drops : Bool) (made : List Placed) (before : Option Token) : Type 0 where
  pub shown : ArePlaced tokens made
  pub same : drops ≡ drops_after before

-- the tokens with parts more: whatever follows, all tokens stay the same
pub record Adds (made : List Placed) (before : Option Token) (gap : Gap) (ps : List Part) (tokens : List CodeToken) (drops : Bool) (after : Gap) : Type 0 where
  pub made' : List Placed
  pub before' : Option Token
  pub settled : IsSettled tokens drops made' before'
  pub goes : (qs : List Part) → made ++ tokens_after before gap (ps ++ qs) ≡ made' ++ tokens_after before' after qs
