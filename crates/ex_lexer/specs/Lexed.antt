-- What a source has: tokens and no others, or a refusal and no other.
use Rattle.std.specs.Prelude.{◌≡◌, ℕ, List}
use Rattle.ex_grammar.specs.declared.token.Token.{Token as CodeToken}
use Rattle.ex_grammar.specs.declared.token.LexErrorKind.{LexErrorKind}
use Rattle.ex_grammar.specs.Tokens.{Placed}
use Rattle.ex_grammar.specs.Newlines.{Lexes}
use Rattle.ex_grammar.specs.Refusals.{IsRefused}
use Rattle.ex_grammar.specs.Coded.{ArePlaced}
use Rattle.ex_lexer.specs.declared.lexer.Lexed.{Lexed}
use Rattle.ex_lexer.specs.declared.lexer.Lexed.TheVariants.{Tokens, Refused}
use Rattle.ex_lexer.specs.declared.LexError.{LexError}
use Rattle.ex_lexer.specs.declared.LexError.TheVariants.{Bad, OutOfMemory}

-- the source has these tokens, and no others
pub record HasTokens (source : List ℕ) (xs : List CodeToken) : Type 0 where
  pub tokens : List Placed
  pub shown : ArePlaced xs tokens
  pub lexes : Lexes source tokens
  pub only : (ts : List Placed) → Lexes source ts → ts ≡ tokens

-- the source is refused at this place, and has no tokens
pub record IsBad (source : List ℕ) (at : ℕ) (k : LexErrorKind) : Type 0 where
  pub refused : IsRefused source at k
  pub none : (ts : List Placed) → Lexes source ts → ⊥
  pub only : (at' : ℕ) (k' : LexErrorKind) → IsRefused source at' k' → (at' ≡ at) × (k' ≡ k)

-- why there are no tokens; want of memory has no cause
abbrev pub IsCauseOf : List ℕ → LexError → Type 0
IsCauseOf source (Bad at k) = IsBad source at k
IsCauseOf source OutOfMemory = Unit {0}

-- what the lexer found is what the source has
abbrev pub LexedIs : List ℕ → Lexed → Type 0
LexedIs source (Tokens v) = HasTokens source v.items
LexedIs source (Refused at k) = IsBad source at k
