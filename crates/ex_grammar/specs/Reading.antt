-- What a source is read as, and the places at which it can't be.
use Rattle.std.specs.Prelude.{◌≡◌, ◌≤◌, ℕ, List, [], ◌∷◌, ◌++◌, length}
use Rattle.std.specs.List.{AllByRecursion}
use Rattle.ex_grammar.specs.Tokens.{Token, Separator, Placed}
use Rattle.ex_grammar.specs.Newlines.{Lexes, bare}
use Rattle.ex_grammar.specs.Nests.{nests}
use Rattle.ex_grammar.specs.Trees.{Trees}
use Rattle.ex_grammar.specs.Grammar.{DeriveSource}

-- at most 256 levels are open at each token
abbrev pub NestsWithin : List Token → Type 0
NestsWithin ts = AllByRecursion (λ n. n ≤ 256) (nests ts)

-- the token at a place is the first at which more than 256 levels are open
pub record NestsTooDeep (tokens : List Placed) (at : ℕ) : Type 0 where
  pub before : List Placed
  pub first : Placed
  pub after : List Placed
  pub tokens_are : tokens ≡ before ++ first ∷ after
  pub within : NestsWithin (bare before)
  pub opens : ¬ (NestsWithin (bare (before ++ first ∷ [])))
  pub is_at : at ≡ first.from

-- the source, a list of bytes, reads as these expressions: it has tokens, they nest at most 256 levels deep, and they derive the expressions
pub record Reads (source : List ℕ) (trees : Trees) : Type 0 where
  pub tokens : List Placed
  pub lexes : Lexes source tokens
  pub nests_within : NestsWithin (bare tokens)
  pub derives : DeriveSource (bare tokens) trees

-- no tree derives the tokens
abbrev pub NoTrees : List Token → Type 0
NoTrees ts = (trees : Trees) → DeriveSource ts trees → ⊥

-- the tokens before a separator derive as a body, and the first token that is no separator stands so after it. A separator within a text
-- never is such a one, since the tokens before it have a text without its end
pub record BodyEndsBefore (tokens : List Placed) (before after : List Placed) : Type 0 where
  pub separator : Placed
  pub is_separator : separator.token ≡ Separator
  pub tokens_are : tokens ≡ before ++ separator ∷ after
  pub trees : Trees
  pub derives : DeriveSource (bare before) trees

-- the place is that of the first token that is no separator
abbrev pub IsFirstAt : List Placed → ℕ → Type 0
IsFirstAt [] at = ⊥
IsFirstAt (t ∷ ts) at = (t.token ≡ Separator → ⊥) × (at ≡ t.from)

-- where a source can't be read: after the last separator before which the tokens derive as a body, or, where there is none, at its begin
pub data IsSyntaxAt : List Placed → ℕ → Type 0 where
  at_begin : {tokens : List Placed} {at : ℕ} → ((before after : List Placed) → BodyEndsBefore tokens before after → ⊥) → IsFirstAt tokens at → IsSyntaxAt tokens at
  after_separator : {tokens before after : List Placed} {at : ℕ} → BodyEndsBefore tokens before after
      → ((longer rest : List Placed) → BodyEndsBefore tokens longer rest → length longer ≤ length before) → IsFirstAt after at → IsSyntaxAt tokens at
