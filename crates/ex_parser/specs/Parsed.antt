-- What a source is read as, or why it can't be.
use Rattle.std.specs.Prelude.{◌≡◌, ℕ, List}
use Rattle.ex_grammar.specs.Tokens.{Token, Placed}
use Rattle.ex_grammar.specs.Newlines.{Lexes, bare}
use Rattle.ex_grammar.specs.Trees.{Trees}
use Rattle.ex_grammar.specs.Reading.{Reads, NestsWithin, NestsTooDeep, NoTrees, IsSyntaxAt}
use Rattle.ex_grammar.specs.Grammar.{DeriveSource}
use Rattle.ex_lexer.specs.Lexed.{IsBad}
use Rattle.ex_parser.specs.declared.tree.Ast.{Ast}
use Rattle.ex_parser.specs.declared.ParseError.{ParseError}
use Rattle.ex_parser.specs.declared.ParseError.TheVariants.{Lex, DepthLimit, Syntax, OutOfMemory}
use Rattle.ex_parser.specs.declared.parser.Parsed.{Parsed}
use Rattle.ex_parser.specs.declared.parser.Parsed.TheVariants.{Trees as Found, Syntax as Unread}
use Rattle.ex_parser.specs.Stands.{AreAt}

-- the tokens derive these expressions, and no others
pub record HasTrees (all : List Token) (trees : Trees) : Type 0 where
  pub derives : DeriveSource all trees
  pub only : (us : Trees) → DeriveSource all us → us ≡ trees

-- the source reads as the expressions that stand in the tree, and as no others
pub record IsReading (source : List ℕ) (tree : Ast) : Type 0 where
  pub trees : Trees
  pub stand : AreAt tree.nodes.items tree.roots.items trees
  pub reads : Reads source trees
  pub only : (others : Trees) → Reads source others → others ≡ trees

-- the source reads as no expressions: it has tokens, and the one at this place is the first that opens a 257th level
pub record IsTooDeep (source : List ℕ) (at : ℕ) : Type 0 where
  pub tokens : List Placed
  pub lexes : Lexes source tokens
  pub opens : NestsTooDeep tokens at
  pub unread : (trees : Trees) → Reads source trees → ⊥

-- the source reads as no expressions: it has tokens that nest within the levels, and they derive nothing; the expression that begins at this place is the first that can't be read
pub record IsUnread (source : List ℕ) (at : ℕ) : Type 0 where
  pub tokens : List Placed
  pub lexes : Lexes source tokens
  pub within : NestsWithin (bare tokens)
  pub none : NoTrees (bare tokens)
  pub place : IsSyntaxAt tokens at
  pub unread : (trees : Trees) → Reads source trees → ⊥

-- why a source can't be read; want of memory has no cause
abbrev pub IsCauseOf : List ℕ → ParseError → Type 0
IsCauseOf source (Lex at k) = IsBad source at k
IsCauseOf source (DepthLimit at) = IsTooDeep source at
IsCauseOf source (Syntax at) = IsUnread source at
IsCauseOf source OutOfMemory = Unit {0}

-- what the parser found is what the tokens derive
abbrev pub ParsedIs : List Placed → Parsed → Type 0
ParsedIs ts (Found tree) = (trees : Trees) × AreAt tree.nodes.items tree.roots.items trees × HasTrees (bare ts) trees
ParsedIs ts (Unread at) = NoTrees (bare ts) × IsSyntaxAt ts at
