-- Expressions as mathematics has them.
use Rattle.std.specs.Prelude.{ℕ, List}
use Rattle.ex_grammar.specs.declared.token.WordValue.{WordValue}
use Rattle.ex_grammar.specs.declared.operators.Operator.{Operator}
use Rattle.ex_grammar.specs.declared.operators.Prefix.{Prefix}
use Rattle.ex_grammar.specs.Patterns.{Pattern}

mutual
  -- an expression
  pub data Tree : Type 0 where
    -- an integer as it is written, below 2^127
    Integer : ℕ → Tree
    -- an atom by its text, and a word that is a value
    Atom : List ℕ → Tree
    WordIs : WordValue → Tree
    -- a text: what it says up to its first `#{`, and what comes after
    Text : List ℕ → Holes → Tree
    -- a name
    Variable : List ℕ → Tree
    -- `{a, b}`
    Tuple : Trees → Tree
    -- `[a, b]`, and `[a, b | t]`
    Items : Trees → Tree
    ItemsThen : Trees → Tree → Tree
    -- a call by its name as it is written, `f` or `Enum.sum`; `x |> f(a)` is `f(x, a)`
    Call : List ℕ → Trees → Tree
    -- pattern = expression
    Match : Pattern → Tree → Tree
    -- an operator between two operands, and before one
    Apply : Operator → Tree → Tree → Tree
    Prefixed : Prefix → Tree → Tree
    -- `if` with its body, without `else` and with it
    If : Tree → Trees → Tree
    IfElse : Tree → Trees → Trees → Tree
    Case : Tree → Clauses → Tree
    Cond : Choices → Tree
    -- the first generator's pattern and source, the other parts, and the body
    For : Pattern → Tree → Parts → Trees → Tree

  -- expressions one after another
  pub data Trees : Type 0 where
    NoTree : Trees
    OneMore : Tree → Trees → Trees

  -- `#{e}` and what the text says after it
  pub data Holes : Type 0 where
    NoHole : Holes
    Hole : Tree → List ℕ → Holes → Holes

  -- pattern -> body
  pub data Clauses : Type 0 where
    NoClause : Clauses
    Clause : Pattern → Trees → Clauses → Clauses

  -- condition -> body
  pub data Choices : Type 0 where
    NoChoice : Choices
    Choice : Tree → Trees → Choices → Choices

  -- the parts of a `for` after its first: pattern <- expression, and filters
  pub data Parts : Type 0 where
    NoPart : Parts
    Generator : Pattern → Tree → Parts → Parts
    Filter : Tree → Parts → Parts

-- the one list and then the other
abbrev pub joined : Trees → Trees → Trees
joined NoTree us = us
joined (OneMore t ts) us = OneMore t (joined ts us)
