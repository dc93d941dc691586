-- The values of cells as trees: integers, atoms and texts, and tuples and lists of values. A text is the list of its bytes.
use Rattle.std.specs.Prelude.{ℕ, ℤ, ◌+◌, List}

mutual
  pub data Term : Type 0 where
    AnInteger : ℤ → Term
    AnAtom : List ℕ → Term
    AText : List ℕ → Term
    ATuple : Terms → Term
    AList : Terms → Term

  pub data Terms : Type 0 where
    NoTerm : Terms
    OneMore : Term → Terms → Terms

-- how many values there are, those inside others among them
abbrev mutual
  pub count : Term → ℕ
  count (AnInteger z) = 1
  count (AnAtom t) = 1
  count (AText t) = 1
  count (ATuple ts) = 1 + counts ts
  count (AList ts) = 1 + counts ts

  pub counts : Terms → ℕ
  counts NoTerm = 0
  counts (OneMore t ts) = count t + counts ts
