-- How large values are, in the units by which evaluations are charged and limited.
use Rattle.std.specs.Prelude.{ℕ, ◌+◌, ◌/◌, min, length}
use Rattle.ex_terms.specs.Terms.{Term, Terms, AnInteger, AnAtom, AText, ATuple, AList, NoTerm, OneMore}

-- a number is one unit, an atom or a text one and one for each 16 bytes, a tuple or a list one and those of its items
abbrev mutual
  pub size_of : Term → ℕ
  size_of (AnInteger z) = 1
  size_of (AnAtom t) = 1 + length t / 16
  size_of (AText t) = 1 + length t / 16
  size_of (ATuple ts) = 1 + sizes_of ts
  size_of (AList ts) = 1 + sizes_of ts

  pub sizes_of : Terms → ℕ
  sizes_of NoTerm = 0
  sizes_of (OneMore t ts) = size_of t + sizes_of ts

-- a number of 64 bits tells no more than the largest of them
abbrev pub capped : ℕ → ℕ
capped n = min n 18446744073709551615
