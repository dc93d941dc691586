-- The trees that the values of the code are.
use Rattle.std.specs.Prelude.{List, [], ◌∷◌}
use Rattle.ex_terms.specs.declared.values.Value.{Value}
use Rattle.ex_terms.specs.declared.values.Value.TheVariants.{Int, Atom, Str, Tuple, List as Listed}
use Rattle.ex_terms.specs.Terms.{Term, Terms, AnInteger, AnAtom, AText, ATuple, AList, NoTerm, OneMore}

abbrev pub term_of : Value → Term
term_of (Int z) = AnInteger z
term_of (Atom t) = AnAtom t
term_of (Str t) = AText t
term_of (Tuple ts) = ATuple ts
term_of (Listed ts) = AList ts

abbrev pub terms_of : List Value → Terms
terms_of [] = NoTerm
terms_of (v ∷ vs) = OneMore (term_of v) (terms_of vs)

-- the value that a tree is, and the values that trees are
abbrev pub value_of : Term → Value
value_of (AnInteger z) = Int z
value_of (AnAtom t) = Atom t
value_of (AText t) = Str t
value_of (ATuple ts) = Tuple ts
value_of (AList ts) = Listed ts

abbrev pub values_of : Terms → List Value
values_of NoTerm = []
values_of (OneMore t ts) = value_of t ∷ values_of ts
