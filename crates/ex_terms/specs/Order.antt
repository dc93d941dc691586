-- The order of terms: numbers before atoms, these before tuples, these before lists, these before texts.
use Rattle.std.specs.Prelude.{ℕ, suc}
use Rattle.std.specs.declared.cmp.Ordering.{Ordering}
use Rattle.std.specs.declared.cmp.Ordering.TheVariants.{Less, Equal, Greater}
use Rattle.std.specs.Ordering.{int_cmp, nat_cmp, ordering_then}
use Rattle.std.specs.Cmp.Lexicographic.{slice_cmp}
use Rattle.ex_terms.specs.Terms.{Term, Terms, AnInteger, AnAtom, AText, ATuple, AList, NoTerm, OneMore}

-- how many values stand in a tuple or a list
abbrev pub number : Terms → ℕ
number NoTerm = 0
number (OneMore t ts) = suc (number ts)

-- numbers by value, atoms and texts by their bytes, tuples by their number of items and then item by item, lists item by item, a beginning first
abbrev mutual
  pub order_of : Term → Term → Ordering
  order_of (AnInteger a) (AnInteger b) = int_cmp a b
  order_of (AnInteger a) (AnAtom t) = Less
  order_of (AnInteger a) (ATuple us) = Less
  order_of (AnInteger a) (AList us) = Less
  order_of (AnInteger a) (AText t) = Less
  order_of (AnAtom s) (AnInteger b) = Greater
  order_of (AnAtom s) (AnAtom t) = slice_cmp nat_cmp s t
  order_of (AnAtom s) (ATuple us) = Less
  order_of (AnAtom s) (AList us) = Less
  order_of (AnAtom s) (AText t) = Less
  order_of (ATuple ts) (AnInteger b) = Greater
  order_of (ATuple ts) (AnAtom t) = Greater
  order_of (ATuple ts) (ATuple us) = ordering_then (nat_cmp (number ts) (number us)) (order_all ts us)
  order_of (ATuple ts) (AList us) = Less
  order_of (ATuple ts) (AText t) = Less
  order_of (AList ts) (AnInteger b) = Greater
  order_of (AList ts) (AnAtom t) = Greater
  order_of (AList ts) (ATuple us) = Greater
  order_of (AList ts) (AList us) = order_all ts us
  order_of (AList ts) (AText t) = Less
  order_of (AText s) (AnInteger b) = Greater
  order_of (AText s) (AnAtom t) = Greater
  order_of (AText s) (ATuple us) = Greater
  order_of (AText s) (AList us) = Greater
  order_of (AText s) (AText t) = slice_cmp nat_cmp s t

  pub order_all : Terms → Terms → Ordering
  order_all NoTerm NoTerm = Equal
  order_all NoTerm (OneMore u us) = Less
  order_all (OneMore t ts) NoTerm = Greater
  order_all (OneMore t ts) (OneMore u us) = ordering_then (order_of t u) (order_all ts us)

-- what is said above of two tuples
abbrev pub order_tuples : Terms → Terms → Ordering
order_tuples ts us = ordering_then (nat_cmp (number ts) (number us)) (order_all ts us)
