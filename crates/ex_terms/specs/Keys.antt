-- The order of terms is total: each term is a list of numbers, and two terms stand as their lists do.
use Rattle.std.specs.Prelude.{◌≡◌, ℕ, ℤ, pos, List, [], ◌∷◌, refl}
use Rattle.std.proofs.Common.{ap, ◌∙◌, subst, arith}
use Rattle.std.proofs.lemmas.Bool.Decides.{nat_tests}
use Rattle.std.specs.declared.cmp.Ordering.{Ordering}
use Rattle.std.specs.declared.cmp.Ordering.TheVariants.{Less, Equal, Greater}
use Rattle.std.specs.Ordering.{int_cmp, nat_cmp, ordering_then}
use Rattle.std.specs.Cmp.{IsTotalOrder, int_cmp_total, on_total}
use Rattle.std.specs.Cmp.Lexicographic.{slice_cmp, lists_total}
use Rattle.ex_terms.specs.declared.values.Value.{Value}
use Rattle.ex_terms.specs.Terms.{Term, Terms, AnInteger, AnAtom, AText, ATuple, AList, NoTerm, OneMore}
use Rattle.ex_terms.specs.Seen.{term_of}
use Rattle.ex_terms.specs.Order.{number, order_of, order_all}

-- the bytes of a text before other numbers: a 1 before each byte, and a 0 behind the last
abbrev spelled : List ℕ → List ℤ → List ℤ
spelled [] rest = pos 0 ∷ rest
spelled (b ∷ bs) rest = pos 1 ∷ pos b ∷ spelled bs rest

-- the numbers of a term before others: first its kind; a 1 before each item, and a 0 behind the last
abbrev mutual
  key : Term → List ℤ → List ℤ
  key (AnInteger z) rest = pos 0 ∷ z ∷ rest
  key (AnAtom s) rest = pos 1 ∷ spelled s rest
  key (ATuple ts) rest = pos 2 ∷ pos (number ts) ∷ keys ts rest
  key (AList ts) rest = pos 3 ∷ keys ts rest
  key (AText s) rest = pos 4 ∷ spelled s rest

  keys : Terms → List ℤ → List ℤ
  keys NoTerm rest = pos 0 ∷ rest
  keys (OneMore t ts) rest = pos 1 ∷ key t (keys ts rest)

by-number : (a b : ℕ) → int_cmp (pos a) (pos b) ≡ nat_cmp a b
by-number a b = grind (arith, nat_tests)

then-then : (o p q : Ordering) → ordering_then o (ordering_then p q) ≡ ordering_then (ordering_then o p) q
then-then Less p q = refl
then-then Equal p q = refl
then-then Greater p q = refl

then-equal : (o : Ordering) → ordering_then o Equal ≡ o
then-equal Less = refl
then-equal Equal = refl
then-equal Greater = refl

-- a number first, then what follows by a law
number-first : (a b : ℕ) (whole o rest : Ordering) → whole ≡ ordering_then o rest → ordering_then (int_cmp (pos a) (pos b)) whole ≡ ordering_then (ordering_then (nat_cmp a b) o) rest
number-first a b whole o rest e = ap (λ k. ordering_then k whole) (by-number a b) ∙ (ap (ordering_then (nat_cmp a b)) e ∙ then-then (nat_cmp a b) o rest)

texts-stand : (s t : List ℕ) (q r : List ℤ) → slice_cmp int_cmp (spelled s q) (spelled t r) ≡ ordering_then (slice_cmp nat_cmp s t) (slice_cmp int_cmp q r)
texts-stand [] [] q r = refl
texts-stand [] (b ∷ t) q r = refl
texts-stand (a ∷ s) [] q r = refl
texts-stand (a ∷ s) (b ∷ t) q r = number-first a b (slice_cmp int_cmp (spelled s q) (spelled t r)) (slice_cmp nat_cmp s t) (slice_cmp int_cmp q r) (texts-stand s t q r)

mutual
  terms-stand : (t u : Term) (q r : List ℤ) → slice_cmp int_cmp (key t q) (key u r) ≡ ordering_then (order_of t u) (slice_cmp int_cmp q r)
  terms-stand (AnInteger a) (AnInteger b) q r = refl
  terms-stand (AnInteger a) (AnAtom t) q r = refl
  terms-stand (AnInteger a) (ATuple us) q r = refl
  terms-stand (AnInteger a) (AList us) q r = refl
  terms-stand (AnInteger a) (AText t) q r = refl
  terms-stand (AnAtom s) (AnInteger b) q r = refl
  terms-stand (AnAtom s) (AnAtom t) q r = texts-stand s t q r
  terms-stand (AnAtom s) (ATuple us) q r = refl
  terms-stand (AnAtom s) (AList us) q r = refl
  terms-stand (AnAtom s) (AText t) q r = refl
  terms-stand (ATuple ts) (AnInteger b) q r = refl
  terms-stand (ATuple ts) (AnAtom t) q r = refl
  terms-stand (ATuple ts) (ATuple us) q r = number-first (number ts) (number us) (slice_cmp int_cmp (keys ts q) (keys us r)) (order_all ts us) (slice_cmp int_cmp q r) (all-stand ts us q r)
  terms-stand (ATuple ts) (AList us) q r = refl
  terms-stand (ATuple ts) (AText t) q r = refl
  terms-stand (AList ts) (AnInteger b) q r = refl
  terms-stand (AList ts) (AnAtom t) q r = refl
  terms-stand (AList ts) (ATuple us) q r = refl
  terms-stand (AList ts) (AList us) q r = all-stand ts us q r
  terms-stand (AList ts) (AText t) q r = refl
  terms-stand (AText s) (AnInteger b) q r = refl
  terms-stand (AText s) (AnAtom t) q r = refl
  terms-stand (AText s) (ATuple us) q r = refl
  terms-stand (AText s) (AList us) q r = refl
  terms-stand (AText s) (AText t) q r = texts-stand s t q r

  all-stand : (ts us : Terms) (q r : List ℤ) → slice_cmp int_cmp (keys ts q) (keys us r) ≡ ordering_then (order_all ts us) (slice_cmp int_cmp q r)
  all-stand NoTerm NoTerm q r = refl
  all-stand NoTerm (OneMore u us) q r = refl
  all-stand (OneMore t ts) NoTerm q r = refl
  all-stand (OneMore t ts) (OneMore u us) q r =
      terms-stand t u (keys ts q) (keys us r) ∙ (ap (ordering_then (order_of t u)) (all-stand ts us q r) ∙ then-then (order_of t u) (order_all ts us) (slice_cmp int_cmp q r))

-- two terms stand as their numbers do
by-keys : (t u : Term) → slice_cmp int_cmp (key t []) (key u []) ≡ order_of t u
by-keys t u = terms-stand t u [] [] ∙ then-equal (order_of t u)

-- the order of terms is total
pub order_total : IsTotalOrder order_of
order_total = subst IsTotalOrder (λ i t u. by-keys t u i) (on_total (λ (t : Term). key t []) (lists_total int_cmp_total))

-- how two values stand in the order of terms
abbrev pub value_cmp : Value → Value → Ordering
value_cmp v w = order_of (term_of v) (term_of w)

-- the order of values is total
pub value_total : IsTotalOrder value_cmp
value_total = on_total term_of order_total
