-- Two values stand at one place of the order exactly where they are equal.
use Rattle.std.proofs.Common.{◌≡◌, ◌==◌, Bool, true, ap, sym, ◌∙◌, refl}
use Rattle.std.specs.declared.cmp.Ordering.{Ordering}
use Rattle.std.specs.declared.cmp.Ordering.TheVariants.{Less, Equal, Greater}
use Rattle.std.specs.Ordering.{int_cmp, nat_cmp, ordering_then, ordering_reverse, ordering_index}
use Rattle.std.specs.Cmp.Lexicographic.{slice_cmp}
use Rattle.std.proofs.lemmas.Cmp.{nat_cmp_total, int_cmp_total, nat_list_cmp_total}
use Rattle.std.proofs.lemmas.Map.Lookups.{exact_bytes, exact_signed}
use Rattle.ex_terms.specs.declared.values.Value.{Value}
use Rattle.ex_terms.specs.Terms.{Term, Terms, AnInteger, AnAtom, AText, ATuple, AList, NoTerm, OneMore}
use Rattle.ex_terms.specs.Seen.{term_of, value_of}
use Rattle.ex_terms.proofs.Trees.{is-read}
use Rattle.ex_terms.specs.Order.{order_of, order_all, number}

then-left : (a b : Ordering) → ordering_then a b ≡ Equal → a ≡ Equal
then-left Less b e = absurd (cc)
then-left Equal b e = refl
then-left Greater b e = absurd (cc)

then-right : (a b : Ordering) → ordering_then a b ≡ Equal → b ≡ Equal
then-right Less b e = absurd (cc)
then-right Equal b e = e
then-right Greater b e = absurd (cc)

mutual
  order-equal : (t u : Term) → order_of t u ≡ Equal → t ≡ u
  order-equal (AnInteger a) (AnInteger b) e = ap AnInteger (exact_signed a b e)
  order-equal (AnInteger a) (AnAtom t) e = absurd (cc)
  order-equal (AnInteger a) (ATuple us) e = absurd (cc)
  order-equal (AnInteger a) (AList us) e = absurd (cc)
  order-equal (AnInteger a) (AText t) e = absurd (cc)
  order-equal (AnAtom s) (AnInteger b) e = absurd (cc)
  order-equal (AnAtom s) (AnAtom t) e = ap AnAtom (exact_bytes s t e)
  order-equal (AnAtom s) (ATuple us) e = absurd (cc)
  order-equal (AnAtom s) (AList us) e = absurd (cc)
  order-equal (AnAtom s) (AText t) e = absurd (cc)
  order-equal (ATuple ts) (AnInteger b) e = absurd (cc)
  order-equal (ATuple ts) (AnAtom t) e = absurd (cc)
  order-equal (ATuple ts) (ATuple us) e = ap ATuple (all-equal ts us (then-right (nat_cmp (number ts) (number us)) (order_all ts us) e))
  order-equal (ATuple ts) (AList us) e = absurd (cc)
  order-equal (ATuple ts) (AText t) e = absurd (cc)
  order-equal (AList ts) (AnInteger b) e = absurd (cc)
  order-equal (AList ts) (AnAtom t) e = absurd (cc)
  order-equal (AList ts) (ATuple us) e = absurd (cc)
  order-equal (AList ts) (AList us) e = ap AList (all-equal ts us e)
  order-equal (AList ts) (AText t) e = absurd (cc)
  order-equal (AText s) (AnInteger b) e = absurd (cc)
  order-equal (AText s) (AnAtom t) e = absurd (cc)
  order-equal (AText s) (ATuple us) e = absurd (cc)
  order-equal (AText s) (AList us) e = absurd (cc)
  order-equal (AText s) (AText t) e = ap AText (exact_bytes s t e)

  all-equal : (ts us : Terms) → order_all ts us ≡ Equal → ts ≡ us
  all-equal NoTerm NoTerm e = refl
  all-equal NoTerm (OneMore u us) e = absurd (cc)
  all-equal (OneMore t ts) NoTerm e = absurd (cc)
  all-equal (OneMore t ts) (OneMore u us) e =
      ap (λ x. OneMore x ts) (order-equal t u (then-left (order_of t u) (order_all ts us) e)) ∙ ap (OneMore u) (all-equal ts us (then-right (order_of t u) (order_all ts us) e))

own-reverse : (o : Ordering) → o ≡ ordering_reverse o → o ≡ Equal
own-reverse Less e = absurd (cc)
own-reverse Equal e = refl
own-reverse Greater e = absurd (cc)

mutual
  order-same : (t : Term) → order_of t t ≡ Equal
  order-same (AnInteger a) = own-reverse (int_cmp a a) (int_cmp_total.antisymm a a)
  order-same (AnAtom s) = own-reverse (slice_cmp nat_cmp s s) (nat_list_cmp_total.antisymm s s)
  order-same (AText s) = own-reverse (slice_cmp nat_cmp s s) (nat_list_cmp_total.antisymm s s)
  order-same (ATuple ts) = ap (λ o. ordering_then o (order_all ts ts)) (own-reverse (nat_cmp (number ts) (number ts)) (nat_cmp_total.antisymm (number ts) (number ts))) ∙ all-same ts
  order-same (AList ts) = all-same ts

  all-same : (ts : Terms) → order_all ts ts ≡ Equal
  all-same NoTerm = refl
  all-same (OneMore t ts) = ap (λ o. ordering_then o (order_all ts ts)) (order-same t) ∙ all-same ts

pub equal-values : (v w : Value) → order_of (term_of v) (term_of w) ≡ Equal → v ≡ w
equal-values v w e = sym (is-read v) ∙ (ap value_of (order-equal (term_of v) (term_of w) e) ∙ is-read w)

pub same-place : (v w : Value) → v ≡ w → order_of (term_of v) (term_of w) ≡ Equal
same-place v w e = ap (λ x. order_of (term_of v) (term_of x)) (sym e) ∙ order-same (term_of v)

-- whether an order is that of equals
pub is-equal : (o : Ordering) (b : Bool) → b ≡ (ordering_index o == 1) → b ≡ true → o ≡ Equal
is-equal Less b e t = absurd (cc)
is-equal Equal b e t = refl
is-equal Greater b e t = absurd (cc)

pub equal-is : (o : Ordering) (b : Bool) → b ≡ (ordering_index o == 1) → o ≡ Equal → b ≡ true
equal-is o b e q = e ∙ ap (λ k. ordering_index k == 1) q
