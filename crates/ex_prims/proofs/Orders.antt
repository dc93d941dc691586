-- The order of values: what stands before what, and which of two values a choice takes.
use Rattle.std.proofs.Common.{◌≡◌, ℕ, ◌+◌, ◌<◌, Bool, true, false, cond, List, [], ◌∷◌, length, drop, get_or, refl, sym, ap, ◌∙◌}
use Rattle.std.proofs.lemmas.Bool.{both_ways}
use Rattle.std.proofs.lemmas.Cmp.{tied_itself}
use Rattle.std.proofs.lemmas.List.{drop_more}
use Rattle.std.proofs.lemmas.List.Sorted.{ranks_by}
use Rattle.std.specs.Cmp.{IsStrictWeakOrder}
use Rattle.std.specs.declared.cmp.Ordering.{Ordering}
use Rattle.std.specs.declared.cmp.Ordering.TheVariants.{Less, Equal, Greater}
use Rattle.std.specs.Ordering.{is_eq, is_lt, is_gt, ordering_reverse}
use Rattle.ex_terms.specs.declared.values.Value.{Value}
use Rattle.ex_terms.specs.Keys.{value_cmp, value_total}
use Rattle.ex_terms.proofs.Equality.{equal-values}
use Rattle.ex_prims.specs.Lists.{is_equal, is_less, is_greater, greater_of, lesser_of, greatest, least}

-- equal values are one, and a value is equal to itself
tells-equal : (o : Ordering) → is_eq o ≡ true → o ≡ Equal
tells-equal Less e = absurd (cc)
tells-equal Equal e = refl
tells-equal Greater e = absurd (cc)

pub equal-one : (v w : Value) → is_equal v w ≡ true → v ≡ w
equal-one v w e = equal-values v w (tells-equal (value_cmp v w) e)

pub equal-itself : (v : Value) → is_equal v v ≡ true
equal-itself v = ap is_eq (tied_itself value_total v)

-- equality either way
eq-reverse : (o : Ordering) → is_eq (ordering_reverse o) ≡ is_eq o
eq-reverse Less = refl
eq-reverse Equal = refl
eq-reverse Greater = refl

pub equal-either : (v w : Value) → is_equal v w ≡ is_equal w v
equal-either v w = ap is_eq (value_total.antisymm v w) ∙ eq-reverse (value_cmp w v)

-- less the one way is greater the other way
gt-reverse : (o : Ordering) → is_gt (ordering_reverse o) ≡ is_lt o
gt-reverse Less = refl
gt-reverse Equal = refl
gt-reverse Greater = refl

pub greater-less : (v w : Value) → is_greater v w ≡ is_less w v
greater-less v w = ap is_gt (value_total.antisymm v w) ∙ gt-reverse (value_cmp w v)

-- neither less nor greater is equal
neither : (o : Ordering) → is_lt o ≡ false → is_gt o ≡ false → is_eq o ≡ true
neither Less e f = absurd (cc)
neither Equal e f = refl
neither Greater e f = absurd (cc)

pub neither-less : (v w : Value) → is_less v w ≡ false → is_less w v ≡ false → v ≡ w
neither-less v w e f = equal-one v w (neither (value_cmp v w) e (greater-less v w ∙ f))

pub less-order : IsStrictWeakOrder is_less
less-order = ranks_by value_total (λ (v : Value). v)

pub greater-order : IsStrictWeakOrder is_greater
greater-order = record {
  one_way = λ v w e. greater-less w v ∙ less-order.one_way w v (sym (greater-less v w) ∙ e);
  chain = λ v w x e f. greater-less v x ∙ less-order.chain x w v (sym (greater-less w x) ∙ f) (sym (greater-less v w) ∙ e);
}

-- what stands before something that stands before a third stands before that
pub before-before : (before : Value → Value → Bool) → IsStrictWeakOrder before → (a b c : Value) → before a b ≡ true → before b c ≡ true → before a c ≡ false → ⊥
before-before before o a b c e f g = both_ways (before b c) (o.chain b a c (o.one_way a b e) g) f

-- the second of two values where the first stands before it
abbrev chosen : (Value → Value → Bool) → Value → Value → Value
chosen before a b = cond (before a b) b a

chosen-by : (before : Value → Value → Bool) → IsStrictWeakOrder before → (a b c : Value) (p q r : Bool) → before a b ≡ p → before b c ≡ q → before a c ≡ r → chosen before (chosen before a b) c ≡ chosen before a (chosen before b c)
chosen-by before o a b c true true true e f g = simp (e, f, g)
chosen-by before o a b c true true false e f g = absurd (before-before before o a b c e f g)
chosen-by before o a b c true false r e f g = simp (e, f)
chosen-by before o a b c false true r e f g = simp (e, f)
chosen-by before o a b c false false true e f g = absurd (both_ways (before a c) (o.chain a b c e f) g)
chosen-by before o a b c false false false e f g = simp (e, f, g)

chosen-together : (before : Value → Value → Bool) → IsStrictWeakOrder before → (a b c : Value) → chosen before (chosen before a b) c ≡ chosen before a (chosen before b c)
chosen-together before o a b c = chosen-by before o a b c (before a b) (before b c) (before a c) refl refl refl

-- the greatest so far goes before the other values
pub greatest-more : (v w : Value) (ws : List Value) → greatest v (w ∷ ws) ≡ greatest (greater_of v w) ws
greatest-more v w [] = refl
greatest-more v w (x ∷ ws) = sym (chosen-together is_less less-order v w (greatest x ws))

pub least-more : (v w : Value) (ws : List Value) → least v (w ∷ ws) ≡ least (lesser_of v w) ws
least-more v w [] = refl
least-more v w (x ∷ ws) = sym (chosen-together is_greater greater-order v w (least x ws))

-- one value further in a list
pub greatest-step : (ws : List Value) (i : ℕ) (v w x : Value) → i < length ws → w ≡ get_or ws i w → x ≡ greater_of v w → greatest x (drop (i + 1) ws) ≡ greatest v (drop i ws)
greatest-step ws i v w x l e g =
    ap (λ y. greatest y (drop (i + 1) ws)) g ∙ (sym (greatest-more v w (drop (i + 1) ws)) ∙ ap (greatest v) (ap (λ y. y ∷ drop (i + 1) ws) e ∙ sym (drop_more ws i w l)))

pub least-step : (ws : List Value) (i : ℕ) (v w x : Value) → i < length ws → w ≡ get_or ws i w → x ≡ lesser_of v w → least x (drop (i + 1) ws) ≡ least v (drop i ws)
least-step ws i v w x l e g =
    ap (λ y. least y (drop (i + 1) ws)) g ∙ (sym (least-more v w (drop (i + 1) ws)) ∙ ap (least v) (ap (λ y. y ∷ drop (i + 1) ws) e ∙ sym (drop_more ws i w l)))
