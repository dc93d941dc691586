-- The first of equal values alone, found one after the other.
use Rattle.std.proofs.Common.{◌≡◌, ℕ, ◌+◌, ◌<◌, ◌≤◌, Bool, true, false, not, ◌||◌, ◌&&◌, cond, List, [], ◌∷◌, ◌++◌, length, drop, get_or, refl, sym, ap, ◌∙◌, append_assoc, append-nil}
use Rattle.std.proofs.lemmas.List.{drop_more, drop_all}
use Rattle.std.proofs.lemmas.List.Folds.{list_any-append}
use Rattle.std.proofs.lemmas.List.Elements.{filter_agree}
use Rattle.std.specs.List.{filter, list_any}
use Rattle.std.specs.BTreeSet.{BTreeSet, contains, Updates}
use Rattle.ex_terms.specs.declared.values.Value.{Value}
use Rattle.ex_terms.specs.Keys.{value_cmp}
use Rattle.ex_prims.specs.Lists.{is_equal, has, unique}
use Rattle.ex_prims.proofs.Orders.{equal-one, equal-either}

-- whether a value isn't among the values seen
abbrev pub new : List Value → Value → Bool
new seen w = not (has seen w)

-- the values seen, and the new ones of those that follow
abbrev pub with-new : List Value → List Value → List Value
with-new seen ws = seen ++ filter (new seen) (unique ws)

filter-twice-by : (p q : Value → Bool) (x : Value) (xs : List Value) (a b : Bool) → q x ≡ a → p x ≡ b → filter p (filter q xs) ≡ filter (λ w. q w && p w) xs → filter p (filter q (x ∷ xs)) ≡ filter (λ w. q w && p w) (x ∷ xs)
filter-twice-by p q x xs true true e f h = simp (e, f) (ap (λ ws. x ∷ ws) h)
filter-twice-by p q x xs true false e f h = simp (e, f) h
filter-twice-by p q x xs false b e f h = simp e h

filter-twice : (p q : Value → Bool) (xs : List Value) → filter p (filter q xs) ≡ filter (λ w. q w && p w) xs
filter-twice p q [] = refl
filter-twice p q (x ∷ xs) = filter-twice-by p q x xs (q x) (p x) refl refl (filter-twice p q xs)

-- a value that was seen is left out anyway
old-by : (seen : List Value) (x w : Value) (p : Bool) → has seen x ≡ true → is_equal w x ≡ p → (not p && new seen w) ≡ new seen w
old-by seen x w true h e = sym (ap (λ v. not (has seen v)) (equal-one w x e) ∙ ap not h)
old-by seen x w false h e = refl

old-value : (seen : List Value) (x : Value) (xs : List Value) → has seen x ≡ true → filter (new seen) (unique (x ∷ xs)) ≡ filter (new seen) (unique xs)
old-value seen x xs h =
    ap (λ b. cond (not b) (x ∷ filter (new seen) (filter (λ w. not (is_equal w x)) (unique xs))) (filter (new seen) (filter (λ w. not (is_equal w x)) (unique xs)))) h
    ∙ (filter-twice (new seen) (λ w. not (is_equal w x)) (unique xs)
    ∙ filter_agree (λ w. not (is_equal w x) && new seen w) (new seen) (λ w. old-by seen x w (is_equal w x) h refl) (unique xs))

-- a new value is seen from then on
has-more : (seen : List Value) (x w : Value) → has (seen ++ x ∷ []) w ≡ (has seen w || (is_equal x w || false))
has-more seen x w = list_any-append (λ v. is_equal v w) seen (x ∷ [])

neither-of : (a b : Bool) → (not a && not b) ≡ not (b || (a || false))
neither-of true true = refl
neither-of true false = refl
neither-of false true = refl
neither-of false false = refl

new-more : (seen : List Value) (x w : Value) → (not (is_equal w x) && new seen w) ≡ new (seen ++ x ∷ []) w
new-more seen x w =
    neither-of (is_equal w x) (has seen w) ∙ (ap (λ b. not (has seen w || (b || false))) (equal-either w x) ∙ ap not (sym (has-more seen x w)))

new-value : (seen : List Value) (x : Value) (xs : List Value) → has seen x ≡ false → filter (new seen) (unique (x ∷ xs)) ≡ x ∷ filter (new (seen ++ x ∷ [])) (unique xs)
new-value seen x xs h =
    ap (λ b. cond (not b) (x ∷ filter (new seen) (filter (λ w. not (is_equal w x)) (unique xs))) (filter (new seen) (filter (λ w. not (is_equal w x)) (unique xs)))) h
    ∙ ap (λ ws. x ∷ ws) (filter-twice (new seen) (λ w. not (is_equal w x)) (unique xs)
    ∙ filter_agree (λ w. not (is_equal w x) && new seen w) (new (seen ++ x ∷ [])) (new-more seen x) (unique xs))

-- one value further in a list
pub old-step : (xs seen : List Value) (i : ℕ) (x : Value) → i < length xs → x ≡ get_or xs i x → has seen x ≡ true → with-new seen (drop (i + 1) xs) ≡ with-new seen (drop i xs)
old-step xs seen i x l e h =
    ap (λ ws. seen ++ ws) (sym (old-value seen x (drop (i + 1) xs) h)) ∙ ap (with-new seen) (ap (λ v. v ∷ drop (i + 1) xs) e ∙ sym (drop_more xs i x l))

pub new-step : (xs seen : List Value) (i : ℕ) (x : Value) → i < length xs → x ≡ get_or xs i x → has seen x ≡ false → with-new (seen ++ x ∷ []) (drop (i + 1) xs) ≡ with-new seen (drop i xs)
new-step xs seen i x l e h =
    append_assoc seen (x ∷ []) (filter (new (seen ++ x ∷ [])) (unique (drop (i + 1) xs)))
    ∙ (ap (λ ws. seen ++ ws) (sym (new-value seen x (drop (i + 1) xs) h)) ∙ ap (with-new seen) (ap (λ v. v ∷ drop (i + 1) xs) e ∙ sym (drop_more xs i x l)))

-- a set with the values seen
abbrev pub IsSetOf : BTreeSet Value → List Value → Type 0
IsSetOf set seen = (w : Value) → contains value_cmp set w ≡ has seen w

or-by : (a b : Bool) → cond a true b ≡ (b || (a || false))
or-by true true = refl
or-by true false = refl
or-by false true = refl
or-by false false = refl

pub set-more : (set next : BTreeSet Value) (seen : List Value) (key x : Value) → key ≡ x → IsSetOf set seen → Updates value_cmp set next key true → IsSetOf next (seen ++ x ∷ [])
set-more set next seen key x k is put w =
    put.0 w ∙ (ap (λ v. cond (is_equal v w) true (contains value_cmp set w)) k ∙ (or-by (is_equal x w) (contains value_cmp set w) ∙ (ap (λ b. b || (is_equal x w || false)) (is w) ∙ sym (has-more seen x w))))

-- no value was seen yet
all-new : (xs : List Value) → filter (new []) xs ≡ xs
all-new [] = refl
all-new (x ∷ xs) = ap (λ ws. x ∷ ws) (all-new xs)

pub none-seen : (seen xs : List Value) → seen ≡ [] → with-new seen xs ≡ unique xs
none-seen seen xs e = ap (λ ws. with-new ws xs) e ∙ all-new (unique xs)

pub set-none : (set : BTreeSet Value) (seen : List Value) → set.keys ≡ [] → seen ≡ [] → IsSetOf set seen
set-none set seen e f w = ap (list_any (λ v. is_equal w v)) e ∙ sym (ap (λ ws. has ws w) f)

-- nothing follows
pub all-seen : (seen xs : List Value) (i : ℕ) → length xs ≤ i → with-new seen (drop i xs) ≡ seen
all-seen seen xs i l = ap (with-new seen) (drop_all i xs l) ∙ append-nil seen

set-old-by : (set next : BTreeSet Value) (seen : List Value) (x w : Value) (p : Bool) → is_equal x w ≡ p → has seen x ≡ true → IsSetOf set seen → contains value_cmp next w ≡ cond (is_equal x w) true (contains value_cmp set w) → contains value_cmp next w ≡ has seen w
set-old-by set next seen x w true e h is put = put ∙ (ap (λ b. cond b true (contains value_cmp set w)) e ∙ (sym h ∙ ap (has seen) (equal-one x w e)))
set-old-by set next seen x w false e h is put = put ∙ (ap (λ b. cond b true (contains value_cmp set w)) e ∙ is w)

pub set-old : (set next : BTreeSet Value) (seen : List Value) (key x : Value) → key ≡ x → has seen x ≡ true → IsSetOf set seen → Updates value_cmp set next key true → IsSetOf next seen
set-old set next seen key x k h is put w = set-old-by set next seen x w (is_equal x w) refl h is (put.0 w ∙ ap (λ v. cond (is_equal v w) true (contains value_cmp set w)) k)

turned : (a p : Bool) → not a ≡ p → a ≡ not p
turned true p e = ap not e
turned false p e = ap not e

-- what the set says of a value that was put in
pub told : (set : BTreeSet Value) (seen : List Value) (key x : Value) (added p : Bool) → IsSetOf set seen → key ≡ x → added ≡ not (contains value_cmp set key) → added ≡ p → has seen x ≡ not p
told set seen key x added p is e a b = sym (is x) ∙ (ap (contains value_cmp set) (sym e) ∙ turned (contains value_cmp set key) p (sym a ∙ b))
