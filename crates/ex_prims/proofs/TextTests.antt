-- Whether a text stands in another.
use Rattle.std.proofs.Common.{◌≡◌, ◌↔◌, ◌⊎◌, inl, inr, ℕ, Bool, true, false, ◌||◌, List, [], ◌∷◌, ◌++◌, length, drop, refl, sym, ap}
use Rattle.std.specs.Str.Iter.{HasSubslice}
use Rattle.std.proofs.lemmas.Slice.Eq.{starts_is}
use Rattle.std.proofs.lemmas.Bool.Decides.{Decides-eqb}
use Rattle.ex_prims.specs.Texts.{begins_with, has_within}

pub begins-so : (s t : List ℕ) → begins_with s t ≡ true → s ≡ t ++ drop (length t) s
begins-so s t e = (starts_is Decides-eqb s t _ refl).0 e

pub so-begins : (s t rest : List ℕ) → s ≡ t ++ rest → begins_with s t ≡ true
so-begins s t rest e = (starts_is Decides-eqb s t _ refl).1 rest e

pub same-tests : (a b : Bool) → (a ≡ true → b ≡ true) → (b ≡ true → a ≡ true) → a ≡ b
same-tests true b f g = sym (f refl)
same-tests false true f g = g refl
same-tests false false f g = refl

either-true : (a b : Bool) → (a || b) ≡ true → (a ≡ true) ⊎ (b ≡ true)
either-true true b e = inl refl
either-true false b e = inr e

second-true : (a b : Bool) → b ≡ true → (a || b) ≡ true
second-true true b e = refl
second-true false b e = e

within-so : (s t : List ℕ) → has_within s t ≡ true → HasSubslice s t
within-so [] t e = ([], drop (length t) [], begins-so [] t e)
within-so (b ∷ bs) t e = elim (either-true (begins_with (b ∷ bs) t) (has_within bs t) e) [
  | inl here ↦ ([], drop (length t) (b ∷ bs), begins-so (b ∷ bs) t here)
  | inr there ↦ (let found : HasSubslice bs t = within-so bs t there in (b ∷ found.0, found.1, ap (λ l. b ∷ l) found.2))
]

so-within : (s t front back : List ℕ) → s ≡ front ++ (t ++ back) → has_within s t ≡ true
so-within [] t [] back e = so-begins [] t back e
so-within (b ∷ bs) t [] back e = ap (λ k. k || has_within bs t) (so-begins (b ∷ bs) t back e)
so-within [] t (c ∷ front) back e = absurd (cc)
so-within (b ∷ bs) t (c ∷ front) back e = second-true (begins_with (b ∷ bs) t) (has_within bs t) (so-within bs t front back (cc))

pub is-within : (s t : List ℕ) (r : Bool) → (r ≡ true) ↔ HasSubslice s t → r ≡ has_within s t
is-within s t r h = same-tests r (has_within s t) (λ e. let found : HasSubslice s t = h.0 e in so-within s t found.0 found.1 found.2) (λ e. h.1 (within-so s t e))
