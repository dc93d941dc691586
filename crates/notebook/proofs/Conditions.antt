-- Tests that are joined, and tests of any element of a list.
use Rattle.std.proofs.Common.{◌≡◌, ℕ, true, false, Bool, List, [], ◌∷◌, ◌++◌, refl, sym, ap, ◌∙◌, eq-eqb, eqb-true}
use Rattle.std.specs.Prelude.{◌==◌, ◌&&◌, ◌||◌, not}
use Rattle.std.specs.List.{list_any}
use Rattle.std.proofs.lemmas.List.Folds.{list_any-append}

pub and-left : (a b : Bool) → (a && b) ≡ true → a ≡ true
and-left a b = elim a as (λ x. (x && b) ≡ true → x ≡ true) [ true ↦ λ h. refl | false ↦ λ h. h ]

pub and-right : (a b : Bool) → (a && b) ≡ true → b ≡ true
and-right a b = elim a as (λ x. (x && b) ≡ true → b ≡ true) [ true ↦ λ h. h | false ↦ λ h. absurd (cc h) ]

pub and-both : (a b : Bool) → a ≡ true → b ≡ true → (a && b) ≡ true
and-both a b e h = ap (λ x. x && b) e ∙ h

pub and-assoc : (a b c : Bool) → (a && (b && c)) ≡ ((a && b) && c)
and-assoc a b c = elim a as (λ x. (x && (b && c)) ≡ ((x && b) && c)) [ true ↦ refl | false ↦ refl ]

pub and-false : (a : Bool) → (a && false) ≡ false
and-false a = elim a as (λ x. (x && false) ≡ false) [ true ↦ refl | false ↦ refl ]

pub and-true : (a : Bool) → (a && true) ≡ a
and-true a = elim a as (λ x. (x && true) ≡ x) [ true ↦ refl | false ↦ refl ]

pub or-left : (a b : Bool) → a ≡ true → (a || b) ≡ true
or-left a b e = ap (λ x. x || b) e

pub or-right : (a b : Bool) → b ≡ true → (a || b) ≡ true
or-right a b e = elim a as (λ x. (x || b) ≡ true) [ true ↦ refl | false ↦ e ]

pub or-map : (a a' b : Bool) → (a ≡ true → a' ≡ true) → (a || b) ≡ true → (a' || b) ≡ true
or-map a a' b f =
    elim a
    as (λ x. (x ≡ true → a' ≡ true) → (x || b) ≡ true → (a' || b) ≡ true)
    [ true ↦ λ g h. or-left a' b (g refl) | false ↦ λ g h. or-right a' b h ]
    f

pub or-none-left : (a b : Bool) → (a || b) ≡ false → a ≡ false
or-none-left a b = elim a as (λ x. (x || b) ≡ false → x ≡ false) [ true ↦ λ h. h | false ↦ λ h. refl ]

pub or-none-right : (a b : Bool) → (a || b) ≡ false → b ≡ false
or-none-right a b = elim a as (λ x. (x || b) ≡ false → b ≡ false) [ true ↦ λ h. absurd (cc h) | false ↦ λ h. h ]

pub or-none : (a b : Bool) → a ≡ false → b ≡ false → (a || b) ≡ false
or-none a b e h = ap (λ x. x || b) e ∙ h

pub or-false : (a : Bool) → (a || false) ≡ a
or-false a = elim a as (λ x. (x || false) ≡ x) [ true ↦ refl | false ↦ refl ]

pub or-middle : (a b c : Bool) → (a || (b || c)) ≡ (b || (a || c))
or-middle a b c = elim a as (λ x. (x || (b || c)) ≡ (b || (x || c))) [ true ↦ elim b as (λ y. true ≡ (y || true)) [ true ↦ refl | false ↦ refl ] | false ↦ refl ]

pub not-true : (b : Bool) → not b ≡ true → b ≡ false
not-true b = elim b as (λ x. not x ≡ true → x ≡ false) [ true ↦ λ h. absurd (cc h) | false ↦ λ h. refl ]

pub not-false : (b : Bool) → not b ≡ false → b ≡ true
not-false b = elim b as (λ x. not x ≡ false → x ≡ true) [ true ↦ λ h. refl | false ↦ λ h. absurd (cc h) ]

-- what isn't so is false
pub false-from : (b : Bool) → (b ≡ true → ⊥) → b ≡ false
false-from b = elim b as (λ x. (x ≡ true → ⊥) → x ≡ false) [ true ↦ λ h. absurd (h refl) | false ↦ λ h. refl ]

pub eqb-flip : (a b : ℕ) → (a == b) ≡ false → (b == a) ≡ false
eqb-flip a b h = false-from (b == a) (λ e. let same : (a == b) ≡ true = eq-eqb a b (sym (eqb-true b a e)) in cc)

-- any of a list
pub any-front : {X : Type 0} (t : X → Bool) (xs ys : List X) → list_any t xs ≡ true → list_any t (xs ++ ys) ≡ true
any-front t xs ys h = list_any-append t xs ys ∙ or-left (list_any t xs) (list_any t ys) h

pub any-back : {X : Type 0} (t : X → Bool) (xs ys : List X) → list_any t ys ≡ true → list_any t (xs ++ ys) ≡ true
any-back t xs ys h = list_any-append t xs ys ∙ or-right (list_any t xs) (list_any t ys) h

pub none-left : {X : Type 0} (t : X → Bool) (xs ys : List X) → list_any t (xs ++ ys) ≡ false → list_any t xs ≡ false
none-left t xs ys h = or-none-left (list_any t xs) (list_any t ys) (sym (list_any-append t xs ys) ∙ h)

pub none-right : {X : Type 0} (t : X → Bool) (xs ys : List X) → list_any t (xs ++ ys) ≡ false → list_any t ys ≡ false
none-right t xs ys h = or-none-right (list_any t xs) (list_any t ys) (sym (list_any-append t xs ys) ∙ h)

pub none-join : {X : Type 0} (t : X → Bool) (xs ys : List X) → list_any t xs ≡ false → list_any t ys ≡ false → list_any t (xs ++ ys) ≡ false
none-join t xs ys h k = list_any-append t xs ys ∙ or-none (list_any t xs) (list_any t ys) h k

pub any-push : {X : Type 0} (t : X → Bool) (xs ys : List X) (x : X) → (list_any t xs ≡ true → list_any t ys ≡ true) → list_any t (xs ++ x ∷ []) ≡ true → list_any t (ys ++ x ∷ []) ≡ true
any-push t xs ys x more h =
    list_any-append t ys (x ∷ []) ∙ or-map (list_any t xs) (list_any t ys) (list_any t (x ∷ [])) more (sym (list_any-append t xs (x ∷ [])) ∙ h)

-- one element more or less, wherever it stands
pub any-seam : {X : Type 0} (t : X → Bool) (xs : List X) (x : X) (ys : List X) → list_any t (xs ++ x ∷ ys) ≡ (t x || list_any t (xs ++ ys))
any-seam t xs x ys =
    list_any-append t xs (x ∷ ys)
    ∙ (or-middle (list_any t xs) (t x) (list_any t ys) ∙ ap (λ b. t x || b) (sym (list_any-append t xs ys)))
