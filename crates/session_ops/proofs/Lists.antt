-- Lists by tests: what is found, what passes, and what is left.
use Rattle.std.proofs.Common.{◌≡◌, ℕ, ◌==◌, Bool, true, false, if◌then◌else◌, List, [], ◌∷◌, ◌++◌, Some, None, refl, sym, ap, subst, ◌∙◌}
use Rattle.std.specs.Prelude.{filter, find, is_some}
use Rattle.std.specs.List.{AllByRecursion}
use Rattle.session_ops.specs.Numbers.{is_in}

-- what is_some's test of a list finds
pub find-wider : {X : Type 0} (p q : X → Bool) → ((x : X) → p x ≡ true → q x ≡ true) → (xs : List X) → is_some (find p xs) ≡ true → is_some (find q xs) ≡ true
find-wider p q h [] e = e
find-wider p q h (x ∷ xs) e =
    elim (p x)
    as (λ b. (b ≡ true → q x ≡ true) → is_some (if b then Some x else find p xs) ≡ true → is_some (if q x then Some x else find q xs) ≡ true) [
      | true ↦ λ k f. rw (k refl) refl
      | false ↦ λ k f. elim (q x) as (λ c. is_some (if c then Some x else find q xs) ≡ true) [ true ↦ refl | false ↦ find-wider p q h xs f ]
    ]
    (h x)
    e

-- of the elements that pass a test, all are so
pub all-filter : {X : Type 0} (p : X → Bool) (P : X → Type 0) → ((x : X) → p x ≡ true → P x) → (xs : List X) → AllByRecursion P (filter p xs)
all-filter p P h [] = tt
all-filter p P h (x ∷ xs) =
    elim (p x)
    as (λ b. (b ≡ true → P x) → AllByRecursion P (if b then x ∷ filter p xs else filter p xs))
    [ true ↦ λ k. (k refl, all-filter p P h xs) | false ↦ λ k. all-filter p P h xs ]
    (h x)

-- what all elements are is what those are that pass a test
pub all-kept : {X : Type 0} (p : X → Bool) (P : X → Type 0) (xs : List X) → AllByRecursion P xs → AllByRecursion P (filter p xs)
all-kept p P [] h = tt
all-kept p P (x ∷ xs) h = elim (p x) as (λ b. AllByRecursion P (if b then x ∷ filter p xs else filter p xs)) [ true ↦ (h.0, all-kept p P xs h.1) | false ↦ all-kept p P xs h.1 ]

pub all-append : {X : Type 0} (P : X → Type 0) (xs ys : List X) → AllByRecursion P xs → AllByRecursion P ys → AllByRecursion P (xs ++ ys)
all-append P [] ys h k = k
all-append P (x ∷ xs) ys h k = (h.0, all-append P xs ys h.1 k)

pub all-front : {X : Type 0} (P : X → Type 0) (xs ys : List X) → AllByRecursion P (xs ++ ys) → AllByRecursion P xs
all-front P [] ys h = tt
all-front P (x ∷ xs) ys h = (h.0, all-front P xs ys h.1)

pub all-back : {X : Type 0} (P : X → Type 0) (xs ys : List X) → AllByRecursion P (xs ++ ys) → AllByRecursion P ys
all-back P [] ys h = h
all-back P (x ∷ xs) ys h = all-back P xs ys h.1

pub all-weaker : {X : Type 0} (P Q : X → Type 0) → ((x : X) → P x → Q x) → (xs : List X) → AllByRecursion P xs → AllByRecursion Q xs
all-weaker P Q f [] h = tt
all-weaker P Q f (x ∷ xs) h = (f x h.0, all-weaker P Q f xs h.1)

-- where all pass a test, or none does
pub filter-all : {X : Type 0} (p : X → Bool) (xs : List X) → AllByRecursion (λ x. p x ≡ true) xs → filter p xs ≡ xs
filter-all p [] h = refl
filter-all p (x ∷ xs) h = rw h.0 (ap (λ ys. x ∷ ys) (filter-all p xs h.1))

pub filter-none : {X : Type 0} (p : X → Bool) (xs : List X) → AllByRecursion (λ x. p x ≡ false) xs → filter p xs ≡ []
filter-none p [] h = refl
filter-none p (x ∷ xs) h = rw h.0 (filter-none p xs h.1)

-- a number stays in numbers that become more
pub in-more : (n : ℕ) (xs ys : List ℕ) → is_in n xs ≡ true → is_in n (xs ++ ys) ≡ true
in-more n [] ys e = absurd (cc e)
in-more n (x ∷ xs) ys e =
    elim (x == n)
    as (λ b. (if b then true else is_in n xs) ≡ true → (if b then true else is_in n (xs ++ ys)) ≡ true)
    [ true ↦ λ k. refl | false ↦ λ k. in-more n xs ys k ]
    e

-- where the front has none that passes, the whole finds what the rest finds
pub find-append-none : {X : Type 0} (p : X → Bool) (xs ys : List X) → AllByRecursion (λ x. p x ≡ false) xs → find p (xs ++ ys) ≡ find p ys
find-append-none p [] ys h = refl
find-append-none p (x ∷ xs) ys h = rw h.0 (find-append-none p xs ys h.1)

-- one more that doesn't pass is never found
pub find-append-other : {X : Type 0} (p : X → Bool) (xs : List X) (y : X) → p y ≡ false → find p (xs ++ y ∷ []) ≡ find p xs
find-append-other p [] y h = rw h refl
find-append-other p (x ∷ xs) y h = ap (λ o. if p x then Some x else o) (find-append-other p xs y h)

-- those that are left still have all that pass, or none of them
pub find-kept : {X : Type 0} (p q : X → Bool) → ((x : X) → p x ≡ true → q x ≡ true) → (xs : List X) → find p (filter q xs) ≡ find p xs
find-kept p q h [] = refl
find-kept p q h (x ∷ xs) =
    elim (q x)
    as (λ c. (p x ≡ true → c ≡ true) → find p (if c then x ∷ filter q xs else filter q xs) ≡ (if p x then Some x else find p xs)) [
      | true ↦ λ k. ap (λ o. if p x then Some x else o) (find-kept p q h xs)
      | false ↦ λ k. elim (p x) as (λ b. (b ≡ true → false ≡ true) → find p (filter q xs) ≡ (if b then Some x else find p xs)) [ true ↦ λ j. absurd (cc (j refl)) | false ↦ λ j. find-kept p q h xs ] k
    ]
    (h x)

pub find-lost : {X : Type 0} (p q : X → Bool) → ((x : X) → q x ≡ true → p x ≡ false) → (xs : List X) → find p (filter q xs) ≡ None
find-lost p q h [] = refl
find-lost p q h (x ∷ xs) =
    elim (q x)
    as (λ c. (c ≡ true → p x ≡ false) → find p (if c then x ∷ filter q xs else filter q xs) ≡ None)
    [ true ↦ λ k. rw (k refl) (find-lost p q h xs) | false ↦ λ k. find-lost p q h xs ]
    (h x)

-- what is found passes, and is as all are
pub find-passes : {X : Type 0} (p : X → Bool) (xs : List X) (y : X) → find p xs ≡ Some y → p y ≡ true
find-passes p [] y e = absurd (cc e)
find-passes p (x ∷ xs) y e =
    elim (p x)
    as (λ b. p x ≡ b → (if b then Some x else find p xs) ≡ Some y → p y ≡ true)
    [ true ↦ λ t k. let same : x ≡ y = cc k in ap p (sym same) ∙ t | false ↦ λ t k. find-passes p xs y k ]
    refl
    e

pub find-is : {X : Type 0} (p : X → Bool) (P : X → Type 0) (xs : List X) (y : X) → AllByRecursion P xs → find p xs ≡ Some y → P y
find-is p P [] y h e = absurd (cc e)
find-is p P (x ∷ xs) y h e =
    elim (p x)
    as (λ b. (if b then Some x else find p xs) ≡ Some y → P y)
    [ true ↦ λ k. let same : x ≡ y = cc k in subst P same h.0 | false ↦ λ k. find-is p P xs y h.1 k ]
    e
