-- The first element that passes, and loops that write one element after the other.
use Rattle.std.proofs.Common.{◌≡◌, ℕ, ◌+◌, ◌<◌, ◌≤◌, Bool, true, false, cond, List, [], ◌∷◌, ◌++◌, Some, None, length, take, drop, get_or, set, map, filter, find, refl, sym, ap, ◌∙◌, arith, zero, suc}
use Rattle.std.specs.Prelude.{slice_get, slice_set}
use Rattle.std.specs.List.{remove}
use Rattle.std.proofs.lemmas.List.{take_more, length-take-le}
use Rattle.std.proofs.lemmas.List.Elements.{filter-append}
use Rattle.std.proofs.Math.Seq.{set-append_seam}
use Rattle.std.proofs.lemmas.Option.{get_or_from_slice_get}
use Rattle.notebook.proofs.Finding.{cut_here}
use Rattle.lanes.specs.Places.{IsFirst}

pub find-first : {X : Type 0} (p : X → Bool) (x : X) (xs : List X) → find p (x ∷ xs) ≡ None → p x ≡ false
find-first p x xs e = elim (p x) as (λ b. cond b (Some x) (find p xs) ≡ None → b ≡ false) [ true ↦ λ h. absurd (cc h) | false ↦ λ h. refl ] e

pub find-rest : {X : Type 0} (p : X → Bool) (x : X) (xs : List X) → find p (x ∷ xs) ≡ None → find p xs ≡ None
find-rest p x xs e = elim (p x) as (λ b. cond b (Some x) (find p xs) ≡ None → find p xs ≡ None) [ true ↦ λ h. absurd (cc h) | false ↦ λ h. h ] e

pub find-past : {X : Type 0} (p : X → Bool) (xs ys : List X) → find p xs ≡ None → find p (xs ++ ys) ≡ find p ys
find-past p [] ys e = refl
find-past p (x ∷ xs) ys e = ap (λ b. cond b (Some x) (find p (xs ++ ys))) (find-first p x xs e) ∙ find-past p xs ys (find-rest p x xs e)

pub get-seam : {X : Type 0} (front back : List X) (m : X) → slice_get (front ++ m ∷ back) (length front) ≡ Some m
get-seam [] back m = refl
get-seam (x ∷ front) back m = get-seam front back m

remove-seam : {X : Type 0} (front back : List X) (m : X) → remove (front ++ m ∷ back) (length front) ≡ front ++ back
remove-seam [] back m = refl
remove-seam (x ∷ front) back m = ap (λ zs. x ∷ zs) (remove-seam front back m)

-- the first that passes
pub first-made : {X : Type 0} (p : X → Bool) (xs : List X) (at : ℕ) (x : X) → at < length xs → x ≡ get_or xs at x → find p (take at xs) ≡ None → p x ≡ true → IsFirst p xs at
first-made p xs at x within is none passes = record {
  front = take at xs;
  item = x;
  back = drop (at + 1) xs;
  parts = cut_here xs at x within is;
  none = none;
  here = passes;
  place = sym (length-take-le at xs (omega arith));
}

pub first-more : {X : Type 0} (p : X → Bool) (xs : List X) (at : ℕ) (x : X) → at < length xs → x ≡ get_or xs at x → find p (take at xs) ≡ None → p x ≡ false → find p (take (at + 1) xs) ≡ None
first-more p xs at x within is none other =
    let e : take (at + 1) xs ≡ take at xs ++ x ∷ [] = take_more xs at x within ∙ ap (λ y. take at xs ++ y ∷ []) (sym is) in
    rw e (find-past p (take at xs) (x ∷ []) none ∙ ap (λ b. cond b (Some x) None) other)

seam-within : {X : Type 0} (front back : List X) (m : X) → length front < length (front ++ m ∷ back)
seam-within [] back m = omega arith
seam-within (x ∷ front) back m = let h = seam-within front back m in omega (arith, h)

pub first-within : {X : Type 0} (p : X → Bool) (xs : List X) (at : ℕ) → IsFirst p xs at → at < length xs
first-within p xs at t = rw (t.parts, t.place) (seam-within t.front t.back t.item)

pub first-item : {X : Type 0} (p : X → Bool) (xs : List X) (at : ℕ) (x : X) (t : IsFirst p xs at) → slice_get xs at ≡ Some x → x ≡ t.item
first-item p xs at x t e =
    let there : slice_get xs at ≡ Some t.item = ap (λ ys. slice_get ys at) t.parts ∙ (ap (slice_get (t.front ++ t.item ∷ t.back)) t.place ∙ get-seam t.front t.back t.item) in
    let both : Some x ≡ Some t.item = sym e ∙ there in
    cc both

pub first-found : {X : Type 0} (p : X → Bool) (xs : List X) (at : ℕ) (t : IsFirst p xs at) → find p xs ≡ Some t.item
first-found p xs at t = ap (find p) t.parts ∙ (find-past p t.front (t.item ∷ t.back) t.none ∙ ap (λ b. cond b (Some t.item) (find p t.back)) t.here)

pub first-set : {X : Type 0} (p : X → Bool) (xs : List X) (at : ℕ) (y : X) (t : IsFirst p xs at) → slice_set xs at y ≡ t.front ++ y ∷ t.back
first-set p xs at y t = ap (λ zs. slice_set zs at y) t.parts ∙ (ap (λ k. set (t.front ++ t.item ∷ t.back) k y) t.place ∙ set-append_seam t.front t.item t.back y)

-- without the first that passes, and without all others of its kind
pub first-removed : {X : Type 0} (p q : X → Bool) (xs : List X) (at : ℕ) (t : IsFirst p xs at) → q t.item ≡ false → filter q (remove xs at) ≡ filter q xs
first-removed p q xs at t e =
    let removed : remove xs at ≡ t.front ++ t.back = ap (λ zs. remove zs at) t.parts ∙ (ap (remove (t.front ++ t.item ∷ t.back)) t.place ∙ remove-seam t.front t.back t.item) in
    let whole : filter q xs ≡ filter q t.front ++ filter q t.back =
    ap (filter q) t.parts ∙ (filter-append q t.front (t.item ∷ t.back) ∙ ap (λ b. filter q t.front ++ cond b (t.item ∷ filter q t.back) (filter q t.back)) e) in
    ap (filter q) removed ∙ (filter-append q t.front t.back ∙ sym whole)

-- the elements before a place mapped, and the others as they were
unfoldable pub half : {X : Type 0} → (X → X) → ℕ → List X → List X
half f zero xs = xs
half f (suc i) [] = []
half f (suc i) (x ∷ xs) = f x ∷ half f i xs

pub half-start : {X : Type 0} (f : X → X) (xs : List X) → xs ≡ half f 0 xs
unfolding half
half-start f xs = refl

pub half-length : {X : Type 0} (f : X → X) (i : ℕ) (xs : List X) → length (half f i xs) ≡ length xs
unfolding half
half-length f zero xs = refl
half-length f (suc i) [] = refl
half-length f (suc i) (x ∷ xs) = ap (λ k. suc k) (half-length f i xs)

half-suc : {X : Type 0} (f : X → X) (i : ℕ) (xs : List X) (x : X) → slice_get (half f i xs) i ≡ Some x → slice_set (half f i xs) i (f x) ≡ half f (suc i) xs
unfolding half
half-suc f zero [] x e = absurd (cc e)
half-suc f zero (y ∷ xs) x e = let same : y ≡ x = cc e in ap (λ z. f z ∷ xs) (sym same)
half-suc f (suc i) [] x e = absurd (cc e)
half-suc f (suc i) (y ∷ xs) x e = ap (λ zs. f y ∷ zs) (half-suc f i xs x e)

pub half-more : {X : Type 0} (f : X → X) (i : ℕ) (old new : List X) (x : X) → new ≡ half f i old → slice_get new i ≡ Some x → slice_set new i (f x) ≡ half f (i + 1) old
half-more f i old new x e at =
    let one : i + 1 ≡ suc i = omega arith in
    ap (λ zs. slice_set zs i (f x)) e ∙ (half-suc f i old x (ap (λ zs. slice_get zs i) (sym e) ∙ at) ∙ ap (λ k. half f k old) (sym one))

pub half-all : {X : Type 0} (f : X → X) (i : ℕ) (xs : List X) → length xs ≤ i → half f i xs ≡ map f xs
unfolding half
half-all f zero [] le = refl
half-all f zero (x ∷ xs) le = absurd (omega (arith, le))
half-all f (suc i) [] le = refl
half-all f (suc i) (x ∷ xs) le = ap (λ zs. f x ∷ zs) (half-all f i xs (omega (arith, le)))

-- the element at the place is as it was
pub half-here : {X : Type 0} (f : X → X) (i : ℕ) (xs : List X) → i < length xs → (x : X) × (slice_get (half f i xs) i ≡ Some x)
unfolding half
half-here f zero [] h = absurd (omega (arith, h))
half-here f zero (x ∷ xs) h = (x, refl)
half-here f (suc i) [] h = absurd (omega (arith, h))
half-here f (suc i) (x ∷ xs) h = half-here f i xs (omega (arith, h))

-- the element at a place
pub got : {X : Type 0} (xs : List X) (i : ℕ) (x y : X) → slice_get xs i ≡ Some x → y ≡ get_or xs i y → y ≡ x
got xs i x y e is = is ∙ get_or_from_slice_get xs i x y e

pub set-own : {X : Type 0} (xs : List X) (i : ℕ) (x : X) → slice_get xs i ≡ Some x → xs ≡ slice_set xs i x
set-own [] i x e = refl
set-own (y ∷ xs) zero x e = let same : y ≡ x = cc e in ap (λ z. z ∷ xs) same
set-own (y ∷ xs) (suc i) x e = ap (λ zs. y ∷ zs) (set-own xs i x e)
