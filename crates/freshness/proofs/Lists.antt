-- The first element that passes.
use Rattle.std.proofs.Common.{◌≡◌, ℕ, ◌+◌, ◌<◌, Bool, true, false, cond, List, [], ◌∷◌, ◌++◌, Some, None, length, take, drop, get_or, set, find, refl, sym, ap, ◌∙◌, arith}
use Rattle.std.specs.Prelude.{slice_get, slice_set}
use Rattle.std.proofs.lemmas.List.{take_more, length-take-le}
use Rattle.std.proofs.Math.Seq.{set-append_seam}
use Rattle.notebook.proofs.Finding.{cut_here}
use Rattle.freshness.specs.Places.{IsFirst}

pub find-first : {X : Type 0} (p : X → Bool) (x : X) (xs : List X) → find p (x ∷ xs) ≡ None → p x ≡ false
find-first p x xs e = elim (p x) as (λ b. cond b (Some x) (find p xs) ≡ None → b ≡ false) [ true ↦ λ h. absurd (cc h) | false ↦ λ h. refl ] e

pub find-rest : {X : Type 0} (p : X → Bool) (x : X) (xs : List X) → find p (x ∷ xs) ≡ None → find p xs ≡ None
find-rest p x xs e = elim (p x) as (λ b. cond b (Some x) (find p xs) ≡ None → find p xs ≡ None) [ true ↦ λ h. absurd (cc h) | false ↦ λ h. h ] e

pub find-past : {X : Type 0} (p : X → Bool) (xs ys : List X) → find p xs ≡ None → find p (xs ++ ys) ≡ find p ys
find-past p [] ys e = refl
find-past p (x ∷ xs) ys e = ap (λ b. cond b (Some x) (find p (xs ++ ys))) (find-first p x xs e) ∙ find-past p xs ys (find-rest p x xs e)

-- an element that doesn't pass is looked past
pub find-over : {X : Type 0} (p : X → Bool) (front back : List X) (x : X) → p x ≡ false → find p (front ++ x ∷ back) ≡ find p (front ++ back)
find-over p [] back x e = ap (λ b. cond b (Some x) (find p back)) e
find-over p (y ∷ front) back x e = ap (λ o. cond (p y) (Some y) o) (find-over p front back x e)

get-seam : {X : Type 0} (front back : List X) (m : X) → slice_get (front ++ m ∷ back) (length front) ≡ Some m
get-seam [] back m = refl
get-seam (x ∷ front) back m = get-seam front back m

-- the first that passes
pub first-made : {X : Type 0} (p : X → Bool) (xs : List X) (at : ℕ) (x : X) → at < length xs → x ≡ get_or xs at x → find p (take at xs) ≡ None → p x ≡ true → IsFirst p xs at
first-made p xs at x within is none passes = record {
  front = take at xs;
  item = x;
  back = drop (at + 1) xs;
  parts = cut_here xs at x within is;
  none = none;
  here = passes;
  place = sym (length-take-le at xs (omega arith));
}

pub first-more : {X : Type 0} (p : X → Bool) (xs : List X) (at : ℕ) (x : X) → at < length xs → x ≡ get_or xs at x → find p (take at xs) ≡ None → p x ≡ false → find p (take (at + 1) xs) ≡ None
first-more p xs at x within is none other =
    let e : take (at + 1) xs ≡ take at xs ++ x ∷ [] = take_more xs at x within ∙ ap (λ y. take at xs ++ y ∷ []) (sym is) in
    rw e (find-past p (take at xs) (x ∷ []) none ∙ ap (λ b. cond b (Some x) None) other)

pub first-item : {X : Type 0} (p : X → Bool) (xs : List X) (at : ℕ) (x : X) (t : IsFirst p xs at) → slice_get xs at ≡ Some x → x ≡ t.item
first-item p xs at x t e =
    let there : slice_get xs at ≡ Some t.item = ap (λ ys. slice_get ys at) t.parts ∙ (ap (slice_get (t.front ++ t.item ∷ t.back)) t.place ∙ get-seam t.front t.back t.item) in
    let both : Some x ≡ Some t.item = sym e ∙ there in
    cc both

pub first-found : {X : Type 0} (p : X → Bool) (xs : List X) (at : ℕ) (t : IsFirst p xs at) → find p xs ≡ Some t.item
first-found p xs at t = ap (find p) t.parts ∙ (find-past p t.front (t.item ∷ t.back) t.none ∙ ap (λ b. cond b (Some t.item) (find p t.back)) t.here)

pub first-set : {X : Type 0} (p : X → Bool) (xs : List X) (at : ℕ) (y : X) (t : IsFirst p xs at) → slice_set xs at y ≡ t.front ++ y ∷ t.back
first-set p xs at y t = ap (λ zs. slice_set zs at y) t.parts ∙ (ap (λ k. set (t.front ++ t.item ∷ t.back) k y) t.place ∙ set-append_seam t.front t.item t.back y)
