-- The first element that passes.
use Rattle.std.proofs.Common.{◌≡◌, Bool, true, false, cond, List, [], ◌∷◌, ◌++◌, Some, None, find, refl, ap, ◌∙◌}

pub find-first : {X : Type 0} (p : X → Bool) (x : X) (xs : List X) → find p (x ∷ xs) ≡ None → p x ≡ false
find-first p x xs e = elim (p x) as (λ b. cond b (Some x) (find p xs) ≡ None → b ≡ false) [ true ↦ λ h. absurd (cc h) | false ↦ λ h. refl ] e

pub find-rest : {X : Type 0} (p : X → Bool) (x : X) (xs : List X) → find p (x ∷ xs) ≡ None → find p xs ≡ None
find-rest p x xs e = elim (p x) as (λ b. cond b (Some x) (find p xs) ≡ None → find p xs ≡ None) [ true ↦ λ h. absurd (cc h) | false ↦ λ h. h ] e

pub find-past : {X : Type 0} (p : X → Bool) (xs ys : List X) → find p xs ≡ None → find p (xs ++ ys) ≡ find p ys
find-past p [] ys e = refl
find-past p (x ∷ xs) ys e = ap (λ b. cond b (Some x) (find p (xs ++ ys))) (find-first p x xs e) ∙ find-past p xs ys (find-rest p x xs e)
