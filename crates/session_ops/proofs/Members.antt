-- Numbers that are in a list.
use Rattle.std.proofs.Common.{◌≡◌, ℕ, ◌==◌, Bool, true, false, if◌then◌else◌, List, [], ◌∷◌, ◌++◌, Some, refl, ap, subst}
use Rattle.std.specs.Prelude.{◌||◌, find, is_some}
use Rattle.std.specs.List.{list_any, list_all, AllByRecursion}
use Rattle.std.proofs.lemmas.Bool.{eqb-true, eq-eqb, and_from, or_left, or_right}
use Rattle.session_ops.specs.Numbers.{is_in}

pub in-here : (n : ℕ) (ns : List ℕ) → is_in n (n ∷ ns) ≡ true
in-here n ns = ap (λ b. if b then true else is_in n ns) (eq-eqb n n refl)

pub in-later : (n m : ℕ) (ns : List ℕ) → is_in n ns ≡ true → is_in n (m ∷ ns) ≡ true
in-later n m ns e = elim (m == n) as (λ b. (if b then true else is_in n ns) ≡ true) [ true ↦ refl | false ↦ e ]

-- a number in a list that has one at all
pub empty-from : (ns : List ℕ) → ((n : ℕ) → is_in n ns ≡ true → ⊥) → ns ≡ []
empty-from [] h = refl
empty-from (n ∷ ns) h = absurd (h n (in-here n ns))

-- it is the first, or one of the others
by-first : (P : ℕ → Type 0) (n m : ℕ) (ns : List ℕ) → is_in n (m ∷ ns) ≡ true → P m → (is_in n ns ≡ true → P n) → P n
by-first P n m ns e here there =
    elim (m == n)
    as (λ b. (m == n) ≡ b → (if b then true else is_in n ns) ≡ true → P n)
    [ true ↦ λ t k. subst P (eqb-true m n t) here | false ↦ λ t k. there k ]
    refl
    e

-- what all are, each is
pub in-all : (P : ℕ → Type 0) (ns : List ℕ) (n : ℕ) → AllByRecursion P ns → is_in n ns ≡ true → P n
in-all P [] n h e = absurd (cc e)
in-all P (m ∷ ns) n h e = by-first P n m ns e h.0 (λ k. in-all P ns n h.1 k)

pub in-any : (p : ℕ → Bool) (ns : List ℕ) (n : ℕ) → is_in n ns ≡ true → p n ≡ true → list_any p ns ≡ true
in-any p [] n e t = absurd (cc e)
in-any p (m ∷ ns) n e t = by-first (λ k. p k ≡ true → list_any p (m ∷ ns) ≡ true) n m ns e (λ k. or_left (p m) (list_any p ns) k) (λ k j. or_right (p m) (list_any p ns) (in-any p ns n k j)) t

pub in-found : (p : ℕ → Bool) (ns : List ℕ) (n : ℕ) → is_in n ns ≡ true → p n ≡ true → is_some (find p ns) ≡ true
in-found p [] n e t = absurd (cc e)
in-found p (m ∷ ns) n e t =
    elim (p m)
    as (λ b. p m ≡ b → is_some (if b then Some m else find p ns) ≡ true) [
      | true ↦ λ k. refl
      | false ↦ λ k. by-first (λ j. p j ≡ true → is_some (find p ns) ≡ true) n m ns e (λ j. absurd (cc (j, k))) (λ i j. in-found p ns n i j) t
    ]
    refl

pub all-from : (p : ℕ → Bool) (ns : List ℕ) → ((n : ℕ) → is_in n ns ≡ true → p n ≡ true) → list_all p ns ≡ true
all-from p [] h = refl
all-from p (m ∷ ns) h = and_from (p m) (list_all p ns) (h m (in-here m ns)) (all-from p ns (λ n e. h n (in-later n m ns e)))

-- one of the numbers passes
pub record HasOne (p : ℕ → Bool) (ns : List ℕ) : Type 0 where
  pub one : ℕ
  pub within : is_in one ns ≡ true
  pub passes : p one ≡ true

pub one-from-any : (p : ℕ → Bool) (ns : List ℕ) → list_any p ns ≡ true → HasOne p ns
one-from-any p [] e = absurd (cc e)
one-from-any p (m ∷ ns) e =
    elim (p m)
    as (λ b. p m ≡ b → (b || list_any p ns) ≡ true → HasOne p (m ∷ ns)) [
      | true ↦ λ t k. record { one = m; within = in-here m ns; passes = t }
      | false ↦ λ t k. let o : HasOne p ns = one-from-any p ns k in record { one = o.one; within = in-later o.one m ns o.within; passes = o.passes }
    ]
    refl
    e

pub in-append : (n : ℕ) (ms ns : List ℕ) → is_in n (ms ++ ns) ≡ (is_in n ms || is_in n ns)
in-append n [] ns = refl
in-append n (m ∷ ms) ns =
    elim (m == n)
    as (λ b. (if b then true else is_in n (ms ++ ns)) ≡ ((if b then true else is_in n ms) || is_in n ns))
    [ true ↦ refl | false ↦ in-append n ms ns ]
