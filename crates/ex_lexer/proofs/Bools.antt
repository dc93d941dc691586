-- Tests, and the facts that they tell.
use Rattle.std.proofs.Common.{◌≡◌, ℕ, ◌<◌, ◌≤◌, ◌==◌, ◌&&◌, nat_lt, Bool, true, false, if◌then◌else◌, refl, arith}
use Rattle.std.proofs.lemmas.Bool.Decides.{nat_tests}

pub and_left : (a b : Bool) → (a && b) ≡ true → a ≡ true
and_left true b h = refl
and_left false b h = cc

pub and_right : (a b : Bool) → (a && b) ≡ true → b ≡ true
and_right true b h = h
and_right false b h = cc

pub not_true : (v : Bool) → (v ≡ true → ⊥) → v ≡ false
not_true true h = absurd (h refl)
not_true false h = refl

pub not_both : (v : Bool) → v ≡ true → v ≡ false → ⊥
not_both true h k = cc
not_both false h k = cc

pub same : (b k : ℕ) → (b == k) ≡ true → b ≡ k
same b k h = grind (arith, nat_tests)

pub small : (n k : ℕ) → n < k → nat_lt n k ≡ true
small n k h = grind (arith, nat_tests)

pub less : (n k : ℕ) → nat_lt n k ≡ true → n < k
less n k h = grind (arith, nat_tests)

pub large : (n k : ℕ) → k ≤ n → nat_lt n k ≡ false
large n k h = grind (arith, nat_tests)

pub not_less : (n k : ℕ) → nat_lt n k ≡ false → k ≤ n
not_less n k h = grind (arith, nat_tests)

-- by cases on a test, with what it tells
pub chosen : {A : Type 0} (t : Bool) → (t ≡ true → A) → (t ≡ false → A) → A
chosen true f g = f refl
chosen false f g = g refl

pub if_true : {A : Type 0} (t : Bool) (x y : A) → t ≡ true → (if t then x else y) ≡ x
if_true true x y h = refl
if_true false x y h = cc

pub if_false : {A : Type 0} (t : Bool) (x y : A) → t ≡ false → (if t then x else y) ≡ y
if_false true x y h = cc
if_false false x y h = refl
