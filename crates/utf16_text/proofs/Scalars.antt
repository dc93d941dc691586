-- Lists of characters.
use Rattle.std.proofs.Common.{◌≡◌, ℕ, List, [], ◌∷◌, ◌++◌, Bool, true, false, cond, ◌&&◌, refl, ap, ◌∙◌}
use Rattle.std.proofs.Math.Utf8.{scalar, scalars}
use Rattle.std.proofs.lemmas.Str.{scalars-chars}
use Rattle.std.specs.Prelude.{nat_lt, nat_le, ◌||◌}
use Rattle.std.specs.Str.{chars, IsUtf8}
use Rattle.utf16_text.specs.Units.{is_scalar, are_scalars, AreScalars}

and_left : (a b : Bool) → (a && b) ≡ true → a ≡ true
and_left true b e = refl
and_left false b e = e

and_right : (a b : Bool) → (a && b) ≡ true → b ≡ true
and_right true b e = e
and_right false b e = cc

both : (a b : Bool) → a ≡ true → b ≡ true → (a && b) ≡ true
both a b p q = rw (p, q) refl

-- std's words for the same
or_is : (a b : Bool) → (a || b) ≡ cond a true b
or_is true b = refl
or_is false b = refl

pub is_scalar-is : (c : ℕ) → is_scalar c ≡ scalar c
is_scalar-is c = or_is (nat_lt c 0xD800) (nat_le 0xE000 c && nat_lt c 0x11_0000)

pub are_scalars-is : (cs : List ℕ) → are_scalars cs ≡ scalars cs
are_scalars-is [] = refl
are_scalars-is (c ∷ cs) = rw is_scalar-is (ap (λ b. scalar c && b) (are_scalars-is cs))

pub chars-AreScalars : (bs : List ℕ) → IsUtf8 bs → AreScalars (chars bs)
chars-AreScalars bs h = are_scalars-is (chars bs) ∙ scalars-chars bs h

pub AreScalars-cons : (c : ℕ) (cs : List ℕ) → is_scalar c ≡ true → AreScalars cs → AreScalars (c ∷ cs)
AreScalars-cons c cs p q = both (is_scalar c) (are_scalars cs) p q

pub AreScalars-head : (c : ℕ) (cs : List ℕ) → AreScalars (c ∷ cs) → is_scalar c ≡ true
AreScalars-head c cs h = and_left (is_scalar c) (are_scalars cs) h

pub AreScalars-tail : (c : ℕ) (cs : List ℕ) → AreScalars (c ∷ cs) → AreScalars cs
AreScalars-tail c cs h = and_right (is_scalar c) (are_scalars cs) h

pub AreScalars-front : (xs ys : List ℕ) → AreScalars (xs ++ ys) → AreScalars xs
AreScalars-front [] ys h = refl
AreScalars-front (x ∷ xs) ys h = AreScalars-cons x xs (AreScalars-head x (xs ++ ys) h) (AreScalars-front xs ys (AreScalars-tail x (xs ++ ys) h))

pub AreScalars-back : (xs ys : List ℕ) → AreScalars (xs ++ ys) → AreScalars ys
AreScalars-back [] ys h = h
AreScalars-back (x ∷ xs) ys h = AreScalars-back xs ys (AreScalars-tail x (xs ++ ys) h)

pub AreScalars-append : (xs ys : List ℕ) → AreScalars xs → AreScalars ys → AreScalars (xs ++ ys)
AreScalars-append [] ys p q = q
AreScalars-append (x ∷ xs) ys p q = AreScalars-cons x (xs ++ ys) (AreScalars-head x xs p) (AreScalars-append xs ys (AreScalars-tail x xs p) q)

-- one of them
pub AreScalars-at : (cs xs : List ℕ) (x : ℕ) (ys : List ℕ) → cs ≡ xs ++ x ∷ ys → AreScalars cs → is_scalar x ≡ true
AreScalars-at cs xs x ys e h = AreScalars-head x ys (AreScalars-back xs (x ∷ ys) (rw e at h))
