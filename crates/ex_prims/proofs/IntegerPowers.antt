-- Powers that are too wide.
use Rattle.std.proofs.Common.{◌≡◌, ℕ, zero, suc, ◌+◌, ◌<◌, ◌≤◌, ◌%◌, ◌^◌, ◌==◌, Bool, true, false, cond, if◌then◌else◌, ℤ, pos, negsuc, neg_ℤ, refl, sym, ap, ◌∙◌, arith}
use Rattle.std.specs.Int.{int_pow}
use Rattle.std.proofs.Math.Nat.{pow-le-pow_left}
use Rattle.std.proofs.lemmas.Nat.{pow_below}
use Rattle.std.proofs.lemmas.Bool.Decides.{nat_tests}
use Rattle.ex_terms.specs.declared.values.Value.TheVariants.{Int}
use Rattle.ex_faults.specs.declared.fault.Fault.TheVariants.{IntegerTooWide}
use Rattle.ex_prims.specs.Answers.{Gives, Refuses}
use Rattle.ex_prims.specs.Integers.{is_in_range, in_range}

not-in-range : (z : ℤ) → is_in_range z ≡ false → in_range z ≡ Refuses IntegerTooWide
not-in-range z e = ap (λ b. if b then Gives (Int z) else Refuses IntegerTooWide) e

wide-above : (m : ℕ) → 2 ^ 127 < m → in_range (pos m) ≡ Refuses IntegerTooWide
wide-above m h = not-in-range (pos m) (grind (arith, nat_tests, h))

wide-below : (m : ℕ) → 2 ^ 127 < m → in_range (neg_ℤ (pos m)) ≡ Refuses IntegerTooWide
wide-below zero h = absurd (omega arith)
wide-below (suc k) h = not-in-range (negsuc k) (grind (arith, nat_tests, h))

wide-either : (b : Bool) (m : ℕ) → 2 ^ 127 < m → in_range (cond b (pos m) (neg_ℤ (pos m))) ≡ Refuses IntegerTooWide
wide-either true m h = wide-above m h
wide-either false m h = wide-below m h

large : (a e : ℕ) → 128 ≤ e → 2 ^ 127 < suc (suc a) ^ e
large a e h = omega (arith, pow_below 127 e (omega (arith, h)), pow-le-pow_left {n = 2} {m = suc (suc a)} (omega arith) e)

power-of-one : (e : ℕ) → 1 ^ e ≡ 1
power-of-one zero = refl
power-of-one (suc e) = omega (arith, power-of-one e)

power-of-zero : (e : ℕ) → 0 < e → 0 ^ e ≡ 0
power-of-zero zero h = absurd (omega arith)
power-of-zero (suc e) h = omega arith

same-parity : (n : ℕ) → (128 + n % 2) % 2 ≡ n % 2
same-parity n = omega arith

-- an exponent from 128 on
pub as-short : (n : ℕ) → 128 ≤ n → (base : ℤ) → in_range (int_pow base (128 + n % 2)) ≡ in_range (int_pow base n)
as-short n h (pos zero) = ap (λ k. in_range (pos k)) (power-of-zero (128 + n % 2) (omega arith) ∙ sym (power-of-zero n (omega (arith, h))))
as-short n h (pos (suc zero)) = ap (λ k. in_range (pos k)) (power-of-one (128 + n % 2) ∙ sym (power-of-one n))
as-short n h (pos (suc (suc a))) = wide-above (suc (suc a) ^ (128 + n % 2)) (large a (128 + n % 2) (omega arith)) ∙ sym (wide-above (suc (suc a) ^ n) (large a n h))
as-short n h (negsuc zero) =
    ap (λ k. in_range (cond (k == 0) (pos (1 ^ (128 + n % 2))) (neg_ℤ (pos (1 ^ (128 + n % 2)))))) (same-parity n)
    ∙ ap (λ k. in_range (cond (n % 2 == 0) (pos k) (neg_ℤ (pos k)))) (power-of-one (128 + n % 2) ∙ sym (power-of-one n))
as-short n h (negsuc (suc a)) =
    wide-either ((128 + n % 2) % 2 == 0) (suc (suc a) ^ (128 + n % 2)) (large a (128 + n % 2) (omega arith))
    ∙ sym (wide-either (n % 2 == 0) (suc (suc a) ^ n) (large a n h))
