-- A text so many times.
use Rattle.std.proofs.Common.{◌≡◌, ℕ, zero, suc, ◌+◌, ◌*◌, ◌/◌, ◌<◌, List, [], length, length-append, refl, ap, arith, Err}
use Rattle.std.proofs.Math.Nat.{suc-mul}
use Rattle.std.specs.List.{repeat}
use Rattle.ex_terms.specs.Sizes.{size_of, capped}
use Rattle.ex_terms.specs.Terms.{AText}
use Rattle.ex_terms.specs.declared.values.Value.TheVariants.{Str}
use Rattle.ex_prims.specs.declared.refused.Refused.{Refused}
use Rattle.ex_prims.specs.declared.refused.Refused.TheVariants as R
use Rattle.ex_prims.specs.declared.limits.Limits.{Limits}
use Rattle.ex_prims.specs.Answers.{Gives}
use Rattle.ex_prims.specs.Bodies.{Covers, IsWithin}

pub length-copies : (n : ℕ) (s : List ℕ) → length (repeat n s) ≡ n * length s
length-copies zero s = omega arith
length-copies (suc n) s = omega (arith, length-append s (repeat n s), length-copies n s, suc-mul n (length s))

pub none-copied : (n : ℕ) → repeat {A = ℕ} n [] ≡ []
none-copied zero = refl
none-copied (suc n) = none-copied n

pub copied-size : (n : ℕ) (s : List ℕ) → size_of (AText (repeat n s)) ≡ 1 + n * length s / 16
copied-size n s = ap (λ k. 1 + k / 16) (length-copies n s)

-- where the size that is told is too dear, so is the text
pub too-dear : (n : ℕ) (s : List ℕ) (size operands left : ℕ) → size ≡ capped (1 + n * length s / 16) → left < operands + size → left < operands + size_of (AText (repeat n s))
too-dear n s size operands left told dear = omega (arith, told, dear, copied-size n s)

-- what a text owes where its size isn't paid
pub unpaid : (l : Limits) (size n : ℕ) (s : List ℕ) (e : Refused) → size ≡ capped (1 + n * length s / 16) → Covers l size (Err e) → IsWithin l (Err e) (Gives (Str (repeat n s)))
unpaid l size n s R.TooManySteps told h = (Str (repeat n s), refl, too-dear n s size l.operands l.left told h)
unpaid l size n s R.Wrong told h = absurd h
unpaid l size n s (R.Faulted f) told h = absurd h
unpaid l size n s R.TooMuchOutput told h = absurd h
unpaid l size n s R.OutOfMemory told h = absurd h
