-- What is charged, by sizes of 64 bits.
use Rattle.std.proofs.Common.{◌≡◌, ◌≤◌, ◌<◌, ◌+◌, ◌^◌, ◌∙◌, ℕ, nat_le, if◌then◌else◌, List, [], ◌∷◌, length, Result, Ok, Err, refl, sym, ap, arith}
use Rattle.ex_terms.specs.declared.values.Value.{Value}
use Rattle.ex_terms.specs.Terms.{Term, AnInteger, AnAtom, AText, ATuple, AList}
use Rattle.ex_terms.specs.Seen.{term_of, terms_of}
use Rattle.ex_terms.specs.Sizes.{size_of, sizes_of, capped}
use Rattle.ex_faults.specs.declared.fault.Fault.{Fault}
use Rattle.ex_faults.specs.declared.fault.Fault.TheVariants.{UnknownFunction, TooManySteps}
use Rattle.ex_prims.specs.declared.calls.Called.{Called}
use Rattle.ex_prims.specs.Calls.{charge_of, charged, answered}
use Rattle.ex_prims.specs.Bodies.{IsRefusedWithout}

-- each value has a unit
pub has_unit : (t : Term) → 1 ≤ size_of t
has_unit (AnInteger z) = omega arith
has_unit (AnAtom t) = omega arith
has_unit (AText t) = omega arith
has_unit (ATuple ts) = omega arith
has_unit (AList ts) = omega arith

have_unit : (args : List Value) → 1 ≤ length args → 1 ≤ sizes_of (terms_of args)
have_unit [] h = omega arith
have_unit (v ∷ vs) h = let one : 1 ≤ size_of (term_of v) = has_unit (term_of v) in omega arith

-- sizes that add up in 64 bits are whole
whole : (m n k : ℕ) → 1 ≤ m → 1 ≤ n → capped m + capped n ≡ k → k < 2 ^ 64 → m + n ≡ k
whole m n k a b e f = grind arith

-- a test that holds
by_test : {X : Type 0} (n left : ℕ) (x y : X) → n ≤ left → (if nat_le n left then x else y) ≡ x
by_test n left x y h = grind arith

-- a value with its charge
abbrev charged_at : Value → List ℕ → ℕ → Result Called Fault
charged_at v text n = Ok (record { value = v; printed = text; charge = n })

-- what is charged where the sizes add up to a number
pub is_charged : (args : List Value) (left operands size k : ℕ) (text : List ℕ) (v : Value) → operands ≡ capped (sizes_of (terms_of args)) → size ≡ capped (size_of (term_of v)) → 1 ≤ length args
    → operands + size ≡ k → k < 2 ^ 64 → k ≤ left → charged args left text v ≡ Ok (record { value = v; printed = text; charge = k })
is_charged args left operands size k text v o s h e f le =
    let sum : charge_of args v ≡ k = whole (sizes_of (terms_of args)) (size_of (term_of v)) k (have_unit args h) (has_unit (term_of v)) (ap (λ x. capped (sizes_of (terms_of args)) + x) (sym s) ∙ ap (λ x. x + size) (sym o) ∙ e) f in
    ap (λ (n : ℕ). if nat_le n left then charged_at v text n else Err TooManySteps) sum ∙ by_test k left _ _ le

-- a call without arguments gives no value
pub refused_without : (name : List ℕ) (args : List Value) → IsRefusedWithout args (answered name args)
refused_without name [] = (UnknownFunction name 0, refl)
refused_without name (v ∷ vs) = tt
