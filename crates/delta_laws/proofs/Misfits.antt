-- A delta fits a text exactly where nothing keeps it from it.
use Rattle.std.proofs.Common.{◌≡◌, ℕ, ◌<◌, ◌≤◌, true, false, if◌then◌else◌, List, Option, Some, None, refl, ap, ◌∙◌, arith}
use Rattle.std.specs.Prelude.{nat_le}
use Rattle.std.proofs.lemmas.Bool.Decides.{nat_tests}
use Rattle.utf16_text.specs.Units.{unit_count}
use Rattle.delta.specs.declared.Step.{Step}
use Rattle.delta.specs.Steps.{reach_of, broken_cut}
use Rattle.delta.specs.Moves.{FitsText}
use Rattle.delta_laws.specs.Misfits.{Past, Splits, misfit, split_misfit}

split-none : (o : Option ℕ) → split_misfit o ≡ None → o ≡ None
split-none None e = refl
split-none (Some at) e = absurd (cc e)

pub fits-from : (d : List Step) (t : List ℕ) → misfit d t ≡ None → FitsText d t
fits-from d t e =
    elim (nat_le (reach_of d) (unit_count t))
    as (λ b. nat_le (reach_of d) (unit_count t) ≡ b → (if b then split_misfit (broken_cut d t) else Some (Past (unit_count t))) ≡ None → FitsText d t)
    [ true ↦ λ le k. record { within = grind (arith, nat_tests, le); whole = split-none (broken_cut d t) k } | false ↦ λ le k. absurd (cc k) ]
    refl
    e

pub misfit-none : (d : List Step) (t : List ℕ) → FitsText d t → misfit d t ≡ None
misfit-none d t f =
    ap (λ b. if b then split_misfit (broken_cut d t) else Some (Past (unit_count t))) {y = true} (grind (arith, nat_tests, f.within)) ∙ ap split_misfit f.whole

-- one that reaches past the text is told its length
pub misfit-past : (d : List Step) (t : List ℕ) → unit_count t < reach_of d → misfit d t ≡ Some (Past (unit_count t))
misfit-past d t lt =
    ap (λ b. if b then split_misfit (broken_cut d t) else Some (Past (unit_count t))) {y = false} (grind (arith, nat_tests, lt))

-- one that doesn't is told the first cut inside a character
pub misfit-splits : (d : List Step) (t : List ℕ) (at : ℕ) → reach_of d ≤ unit_count t → broken_cut d t ≡ Some at → misfit d t ≡ Some (Splits at)
misfit-splits d t at le e =
    ap (λ b. if b then split_misfit (broken_cut d t) else Some (Past (unit_count t))) {y = true} (grind (arith, nat_tests, le)) ∙ ap split_misfit e
