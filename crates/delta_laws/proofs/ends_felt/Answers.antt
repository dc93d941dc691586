use Rattle.std.proofs.Common.{◌≡◌, ◌∙◌, ◌-◌, ap, sym, length, Some, None, arith}
use Rattle.std.specs.Prelude.{slice_get}
use Rattle.delta_laws.specs.Ends.{ends_felt}
use Rattle.delta_laws.proofs.PastEnds.{ends_felt-last, last_rules, no_last}
use Rattle.delta_laws.proofs.ends_felt.Goals as goal

pub returns-in-Some-clause-value : goal.returns-in-Some-clause-value
returns-in-Some-clause-value c =
    let last : slice_get c.args.delta.now (length c.args.delta.now - 1) ≡ Some c.in-Some.step.now = rw c.to_compact.ensures.steps at (sym c.in-Some.ensures.value) in
    c.is_felt.ensures.value ∙ sym (ends_felt-last c.args.delta.now c.in-Some.step.now last)

pub returns-in-Some-clause-some : goal.returns-in-Some-clause-some
returns-in-Some-clause-some c =
    let last : slice_get c.args.delta.now (length c.args.delta.now - 1) ≡ Some c.in-Some.step.now = rw c.to_compact.ensures.steps at (sym c.in-Some.ensures.value) in
    let rules = last_rules c.args.delta.now c.in-Some.step.now c.to_compact.ensures.canonical last in
    λ some. c.is_felt.ensures.some rules.0 rules.1

pub returns-in-None-clause-value : goal.returns-in-None-clause-value
returns-in-None-clause-value c =
    let none : slice_get c.args.delta.now (length c.args.delta.now - 1) ≡ None = rw c.to_compact.ensures.steps at (sym c.in-None.ensures.value) in
    ap ends_felt (sym (no_last c.args.delta.now none))

pub returns-in-None-clause-some : goal.returns-in-None-clause-some
returns-in-None-clause-some c =
    let none : slice_get c.args.delta.now (length c.args.delta.now - 1) ≡ None = rw c.to_compact.ensures.steps at (sym c.in-None.ensures.value) in
    let empty = ap length (no_last c.args.delta.now none) in
    λ some. absurd (omega arith)
