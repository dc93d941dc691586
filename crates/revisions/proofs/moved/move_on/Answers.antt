use Rattle.std.proofs.Common.{◌≡◌, ◌<◌, ◌∙◌, sym, ap, subst, rules, drop, Some}
use Rattle.std.specs.Prelude.{IsTrue}
use Rattle.utf16_text.specs.Units.{unit_count}
use Rattle.delta.specs.Steps.{reach_of}
use Rattle.delta.specs.Moves.{over}
use Rattle.delta_laws.specs.Ends.{ends_felt}
use Rattle.delta_laws.specs.Misfits.{Past}
use Rattle.delta_laws.proofs.Misfits.{misfit-past}
use Rattle.revisions.specs.Kept.{deltas_of}
use Rattle.revisions.proofs.Chains.{past-over}
use Rattle.revisions.proofs.moved.move_on.Goals as goal

pub returns-then-reaches_past_len : goal.returns-then-reaches_past_len
returns-then-reaches_past_len c = λ t lens leads.
    let x = over c.args.delta.now (deltas_of (drop c.args.from c.args.kept.now)) in
    let text = c.args.text.now in
    let len : c.len_at-len.result ≡ unit_count t = c.len_at-len.ensures t lens leads in
    let lt : c.len_at-len.result < reach_of c.args.delta.now = search rules in
    let felt : IsTrue (ends_felt c.args.delta.now) = search rules in
    let past : unit_count text < reach_of x = past-over (deltas_of (drop c.args.from c.args.kept.now)) c.args.delta.now t text leads felt (subst (λ k. k < reach_of c.args.delta.now) len lt) in
    misfit-past x text past ∙ ap (λ n. Some (Past n)) (sym (c.unit_len.ensures ∙ ap unit_count c.as_str.ensures.characters))
