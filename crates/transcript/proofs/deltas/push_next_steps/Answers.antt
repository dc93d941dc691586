use Rattle.std.proofs.Common.{◌≡◌, ◌∷◌, ◌+◌, ◌++◌, ◌∙◌, ap, ℕ, List, drop, string_bytes}
use Rattle.delta.specs.declared.Step.{Step}
use Rattle.transcript.specs.Deltas.{step_text}
use Rattle.transcript.proofs.Revisions.{drop-at}
use Rattle.transcript.proofs.Steps.{steps_turn}
use Rattle.transcript.proofs.deltas.push_next_steps.Goals as goal

pub loop-step-preserved : goal.loop-step-preserved
loop-step-preserved c =
    let steps : List Step = c.args.steps.now in
    let x : Step = c.step-item.result in
    let front : drop c.loop-step.step-index steps ≡ x ∷ drop (c.loop-step.step-index + 1) steps = drop-at steps c.loop-step.step-index x c.loop-step-test.true c.step-item.is in
    let put = c.in_ok-push_step.ensures ∙ ap (λ (t : List ℕ). t ++ step_text x) c.in_ok-push_plain.ensures in
    steps_turn (drop c.loop-step.step-index steps) (drop (c.loop-step.step-index + 1) steps) x (string_bytes c.loop-step.out) _ _ front put c.loop-step.invariant
