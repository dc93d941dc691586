use Rattle.std.proofs.Common.{ℕ, List, subst, sym}
use Rattle.script.specs.Text.{IsText}
use Rattle.script.proofs.ops.number_and_text.Goals as goal

pub returns-in_default-2 : goal.returns-in_default-2
returns-in_default-2 c =
    let none : (text : List ℕ) → ¬ (IsText c.in-Some.rest.now text) = rw c.in_default-2.is at c.in_ok-written.ensures in
    λ found is. none found.1 (subst (λ r. IsText r found.1) (sym c.in-Some.ensures.1) is.1)
