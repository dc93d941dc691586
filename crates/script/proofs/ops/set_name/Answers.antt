use Rattle.std.proofs.Common.{ℕ, List, codes}
use Rattle.script.specs.Text.{IsText}
use Rattle.script.proofs.Operations.{known}
use Rattle.script.proofs.ops.set_name.Goals as goal

pub returns-in_default : goal.returns-in_default
returns-in_default c =
    let none : (text : List ℕ) → ¬ (IsText c.args.rest.now text) = rw c.in_default.is at c.in_ok-name.ensures in
    λ op is. none _ (known (codes "set_name") c.args.rest.now op is).1
