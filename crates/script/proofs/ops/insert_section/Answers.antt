use Rattle.std.proofs.Common.{ℕ, List, None, codes}
use Rattle.script.specs.Text.{IsText}
use Rattle.script.specs.Ops.{IsNumberAnd}
use Rattle.script.specs.Next.{Tells}
use Rattle.script.proofs.Operations.{known}
use Rattle.script.proofs.ops.insert_section.Goals as goal

pub returns-in_default : goal.returns-in_default
returns-in_default c =
    let none : Tells (λ (found : ℕ × List ℕ). IsNumberAnd c.args.rest.now found.0 (λ rest. IsText rest found.1)) None = rw c.in_default.is at c.in_ok-index.ensures in
    λ op is. none (_, _) (known (codes "insert_section") c.args.rest.now op is).1
