use Rattle.std.proofs.Common.{subst, sym}
use Rattle.script.specs.Number.{IsNumber}
use Rattle.script.specs.Ops.{IsNumberAnd}
use Rattle.script.proofs.ops.three_numbers.Goals as goal

pub returns-in_err-second : goal.returns-in_err-second
returns-in_err-second c = rw c.from_residual-in_err-second.ensures (λ found is. c.in_err-second.ensures (found.1, found.2) (subst (λ r. IsNumberAnd r found.1 (λ rest. IsNumber rest found.2)) (sym c.in_ok-first.ensures.1) is.1))
