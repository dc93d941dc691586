use Rattle.std.proofs.Common.{codes}
use Rattle.script.proofs.Operations.{known}
use Rattle.script.proofs.ops.move_section.Goals as goal

pub returns-in_err-section : goal.returns-in_err-section
returns-in_err-section c = rw c.from_residual.ensures (λ op is. c.in_err-section.ensures (_, _) (known (codes "move_section") c.args.rest.now op is).1)
