use Rattle.std.proofs.Common.{codes}
use Rattle.script.proofs.Operations.{known}
use Rattle.script.proofs.ops.move_cell.Goals as goal

pub returns-in_err-cell : goal.returns-in_err-cell
returns-in_err-cell c = rw c.from_residual.ensures (λ op is. c.in_err-cell.ensures (_, _, _) (known (codes "move_cell") c.args.rest.now op is).1)
