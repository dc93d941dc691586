use Rattle.notebook.specs.Before.{left}
use Rattle.session_core.proofs.Basing.{walk-begin, walk-on}
use Rattle.session_core.proofs.job.base_of.Goals as goal

pub loop-cell-init : goal.loop-cell-init
loop-cell-init c = λ has. walk-begin (left c.args.cells) c.new-bindings.result c.new-bindings.ensures

pub loop-cell-preserved : goal.loop-cell-preserved
loop-cell-preserved c = λ has. walk-on (left c.args.cells) (left c.loop-cell.rest) (left c.in-Some.after) c.in-Some.cell.now c.loop-cell.bindings c.in_ok-bindings.bindings has (c.loop-cell.invariant has) c.in-Some.ensures c.in_ok-bindings.ensures
