use Rattle.client_sync.proofs.Going.{forgotten-none, forgotten-turn, forgotten-all}
use Rattle.client_sync.proofs.client.Client.forget_all.Goals as goal

pub loop-cell-init : goal.loop-cell-init
loop-cell-init c = forgotten-none c.args.self.now

pub loop-cell-preserved : goal.loop-cell-preserved
loop-cell-preserved c = forgotten-turn c.args.self.now c.loop-cell.self c.forget.new.self c.args.cells.now c.loop-cell.cell-index c.loop-cell-test.true c.loop-cell.invariant c.forget.ensures

pub returns : goal.returns
returns c = forgotten-all c.args.self.now c.loop-cell.self c.args.cells.now c.loop-cell.cell-index c.loop-cell-test.false c.loop-cell.invariant
