use Rattle.std.proofs.Common.{take}
use Rattle.client_sync.specs.Going.{HasForgotten}
use Rattle.client_sync.proofs.client.Client.forget_all.Given as goal

-- what was pending for the cells that were passed is dropped
abbrev pub invariant-loop-cell : goal.invariant-loop-cell
invariant-loop-cell l = HasForgotten l.fn.self l.self (take l.cell-index l.cells)
