use Rattle.client_sync.proofs.Viewing.{pending-known, pending-unknown}
use Rattle.client_sync.proofs.client.Client.pending.Goals as goal

pub returns-in_err-find : goal.returns-in_err-find
returns-in_err-find c = λ n0 m is. pending-unknown n0 c.args.self.now m c.args.cell c.from_residual.result is c.in_err-find.ensures c.from_residual.ensures

pub returns : goal.returns
returns c = λ n0 m is. pending-known n0 c.args.self.now m c.args.cell c.in_ok-find.field-0.now c.pending_edits.result is c.in_ok-find.ensures (c.pending_edits.ensures is.nothing)
