use Rattle.std.proofs.Common.{ap, ◌∙◌}
use Rattle.session_ops.specs.Snapshot.{listed_revision}
use Rattle.client_sync.proofs.client.Client.rev.Goals as goal

pub returns : goal.returns
returns c = λ n0 m is. c.rev_in.ensures ∙ (ap (listed_revision c.args.cell) c.as_slice.ensures ∙ is.revs.each c.args.cell)
