use Rattle.std.proofs.Common.{sym, subst}
use Rattle.session_ops.specs.Snapshot.{HasRevisions}
use Rattle.client_sync.specs.Client.{delivered}
use Rattle.client_sync.proofs.client.Client.revs.Goals as goal

pub returns : goal.returns
returns c = λ n0 m is. subst (HasRevisions (delivered n0 m)) (sym c.as_slice.ensures) is.revs
