use Rattle.std.proofs.Common.{◌≡◌}
use Rattle.session_ops.specs.Snapshot.{live_revision}
use Rattle.session_core.proofs.Seen.{told-seen}
use Rattle.session_core.proofs.session.Session.rev.Goals as goal

pub returns : goal.returns
returns c = told-seen (λ st. c.rev.result ≡ live_revision st c.args.cell) c.self.inside.opening.value c.self.inside.held c.args.self.now c.self.view_is (c.rev.ensures c.self.inside.opening.value c.self.invariant)
