use Rattle.std.proofs.Common.{◌≡◌}
use Rattle.session_core.specs.Session.{status_of}
use Rattle.session_core.proofs.Seen.{told-seen}
use Rattle.session_core.proofs.session.Session.status.Goals as goal

pub returns : goal.returns
returns c = told-seen (λ st. c.status.result ≡ status_of st c.args.cell) c.self.inside.opening.value c.self.inside.held c.args.self.now c.self.view_is (c.status.ensures c.self.inside.opening.value c.self.invariant)
