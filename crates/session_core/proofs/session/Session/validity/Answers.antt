use Rattle.std.proofs.Common.{◌≡◌}
use Rattle.session_core.specs.Session.{validity_of}
use Rattle.session_core.proofs.Seen.{told-seen}
use Rattle.session_core.proofs.session.Session.validity.Goals as goal

pub returns : goal.returns
returns c = told-seen (λ st. c.validity.result ≡ validity_of st c.args.cell) c.self.inside.opening.value c.self.inside.held c.args.self.now c.self.view_is (c.validity.ensures c.self.inside.opening.value c.self.invariant)
