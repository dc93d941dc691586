use Rattle.std.proofs.Common.{◌≡◌}
use Rattle.std.specs.Option.{option_copied}
use Rattle.session_core.specs.Session.{shown_of}
use Rattle.session_core.proofs.Seen.{told-seen}
use Rattle.session_core.proofs.session.Session.shown.Goals as goal

pub returns : goal.returns
returns c = told-seen (λ st. option_copied c.shown.result ≡ shown_of st c.args.cell) c.self.inside.opening.value c.self.inside.held c.args.self.now c.self.view_is (c.shown.ensures c.self.inside.opening.value c.self.invariant)
