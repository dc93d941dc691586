use Rattle.std.proofs.Common.{ap, ◌∙◌}
use Rattle.session_core.specs.Session.{Session, history_of}
use Rattle.session_core.proofs.Seen.{own-session}
use Rattle.session_core.proofs.session.Session.into_history.Goals as goal

pub returns-clause-entries : goal.returns-clause-entries
returns-clause-entries c = c.into_history.ensures ∙ ap (λ (t : Session). history_of t) c.self.view_is

pub returns-clause-legal : goal.returns-clause-legal
returns-clause-legal c = own-session c.self.inside.opening.value c.self.inside.held c.args.self c.self.view_is c.self.invariant
