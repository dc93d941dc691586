use Rattle.std.proofs.Common.{◌≡◌}
use Rattle.lanes.specs.Work.{is_idle}
use Rattle.session_core.proofs.Seen.{told-seen}
use Rattle.session_core.proofs.session.Session.idle.Goals as goal

pub returns : goal.returns
returns c = told-seen (λ st. c.idle.result ≡ is_idle st.work) c.self.inside.opening.value c.self.inside.held c.args.self.now c.self.view_is (c.idle.ensures c.self.inside.opening.value c.self.invariant)
