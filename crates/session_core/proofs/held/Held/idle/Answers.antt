use Rattle.std.proofs.Common.{◌≡◌}
use Rattle.lanes.specs.Work.{is_idle}
use Rattle.session_core.proofs.ReaderLaws.{by-state}
use Rattle.session_core.proofs.held.Held.idle.Goals as goal

pub returns : goal.returns
returns c = λ n0 is. by-state (λ n w. c.is_idle.result ≡ is_idle w) n0 c.args.self.now is c.is_idle.ensures
