use Rattle.std.proofs.Common.{◌≡◌}
use Rattle.lanes.specs.Work.{ready_lane}
use Rattle.session_core.proofs.ReaderLaws.{by-state, some-ready}
use Rattle.session_core.proofs.held.Held.ready_lane.Goals as goal

pub returns-clause-lane : goal.returns-clause-lane
returns-clause-lane c = λ n0 is. by-state (λ n w. c.ready_lane.result ≡ ready_lane n w) n0 c.args.self.now is c.ready_lane.ensures

pub returns-clause-some : goal.returns-clause-some
returns-clause-some c = λ n0 is waits. some-ready n0 c.args.self.now c.ready_lane.result is c.ready_lane.ensures waits
