use Rattle.std.proofs.Common.{◌≡◌}
use Rattle.std.specs.Prelude.{IsSome}
use Rattle.session_core.specs.Session.{IsWaiting, ready_lane}
use Rattle.session_core.proofs.Seen.{told-seen}
use Rattle.session_core.proofs.session.Session.ready_lane.Goals as goal

pub returns-clause-lane : goal.returns-clause-lane
returns-clause-lane c = told-seen (λ st. c.ready_lane.result ≡ ready_lane st) c.self.inside.opening.value c.self.inside.held c.args.self.now c.self.view_is (c.ready_lane.ensures.lane c.self.inside.opening.value c.self.invariant)

pub returns-clause-some : goal.returns-clause-some
returns-clause-some c = told-seen (λ st. IsWaiting st → IsSome c.ready_lane.result) c.self.inside.opening.value c.self.inside.held c.args.self.now c.self.view_is (c.ready_lane.ensures.some c.self.inside.opening.value c.self.invariant)
