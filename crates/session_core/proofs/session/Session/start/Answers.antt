use Rattle.session_core.proofs.Handing.{out-tried}
use Rattle.session_core.proofs.Seen.{tried-seen, before-seen, still-started}
use Rattle.session_core.proofs.session.Session.start.Goals as goal

pub invariant_of-self : goal.invariant_of-self
invariant_of-self c =
    let n0 = c.self.inside.opening.value in
    still-started n0 c.args.by c.args.lane c.self.inside.held c.start.new.self c.start.result (c.start.ensures.ok n0 c.self.invariant) (c.start.ensures.err n0 c.self.invariant)

pub returns-clause-ok : goal.returns-clause-ok
returns-clause-ok c =
    let n0 = c.self.inside.opening.value in
    tried-seen n0 c.args.by c.args.lane c.self.inside.held c.start.new.self c.args.self.now c.start.result c.self.view_is (c.start.ensures.ok n0 c.self.invariant)

pub returns-clause-err : goal.returns-clause-err
returns-clause-err c =
    let n0 = c.self.inside.opening.value in
    before-seen n0 c.self.inside.held c.start.new.self c.args.self.now c.start.result c.self.view_is (c.start.ensures.err n0 c.self.invariant)

pub returns-clause-out : goal.returns-clause-out
returns-clause-out c = λ owner job. out-tried c.args.self.now _ owner c.args.by c.args.lane job c.start.result (returns-clause-ok c) (returns-clause-err c)
