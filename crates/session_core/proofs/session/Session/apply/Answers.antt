use Rattle.session_ops.specs.declared.entry.Call.TheVariants.{Client}
use Rattle.session_core.proofs.Handing.{out-answered}
use Rattle.session_core.proofs.Seen.{answered-seen, left-seen, before-seen, still-held}
use Rattle.session_core.proofs.session.Session.apply.Goals as goal

pub invariant_of-self : goal.invariant_of-self
invariant_of-self c =
    let n0 = c.self.inside.opening.value in
    still-held n0 c.args.by (Client c.args.client c.args.op) c.self.inside.held c.apply.new.self c.apply.result (c.apply.ensures.ok n0 c.self.invariant) (c.apply.ensures.err n0 c.self.invariant)

pub returns-clause-ok : goal.returns-clause-ok
returns-clause-ok c =
    let n0 = c.self.inside.opening.value in
    answered-seen n0 c.args.by (Client c.args.client c.args.op) c.self.inside.held c.apply.new.self c.args.self.now c.apply.result c.self.view_is (c.apply.ensures.ok n0 c.self.invariant)

pub returns-clause-refused : goal.returns-clause-refused
returns-clause-refused c =
    let n0 = c.self.inside.opening.value in
    left-seen n0 (Client c.args.client c.args.op) c.self.inside.held c.apply.new.self c.args.self.now c.apply.result c.self.view_is (c.apply.ensures.refused n0 c.self.invariant)

pub returns-clause-err : goal.returns-clause-err
returns-clause-err c =
    let n0 = c.self.inside.opening.value in
    before-seen n0 c.self.inside.held c.apply.new.self c.args.self.now c.apply.result c.self.view_is (c.apply.ensures.err n0 c.self.invariant)

pub returns-clause-out : goal.returns-clause-out
returns-clause-out c = λ owner job. out-answered c.args.self.now _ owner c.args.by job (Client c.args.client c.args.op) c.apply.result tt (returns-clause-ok c) (returns-clause-err c)
