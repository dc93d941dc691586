use Rattle.std.proofs.Common.{sym}
use Rattle.session_ops.specs.declared.entry.Call.TheVariants.{Respond}
use Rattle.session_core.proofs.Handing.{own-answered}
use Rattle.session_core.proofs.Seen.{handed-held, one-answered-seen, one-left-seen}
use Rattle.session_core.proofs.session.Session.respond.Goals as goal

pub respond-requires : goal.respond-requires
respond-requires c =
    let n0 = c.self.inside.opening.value in
    let job = c.requires.0 in
    (n0, job, c.self.invariant, handed-held n0 c.self.inside.held c.args.self.now c.args.by job (sym c.self.view_is) c.requires.1, c.requires.2)

pub invariant_of-self : goal.invariant_of-self
invariant_of-self c =
    let n0 = c.self.inside.opening.value in
    let job = c.requires.0 in
    let out = handed-held n0 c.self.inside.held c.args.self.now c.args.by job (sym c.self.view_is) c.requires.1 in
    (c.respond.ensures.ok n0 job c.self.invariant out c.requires.2 c.requires.3).session

pub returns-clause-ok : goal.returns-clause-ok
returns-clause-ok c =
    let n0 = c.self.inside.opening.value in
    let job = c.requires.0 in
    let out = handed-held n0 c.self.inside.held c.args.self.now c.args.by job (sym c.self.view_is) c.requires.1 in
    one-answered-seen n0 c.args.by (Respond c.args.eval c.args.ran.shown) c.self.inside.held c.respond.new.self c.args.self.now c.respond.result c.self.view_is (c.respond.ensures.ok n0 job c.self.invariant out c.requires.2 c.requires.3)

pub returns-clause-late : goal.returns-clause-late
returns-clause-late c = λ same.
    let n0 = c.self.inside.opening.value in
    let job = c.requires.0 in
    let out = handed-held n0 c.self.inside.held c.args.self.now c.args.by job (sym c.self.view_is) c.requires.1 in
    one-left-seen n0 c.self.inside.held c.respond.new.self c.args.self.now c.self.view_is (c.respond.ensures.late n0 job c.self.invariant out c.requires.2 c.requires.3 same)

pub returns-clause-out : goal.returns-clause-out
returns-clause-out c = λ owner job other. own-answered c.args.self.now _ owner c.args.by job (Respond c.args.eval c.args.ran.shown) c.respond.result (returns-clause-ok c) other
