use Rattle.std.proofs.Common.{◌∙◌, sym, subst}
use Rattle.ex_model.proofs.Arena.{at_within}
use Rattle.ex_machine.specs.Futures.{AreFrames, IsFuture, resumed, begun}
use Rattle.ex_machine.proofs.Turns.{unpaid, paid, meaning-begins, seen_at}
use Rattle.ex_machine.proofs.machine.Machine.enter.Goals as goal

pub node_at-requires : goal.node_at-requires
node_at-requires c = at_within c.args.nodes.now c.args.place c.requires.0 c.requires.1

pub returns-then-not-pay-clause-future : goal.returns-then-not-pay-clause-future
returns-then-not-pay-clause-future c = λ t rests at are.
    rw (c.failed.ensures, ← meaning-begins c.args.base.now t c.args.self.now.made c.args.self.now.left)
    (unpaid c.args.base.now 1 c.args.self.now.left _ (λ left. begun c.args.base.now t c.args.self.now.made left) rests (sym c.pay.ensures.answer ∙ c.if-not-pay.true) c.pay.ensures.left)

pub returns-clause-future : goal.returns-clause-future
returns-clause-future c = λ t rests at are.
    let frames = subst (λ fs. AreFrames c.args.nodes.now fs rests) (sym c.pay.ensures.frames) are in
    let after = c.in_ok-next.ensures.future c.args.nodes.now t rests (seen_at c.args.nodes.now c.args.place c.node_at.result.now t c.node_at.ensures at) frames in
    rw (← meaning-begins c.args.base.now t c.args.self.now.made c.args.self.now.left)
    (paid c.args.nodes.now c.args.base.now _ _ 1 c.args.self.now.left c.pay.new.self.left _ (λ left. begun c.args.base.now t c.args.self.now.made left) rests _ (sym c.pay.ensures.answer ∙ c.if-not-pay.false) c.pay.ensures.left
    (subst (λ made. IsFuture c.args.nodes.now c.args.base.now c.begin.new.self.frames.items c.begin.new.self.made c.begin.new.self.left c.in_ok-next.next (resumed c.args.base.now rests (begun c.args.base.now t made c.pay.new.self.left))) c.pay.ensures.made after))
