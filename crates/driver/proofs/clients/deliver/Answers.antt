use Rattle.std.proofs.Common.{◌≡◌, sym, ◌∙◌, arith, subst}
use Rattle.driver.specs.Clients.{HasReceived}
use Rattle.driver.proofs.Receiving.{one-more, no-more, many-honest, now-received}
use Rattle.driver.proofs.clients.deliver.Goals as goal

pub loop-init : goal.loop-init
loop-init c = λ n0 m l is mir. mir

pub returns-then-not-branch : goal.returns-then-not-branch
returns-then-not-branch c = λ n0 m l is mir.
    let so_far = c.loop.invariant n0 m l is mir in
    let next = c.in_ok-deliver_next.ensures n0 (now-received n0 c.args.history.now c.loop.counter m) l (many-honest n0 c.args.history.now m c.loop.counter l is) so_far in
    no-more n0 c.args.history.now m c.loop.counter c.args.many c.deliver_next.new.client l is (omega (arith, c.loop-test.true)) (sym c.if-not-branch.true ∙ next.1) next.0

pub loop-preserved : goal.loop-preserved
loop-preserved c = λ n0 m l is mir.
    let so_far = c.loop.invariant n0 m l is mir in
    let next = c.in_ok-deliver_next.ensures n0 (now-received n0 c.args.history.now c.loop.counter m) l (many-honest n0 c.args.history.now m c.loop.counter l is) so_far in
    one-more n0 c.args.history.now m c.loop.counter c.deliver_next.new.client l is next.0

pub returns : goal.returns
returns c = λ n0 m l is mir. let e : c.loop.counter ≡ c.args.many = omega (arith, c.loop-test.false, c.loop.auto.counter-end) in subst (λ k. HasReceived n0 c.args.history.now k m c.loop.client) e (c.loop.invariant n0 m l is mir)
