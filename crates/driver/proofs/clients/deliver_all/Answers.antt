use Rattle.std.proofs.Common.{arith, subst}
use Rattle.client_sync.specs.Stands.{Mirrors}
use Rattle.driver.proofs.Receiving.{next-of, put-next, received-all, first-all}
use Rattle.driver.proofs.clients.deliver_all.Goals as goal

pub loop-at-init : goal.loop-at-init
loop-at-init c = λ g cs l honest m. m

pub loop-at-preserved : goal.loop-at-preserved
loop-at-preserved c = λ g cs l honest m.
    let n = next-of g c.args.history.now c.loop-at.clients cs c.loop-at.at (omega (arith, c.loop-at-test.true, c.loop-at.auto.clients)) honest (c.loop-at.invariant g cs l honest m) in
    put-next g c.args.history.now c.loop-at.clients cs c.loop-at.at c.deliver.new.client n (received-all g c.args.history.now n.own c.deliver.new.client (c.in_ok-deliver.ensures g.opening n.own l n.honest (subst (λ z. Mirrors g.opening z n.own) c.index-clients-at.is (n.mirrors c.index-clients-at.result c.index-clients-at.is))))

pub returns : goal.returns
returns c = λ g cs l honest m. first-all g c.args.history.now c.loop-at.clients cs c.loop-at.at (c.loop-at.invariant g cs l honest m) (omega (arith, c.loop-at-test.false, c.loop-at.auto.clients))
