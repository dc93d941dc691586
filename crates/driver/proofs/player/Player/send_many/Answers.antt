use Rattle.std.proofs.Common.{arith}
use Rattle.driver.proofs.Sending.{sending-none, sending-next, sending-end}
use Rattle.driver.proofs.player.Player.send_many.Goals as goal

pub loop-init : goal.loop-init
loop-init c = λ g s nm st. sending-none g c.args.client c.args.many c.args.self.now s _ st

pub loop-preserved : goal.loop-preserved
loop-preserved c = λ g s nm st.
    let i = c.loop.invariant g s nm st in
    sending-next g c.args.client c.args.many c.loop.counter c.args.self.now c.loop.self c.send_next.new.self s _ _ _ c.loop-test.true i (c.in_ok-send_next.ensures g i.leads.stage nm i.leads.stands)

pub returns : goal.returns
returns c = λ g s nm st. sending-end g c.args.client c.args.many c.loop.counter c.args.self.now c.loop.self s _ _ (omega (arith, c.loop-test.false, c.loop.auto.counter-end)) (c.loop.invariant g s nm st)
