use Rattle.driver.specs.Player.{Game, send_each}
use Rattle.driver.proofs.Leading.{lead-none}
use Rattle.driver.proofs.Sending.{each-next, each-end}
use Rattle.driver.proofs.player.Player.send_each.Goals as goal

pub loop-number-init : goal.loop-number-init
loop-number-init c = λ n0 s st. let g : Game = record { opening = n0; names = c.args.names.now } in lead-none g (send_each g c.args.numbers.now) c.args.self.now s _ st

pub loop-number-preserved : goal.loop-number-preserved
loop-number-preserved c = λ n0 s st.
    let g : Game = record { opening = n0; names = c.args.names.now } in
    let l = c.loop-number.invariant n0 s st in
    each-next g c.args.numbers.now c.loop-number.number-index c.args.self.now c.loop-number.self c.send_all.new.self s _ _ _ c.loop-number-test.true l (c.in_ok-send_all.ensures g l.stage c.name_in.ensures l.stands)

pub returns : goal.returns
returns c = λ n0 s st.
    let g : Game = record { opening = n0; names = c.args.names.now } in
    each-end g c.args.numbers.now c.loop-number.number-index c.args.self.now c.loop-number.self s _ _ c.loop-number-test.false (c.loop-number.invariant n0 s st)
