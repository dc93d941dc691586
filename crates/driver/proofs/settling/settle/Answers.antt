use Rattle.std.proofs.Common.{◌≡◌, true, sym}
use Rattle.lanes.specs.Work.{is_idle}
use Rattle.session_ops.specs.State.{State}
use Rattle.session_core.specs.Session.{state_of}
use Rattle.session_core.proofs.Calls.{told-over}
use Rattle.driver.proofs.Readying.{idle-none}
use Rattle.driver.proofs.Settled.{gone-further, gone-nowhere}
use Rattle.driver.proofs.settling.settle.Goals as goal

pub loop-init : goal.loop-init
loop-init g c = λ n0 is. gone-nowhere n0 c.args.by c.args.session.now is

pub loop-preserved : goal.loop-preserved
loop-preserved g c = λ n0 is.
    let so_far = c.loop.invariant n0 is in
    gone-further n0 c.args.by c.args.session.now c.loop.session c.evaluate.new.session so_far (c.in_ok-evaluate.ensures n0 so_far.session)

pub returns-then-idle : goal.returns-then-idle
returns-then-idle g c = λ n0 is.
    let so_far = c.loop.invariant n0 is in
    let idle : is_idle (state_of n0 c.loop.session).work ≡ true = told-over (λ st. is_idle st.work ≡ true) n0 c.loop.session so_far.session (sym c.if-idle.ensures) in
    let last : State = state_of n0 c.loop.session in
    record { gone = so_far; idle = idle; over = idle-none last.book last.work idle }
