use Rattle.std.proofs.Common.{◌∙◌, take, subst, length, ◌≤◌}
use Rattle.std.proofs.lemmas.List.{take_all}
use Rattle.notebook.specs.Rules.{IsNotebook}
use Rattle.world.specs.World.{run}
use Rattle.world.specs.Plays.{Plays}
use Rattle.world.proofs.Standing.{run-opening}
use Rattle.world.proofs.Apart.{run-sound}
use Rattle.world.proofs.Playing.{run-more, run-is}
use Rattle.world.proofs.world.run.Goals as goal

pub loop-event-preserved : goal.loop-event-preserved
loop-event-preserved c =
    let es = c.deref-event-items.result.now in
    let before = run c.args.book (take c.loop-event.event-index es) in
    let rules : IsNotebook c.args.book = subst IsNotebook (run-opening c.args.book (take c.loop-event.event-index es)) c.loop-event.invariant.session.opening in
    run-more c.args.book es c.loop-event.event-index c.event-item.result c.happen.new.self c.loop-event-test.true c.event-item.is
    (c.in_ok-happen.ensures before (run-sound c.args.book (take c.loop-event.event-index es) rules) c.loop-event.invariant)

pub returns : goal.returns
returns c =
    let es = c.deref-event-items.result.now in
    let past : length es ≤ c.loop-event.event-index = c.loop-event-test.false in
    let all = take_all c.loop-event.event-index es past ∙ c.deref-event-items.ensures.value in
    let plays : Plays (run c.args.book c.args.events.items) c.loop-event.world = subst (λ k. Plays (run c.args.book k) c.loop-event.world) all c.loop-event.invariant in
    run-is c.args.book c.args.events.items c.loop-event.world (subst IsNotebook (run-opening c.args.book c.args.events.items) plays.session.opening) plays
