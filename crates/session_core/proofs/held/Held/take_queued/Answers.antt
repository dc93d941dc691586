use Rattle.std.proofs.Common.{refl}
use Rattle.session_core.proofs.HistoryLaws.{grown-after}
use Rattle.session_core.proofs.SessionLaws.{untouched, on-err}
use Rattle.session_core.proofs.QueueLaws.{queued-session}
use Rattle.session_core.proofs.held.Held.take_queued.Goals as goal

pub returns-in_err-make_room-clause-err : goal.returns-in_err-make_room-clause-err
returns-in_err-make_room-clause-err c = λ n0 is. on-err _ _ (untouched n0 c.args.self.now _ is c.make_room.ensures.kept refl refl refl refl)

pub returns-clause-ok : goal.returns-clause-ok
returns-clause-ok c = λ n0 is none. queued-session n0 c.args.self.now _ c.args.by c.args.client c.args.cell c.ask.new.self is none (grown-after c.args.self.now.history c.make_room.new.self _ _ c.make_room.ensures.kept c.append.ensures) refl refl refl c.in_ok-ask.ensures.ok c.sweep.ensures

pub returns-in_err-ask-clause-err : goal.returns-in_err-ask-clause-err
returns-in_err-ask-clause-err c = λ n0 is.
    let s = c.args.self.now in
    on-err _ _ (untouched n0 s _ is c.make_room.ensures.kept refl refl refl c.in_err-ask.ensures.err)
