use Rattle.std.proofs.Common.{refl}
use Rattle.session_core.proofs.HistoryLaws.{grown-after}
use Rattle.session_core.proofs.SessionLaws.{refused-session, untouched, on-err}
use Rattle.session_core.proofs.held.Held.refuse.Goals as goal

pub returns-clause-ok : goal.returns-clause-ok
returns-clause-ok c = λ n0 is r. refused-session n0 c.args.self.now _ c.args.by c.args.client c.args.op c.args.why is r (grown-after c.args.self.now.history c.make_room.new.self _ _ c.make_room.ensures.kept c.append.ensures) refl refl refl refl

pub returns-in_err-make_room-clause-err : goal.returns-in_err-make_room-clause-err
returns-in_err-make_room-clause-err c = λ n0 is. on-err _ _ (untouched n0 c.args.self.now _ is c.make_room.ensures.kept refl refl refl refl)
