use Rattle.std.proofs.Common.{refl}
use Rattle.session_core.specs.declared.job.PlainJob.{PlainJob}
use Rattle.session_core.proofs.HistoryLaws.{grown-after}
use Rattle.session_core.proofs.SessionLaws.{untouched, on-err}
use Rattle.session_core.proofs.EvaluationLaws.{begun-session}
use Rattle.session_core.proofs.held.Held.begin.Goals as goal

pub returns-in_err-make_room-clause-err : goal.returns-in_err-make_room-clause-err
returns-in_err-make_room-clause-err c = λ n0 is. on-err _ _ (untouched n0 c.args.self.now _ is c.make_room.ensures.kept refl refl refl refl)

pub returns-clause-ok : goal.returns-clause-ok
returns-clause-ok c = λ n0 is may along.
    let s = c.args.self.now in
    let job : PlainJob = record { eval = c.in_ok-eval.eval; cell = c.args.cell; source = c.args.source; base = c.args.base } in
    begun-session n0 s _ c.args.by c.in_ok-eval.eval c.args.lane c.begin.new.self job is may c.in_ok-eval.ensures.0 refl along (grown-after s.history c.make_room.new.self _ _ c.make_room.ensures.kept c.append_start.ensures) refl refl refl c.in_ok-eval.ensures.1 c.sweep.ensures

pub returns-in_err-eval-clause-err : goal.returns-in_err-eval-clause-err
returns-in_err-eval-clause-err c = λ n0 is.
    let s = c.args.self.now in
    on-err _ _ (untouched n0 s _ is c.make_room.ensures.kept refl refl refl c.in_err-eval.ensures)
