use Rattle.std.proofs.Common.{map}
use Rattle.driver.specs.Lines.{notice_line}
use Rattle.driver.proofs.AnswerLaws.{on-ok}
use Rattle.driver.proofs.Played.{noticed-all, noticed-cut, noticed-left, notices-cut, notices-left}
use Rattle.driver.proofs.play.play_all.Goals as goal

pub returns-in-Ok-clause-played : goal.returns-in-Ok-clause-played
returns-in-Ok-clause-played g c = λ n0 fr. on-ok c.play_script.result (noticed-all n0 (map notice_line c.args.notices.now) c.args.content.now c.play_script.new.player _ _ _ c.in-Ok.ensures.written) (c.play_script.ensures.played n0 fr)

pub returns-in-Ok-clause-failed : goal.returns-in-Ok-clause-failed
returns-in-Ok-clause-failed g c = λ n0 fr e. noticed-cut n0 (map notice_line c.args.notices.now) c.args.content.now c.play_script.new.player _ _ _ c.in-Ok.ensures.written (c.play_script.ensures.failed n0 fr e)

pub returns-in-Err-clause-failed : goal.returns-in-Err-clause-failed
returns-in-Err-clause-failed g c = λ n0 fr e. notices-cut n0 (map notice_line c.args.notices.now) c.args.content.now c.args.player.now _ _ fr (c.in-Err.ensures.cut e)

pub returns-in-Ok-clause-stopped : goal.returns-in-Ok-clause-stopped
returns-in-Ok-clause-stopped g c = λ n0 fr e. noticed-left n0 (map notice_line c.args.notices.now) c.args.content.now _ _ _ c.in-Ok.ensures.written (c.play_script.ensures.stopped n0 fr e)

pub returns-in-Err-clause-stopped : goal.returns-in-Err-clause-stopped
returns-in-Err-clause-stopped g c = λ n0 fr e. notices-left n0 (map notice_line c.args.notices.now) c.args.content.now c.args.player.now _ _ fr (c.in-Err.ensures.stopped e)
