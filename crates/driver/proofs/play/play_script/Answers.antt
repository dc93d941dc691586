use Rattle.driver.proofs.AnswerLaws.{on-ok}
use Rattle.driver.proofs.Played.{fresh-session, fresh-played, fresh-cut, fresh-failed, fresh-stopped, fresh-left}
use Rattle.driver.proofs.play.play_script.Goals as goal

pub returns-in-Ok-clause-played : goal.returns-in-Ok-clause-played
returns-in-Ok-clause-played g c = λ n0 fr.
    let is = fresh-session n0 c.args.content.now c.args.player.now c.play_lines.new.player _ _ c.as_slice-names.result.now c.as_slice-lines.result.now fr c.as_slice-names.ensures c.as_slice-lines.ensures c.in-Ok.ensures.played in
    on-ok c.play_end.result
    (λ ends. fresh-played n0 c.args.content.now c.args.player.now c.play_lines.new.player c.play_end.new.player _ _ _ c.as_slice-names.result.now c.as_slice-lines.result.now fr c.as_slice-names.ensures c.as_slice-lines.ensures c.in-Ok.ensures.played ends)
    (c.play_end.ensures.played n0 is)

pub returns-in-Ok-clause-failed : goal.returns-in-Ok-clause-failed
returns-in-Ok-clause-failed g c = λ n0 fr e.
    let is = fresh-session n0 c.args.content.now c.args.player.now c.play_lines.new.player _ _ c.as_slice-names.result.now c.as_slice-lines.result.now fr c.as_slice-names.ensures c.as_slice-lines.ensures c.in-Ok.ensures.played in
    fresh-cut n0 c.args.content.now c.args.player.now c.play_lines.new.player c.play_end.new.player _ _ _ c.as_slice-names.result.now c.as_slice-lines.result.now fr c.as_slice-names.ensures c.as_slice-lines.ensures c.in-Ok.ensures.played (c.play_end.ensures.failed n0 is e)

pub returns-in-Err-clause-failed : goal.returns-in-Err-clause-failed
returns-in-Err-clause-failed g c = λ n0 fr e. fresh-failed n0 c.args.content.now c.args.player.now c.play_lines.new.player _ _ c.as_slice-names.result.now c.as_slice-lines.result.now fr c.as_slice-names.ensures c.as_slice-lines.ensures (λ n s st. c.in-Err.ensures.failed n s st e)

pub returns-in-Ok-clause-stopped : goal.returns-in-Ok-clause-stopped
returns-in-Ok-clause-stopped g c = λ n0 fr e.
    let is = fresh-session n0 c.args.content.now c.args.player.now c.play_lines.new.player _ _ c.as_slice-names.result.now c.as_slice-lines.result.now fr c.as_slice-names.ensures c.as_slice-lines.ensures c.in-Ok.ensures.played in
    fresh-left n0 c.args.content.now c.args.player.now c.play_lines.new.player c.play_end.new.player _ _ _ c.as_slice-names.result.now c.as_slice-lines.result.now fr c.as_slice-names.ensures c.as_slice-lines.ensures c.in-Ok.ensures.played (c.play_end.ensures.stopped n0 is e)

pub returns-in-Err-clause-stopped : goal.returns-in-Err-clause-stopped
returns-in-Err-clause-stopped g c = λ n0 fr e. fresh-stopped n0 c.args.content.now c.args.player.now _ _ c.as_slice-names.result.now c.as_slice-lines.result.now fr c.as_slice-names.ensures c.as_slice-lines.ensures (λ n s st. c.in-Err.ensures.stopped n s st e)
