use Rattle.std.proofs.Common.{map, subst, refl}
use Rattle.driver.specs.Lines.{notice_line}
use Rattle.driver.specs.Ends.{IsPlayedSo}
use Rattle.driver.specs.Around.{input, output, around}
use Rattle.driver.proofs.AnswerLaws.{play-answered, script-ended}
use Rattle.driver.proofs.top.run_script.Goals as goal

pub returns-in-Ok-clause-answer : goal.returns-in-Ok-clause-answer
returns-in-Ok-clause-answer g c = λ words first b.
    let before = (output g.K.Sink.writes g.K.Sink.faults g.K.Sink.written c.args.sink.now) in
    let after = (output g.K.Sink.writes g.K.Sink.faults g.K.Sink.written c.play.new.sink) in
    rw c.finished.ensures
    (play-answered words (around (g.S.Shelf.held c.args.shelf.now) first (input g.S.Shelf.reads g.S.Shelf.faults c.read_lines.new.shelf) before after) (input g.S.Shelf.reads g.S.Shelf.faults c.args.shelf.now) c.args.script.now c.args.book c.in-Ok.script c.play.result b
    c.in-Ok.ensures.answer
    (subst (λ x. IsPlayedSo c.args.book.notebook (map notice_line c.args.book.notices) x before after c.play.result) c.content.ensures.value
    (subst (λ x. IsPlayedSo c.args.book.notebook (map notice_line x) c.content.result.now before after c.play.result) c.as_slice.ensures c.play.ensures.played)))

pub returns-in-Err-clause-answer : goal.returns-in-Err-clause-answer
returns-in-Err-clause-answer g c = λ words first b.
    rw c.ended.ensures (script-ended words (around (g.S.Shelf.held c.args.shelf.now) first (input g.S.Shelf.reads g.S.Shelf.faults c.read_lines.new.shelf) (output g.K.Sink.writes g.K.Sink.faults g.K.Sink.written c.args.sink.now) (output g.K.Sink.writes g.K.Sink.faults g.K.Sink.written c.args.sink.now))
    (input g.S.Shelf.reads g.S.Shelf.faults c.args.shelf.now) c.args.script.now c.args.book c.in-Err.why b c.in-Err.ensures.answer refl)
