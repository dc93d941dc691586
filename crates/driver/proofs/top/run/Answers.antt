use Rattle.std.proofs.Common.{inl, sym, subst, refl}
use Rattle.driver.specs.Around.{input, output, around}
use Rattle.driver.specs.Answers.{HasReadBook}
use Rattle.driver.specs.Program.{IsAnswer}
use Rattle.driver.proofs.AnswerLaws.{book-ended, book-read}
use Rattle.driver.proofs.top.run.Goals as goal

pub returns-in-Ok-clause-answer : goal.returns-in-Ok-clause-answer
returns-in-Ok-clause-answer g c = λ words form.
    let first = (input g.S.Shelf.reads g.S.Shelf.faults c.args.shelf.now) in
    let mid = (input g.S.Shelf.reads g.S.Shelf.faults c.read_book.new.shelf) in
    subst (λ h. IsAnswer words (around h first (input g.S.Shelf.reads g.S.Shelf.faults c.run_script.new.shelf) (output g.K.Sink.writes g.K.Sink.faults g.K.Sink.written c.args.sink.now) (output g.K.Sink.writes g.K.Sink.faults g.K.Sink.written c.run_script.new.sink)) c.run_script.result.report c.run_script.result.fault) c.in-Ok.ensures.same
    (c.run_script.ensures.answer words first
    (subst (λ h. HasReadBook words h c.args.script.now c.in-Ok.book first mid) (sym c.in-Ok.ensures.same)
    (book-read words (g.S.Shelf.held c.args.shelf.now) c.args.book.now c.args.script.now first mid c.in-Ok.book form c.in-Ok.ensures.answer c.in-Ok.ensures.counts)))

pub returns-in-Err-clause-answer : goal.returns-in-Err-clause-answer
returns-in-Err-clause-answer g c = λ words form.
    rw c.ended.ensures (book-ended words (around (g.S.Shelf.held c.args.shelf.now) (input g.S.Shelf.reads g.S.Shelf.faults c.args.shelf.now) (input g.S.Shelf.reads g.S.Shelf.faults c.read_book.new.shelf) (output g.K.Sink.writes g.K.Sink.faults g.K.Sink.written c.args.sink.now) (output g.K.Sink.writes g.K.Sink.faults g.K.Sink.written c.args.sink.now))
    c.args.book.now c.in-Err.fault (inl (c.args.script.now, form)) c.in-Err.ensures.answer refl)
