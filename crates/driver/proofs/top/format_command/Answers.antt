use Rattle.std.proofs.Common.{refl}
use Rattle.driver.specs.Around.{input, output, around}
use Rattle.driver.proofs.AnswerLaws.{format-ended, format-written}
use Rattle.driver.proofs.top.format_command.Goals as goal

pub returns-in-Ok-clause-answer : goal.returns-in-Ok-clause-answer
returns-in-Ok-clause-answer g c =
    format-written (around (g.S.Shelf.held c.args.shelf.now) (input g.S.Shelf.reads g.S.Shelf.faults c.args.shelf.now) (input g.S.Shelf.reads g.S.Shelf.faults c.read_book.new.shelf) (output g.K.Sink.writes g.K.Sink.faults g.K.Sink.written c.args.sink.now) (output g.K.Sink.writes g.K.Sink.faults g.K.Sink.written c.write_book.new.sink))
    c.args.name.now c.in-Ok.book c.write_book.result.report c.write_book.result.fault c.in-Ok.ensures.answer c.write_book.ensures.report c.write_book.ensures.written

pub returns-in-Err-clause-answer : goal.returns-in-Err-clause-answer
returns-in-Err-clause-answer g c =
    rw c.ended.ensures (format-ended (around (g.S.Shelf.held c.args.shelf.now) (input g.S.Shelf.reads g.S.Shelf.faults c.args.shelf.now) (input g.S.Shelf.reads g.S.Shelf.faults c.read_book.new.shelf) (output g.K.Sink.writes g.K.Sink.faults g.K.Sink.written c.args.sink.now) (output g.K.Sink.writes g.K.Sink.faults g.K.Sink.written c.args.sink.now))
    c.args.name.now c.in-Err.fault c.in-Err.ensures.answer refl)
