use Rattle.std.proofs.Common.{map, string_bytes, refl}
use Rattle.driver.specs.Around.{input, output, around}
use Rattle.driver.proofs.AnswerLaws.{format-answered, words-ended}
use Rattle.driver.proofs.top.run_format.Goals as goal

pub returns-in-Some-clause-answer : goal.returns-in-Some-clause-answer
returns-in-Some-clause-answer g c =
    format-answered (map string_bytes c.args.words.now) (around (g.S.Shelf.held c.args.shelf.now) (input g.S.Shelf.reads g.S.Shelf.faults c.args.shelf.now) (input g.S.Shelf.reads g.S.Shelf.faults c.format_command.new.shelf) (output g.K.Sink.writes g.K.Sink.faults g.K.Sink.written c.args.sink.now) (output g.K.Sink.writes g.K.Sink.faults g.K.Sink.written c.format_command.new.sink))
    c.in-Some.book.now c.format_command.result.report c.format_command.result.fault c.in-Some.ensures c.format_command.ensures.answer

pub returns-in-None-clause-answer : goal.returns-in-None-clause-answer
returns-in-None-clause-answer g c =
    rw c.ended.ensures (words-ended (map string_bytes c.args.words.now) (around (g.S.Shelf.held c.args.shelf.now) (input g.S.Shelf.reads g.S.Shelf.faults c.args.shelf.now) (input g.S.Shelf.reads g.S.Shelf.faults c.args.shelf.now) (output g.K.Sink.writes g.K.Sink.faults g.K.Sink.written c.args.sink.now) (output g.K.Sink.writes g.K.Sink.faults g.K.Sink.written c.args.sink.now))
    c.requires c.in-None.ensures refl refl)
