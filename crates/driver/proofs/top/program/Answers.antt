use Rattle.std.proofs.Common.{map, string_bytes}
use Rattle.driver.specs.Around.{input, output, around}
use Rattle.driver.proofs.AnswerLaws.{complete}
use Rattle.driver.proofs.top.program.Goals as goal

pub returns-in-Some-clause-answer : goal.returns-in-Some-clause-answer
returns-in-Some-clause-answer g c = c.run.ensures.answer (map string_bytes c.args.words.now) c.in-Some.ensures.some

pub returns-in-Some-clause-complete : goal.returns-in-Some-clause-complete
returns-in-Some-clause-complete g c =
    complete (map string_bytes c.args.words.now) (around (g.S.Shelf.held c.args.shelf.now) (input g.S.Shelf.reads g.S.Shelf.faults c.args.shelf.now) (input g.S.Shelf.reads g.S.Shelf.faults c.run.new.shelf) (output g.K.Sink.writes g.K.Sink.faults g.K.Sink.written c.args.sink.now) (output g.K.Sink.writes g.K.Sink.faults g.K.Sink.written c.run.new.sink))
    c.run.result.report c.run.result.fault (c.run.ensures.answer (map string_bytes c.args.words.now) c.in-Some.ensures.some)

pub returns-in-None-clause-complete : goal.returns-in-None-clause-complete
returns-in-None-clause-complete g c =
    complete (map string_bytes c.args.words.now) (around (g.S.Shelf.held c.args.shelf.now) (input g.S.Shelf.reads g.S.Shelf.faults c.args.shelf.now) (input g.S.Shelf.reads g.S.Shelf.faults c.run_format.new.shelf) (output g.K.Sink.writes g.K.Sink.faults g.K.Sink.written c.args.sink.now) (output g.K.Sink.writes g.K.Sink.faults g.K.Sink.written c.run_format.new.sink))
    c.run_format.result.report c.run_format.result.fault c.run_format.ensures.answer
