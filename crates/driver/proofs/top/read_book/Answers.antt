use Rattle.std.proofs.Common.{subst}
use Rattle.driver.specs.Answers.{BytesAreBook}
use Rattle.driver.specs.Around.{input}
use Rattle.driver.proofs.AnswerLaws.{book-given}
use Rattle.driver.proofs.top.read_book.Goals as goal

pub returns-in-Ok-clause-answer : goal.returns-in-Ok-clause-answer
returns-in-Ok-clause-answer g c =
    book-given (g.S.Shelf.held c.args.shelf.now) c.args.name.now c.in-Ok.bytes.items (input g.S.Shelf.reads g.S.Shelf.faults c.args.shelf.now) (input g.S.Shelf.reads g.S.Shelf.faults c.read.new.self) c.notebook_of.result c.in-Ok.ensures.front c.in-Ok.ensures.listed
    (subst (λ b. BytesAreBook b c.notebook_of.result) c.as_slice.ensures.value c.notebook_of.ensures.answer)
