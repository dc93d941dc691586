use Rattle.std.proofs.Common.{subst}
use Rattle.driver.specs.Answers.{BytesAreScript}
use Rattle.driver.specs.Around.{input}
use Rattle.driver.proofs.AnswerLaws.{script-given}
use Rattle.driver.proofs.top.read_lines.Goals as goal

pub returns-in-Ok : goal.returns-in-Ok
returns-in-Ok g c =
    record {
      answer = script-given (g.S.Shelf.held c.args.shelf.now) c.args.name.now c.in-Ok.bytes.items (input g.S.Shelf.reads g.S.Shelf.faults c.args.shelf.now) (input g.S.Shelf.reads g.S.Shelf.faults c.read.new.self) c.script_of.result c.in-Ok.ensures.front c.in-Ok.ensures.listed
          (subst (λ b. BytesAreScript b c.script_of.result) c.as_slice.ensures.value c.script_of.ensures);
    }
