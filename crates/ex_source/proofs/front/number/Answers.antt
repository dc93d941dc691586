use Rattle.ex_source.proofs.Words.{number_read}
use Rattle.ex_source.proofs.front.number.Goals as goal

pub returns-in-Some : goal.returns-in-Some
returns-in-Some c = number_read c.args.word.now c.in-Some.value c.in-Some.ensures
