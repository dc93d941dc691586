use Rattle.ex_source.proofs.Words.{integer_read}
use Rattle.ex_source.proofs.front.integer.Goals as goal

pub returns : goal.returns
returns c = rw c.ok.ensures.value (integer_read c.args.word.now c.parse.result c.parse.ensures.value.0 c.requires)
