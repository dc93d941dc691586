use Rattle.script.proofs.Blanks.{word_boundary}
use Rattle.script.proofs.words.split_word.Goals as goal

pub range-requires-clause-end_boundary : goal.range-requires-clause-end_boundary
range-requires-clause-end_boundary c = word_boundary c.args.text.now c.word_len-end.result (cc) c.utf8.text

pub range_from-requires : goal.range_from-requires
range_from-requires c = λ _. word_boundary c.args.text.now c.word_len-end.result (cc) c.utf8.text
