use Rattle.script.proofs.Cuts.{unwrap_or-position}
use Rattle.blanks.specs.Blanks.{is_space_or_tab}
use Rattle.script.proofs.words.word_len.Goals as goal

pub returns : goal.returns
returns c = let e = unwrap_or-position is_space_or_tab c.args.text.now in (cc)
