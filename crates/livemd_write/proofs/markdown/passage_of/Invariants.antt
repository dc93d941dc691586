use Rattle.std.proofs.Common.{map}
use Rattle.blanks.specs.Blanks.{drop_end, is_cr}
use Rattle.livemd_write.specs.Passages.{IsPassage}
use Rattle.livemd_write.specs.Texts.{texts}
use Rattle.livemd_write.proofs.markdown.passage_of.Given as goal

abbrev pub invariant-loop-piece : goal.invariant-loop-piece
invariant-loop-piece l = IsPassage (map (drop_end is_cr) (texts l.yielded)) l.passage
