use Rattle.std.proofs.Common.{sym, ◌∙◌}
use Rattle.livemd_read.specs.Views.{cut_of}
use Rattle.livemd_read.proofs.Steps.{line_cut, output_alone}
use Rattle.livemd_read.proofs.take.begin_output.Goals as goal

pub returns-else-done : goal.returns-else-done
returns-else-done c = line_cut _ _ _ _ c.args.number _ (output_alone (cut_of c.args.done.now) c.args.number (sym c.requires.code ∙ c.if-done.false)) c.push_line.ensures
