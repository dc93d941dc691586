use Rattle.livemd_lines.proofs.Marks.{strips_end}
use Rattle.livemd_lines.proofs.metadata.before.Goals as goal

pub returns : goal.returns
returns c = strips_end c.strip_suffix.result c.args.back.now c.args.text.now c.strip_suffix.ensures.cases
