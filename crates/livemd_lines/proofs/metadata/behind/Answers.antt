use Rattle.livemd_lines.proofs.Marks.{strips_front}
use Rattle.livemd_lines.proofs.metadata.behind.Goals as goal

pub returns : goal.returns
returns c = strips_front c.strip_prefix.result c.args.front.now c.args.text.now c.strip_prefix.ensures.cases
