use Rattle.livemd_lines.specs.Views.{line_view}
use Rattle.livemd_read.proofs.Steps.{begins_text}
use Rattle.livemd_read.proofs.take.open_text.Goals as goal

pub returns : goal.returns
returns c = begins_text (line_view c.args.line.now) c.in_ok-of.field-0 c.requires.text c.in_ok-of.ensures
