use Rattle.std.proofs.Common.{sym, ◌∙◌}
use Rattle.livemd_lines.specs.Views.{line_view}
use Rattle.livemd_read.specs.Views.{cut_of}
use Rattle.livemd_read.proofs.Steps.{first_heading, line_cuts}
use Rattle.livemd_read.proofs.take.begin_heading.Goals as goal

pub returns-then-done : goal.returns-then-done
returns-then-done c =
    line_cuts
    _
    _
    _
    _
    _
    (λ number. first_heading (cut_of c.args.done.now) number c.args.name.now (line_view c.args.line.now) (sym c.requires.done.name ∙ c.if-done.true))
    c.push_line.ensures
