use Rattle.std.proofs.Common.{sym, ◌∙◌}
use Rattle.livemd_lines.specs.Views.{line_view}
use Rattle.livemd_read.proofs.Steps.{fence_goes_on}
use Rattle.livemd_read.proofs.take.go_on_in_fence.Goals as goal

pub returns-then-is_inside : goal.returns-then-is_inside
returns-then-is_inside c =
    fence_goes_on
    c.args.done.now
    c.args.what
    c.args.source
    c.in_ok-with_line.field-0
    c.args.number
    (line_view c.args.line.now)
    (sym c.is_inside.ensures ∙ c.if-is_inside.true)
    c.in_ok-with_line.ensures
    c.requires
