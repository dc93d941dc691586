use Rattle.std.proofs.Common.{sym, ◌∙◌}
use Rattle.livemd_lines.specs.Views.{line_view}
use Rattle.livemd_read.proofs.Steps.{text_goes_on}
use Rattle.livemd_read.proofs.take.go_on.Goals as goal

pub returns-then-may_stand : goal.returns-then-may_stand
returns-then-may_stand c =
    text_goes_on
    c.args.done.now
    c.args.passage
    c.in_ok-with_line.field-0
    c.args.number
    (line_view c.args.line.now)
    (sym c.is_force.ensures ∙ c.if-is_force.false)
    (sym c.may_stand.ensures ∙ c.if-may_stand.true)
    c.in_ok-with_line.ensures
    c.requires
