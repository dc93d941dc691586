use Rattle.std.proofs.Common.{true, ap, ◌∙◌}
use Rattle.livemd_lines.specs.Views.{line_view}
use Rattle.livemd_read.specs.declared.open.Open.TheVariants.{Forced, Text}
use Rattle.livemd_read.proofs.Steps.{takes_if}
use Rattle.livemd_read.proofs.take.take.Goals as goal

pub returns-in-Forced : goal.returns-in-Forced
returns-in-Forced c = takes_if _ c.args.done.now c.args.pending Forced c.args.number (line_view c.args.line.now) c.in-Forced.is c.requires c.after_force.ensures

pub returns-then-forced : goal.returns-then-forced
returns-then-forced c =
    takes_if
    _
    c.args.done.now
    c.args.pending
    (Text c.in-Text.passage true)
    c.args.number
    (line_view c.args.line.now)
    (c.in-Text.is ∙ ap (λ b. Text c.in-Text.passage b) c.if-forced.true)
    c.requires
    c.go_on_forced.ensures
