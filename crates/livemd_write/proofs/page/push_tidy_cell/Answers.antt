use Rattle.std.proofs.Common.{sym, ap, ◌∙◌}
use Rattle.livemd_format.specs.Tidy.{tidy_before}
use Rattle.livemd_format.specs.Write.{kept_blocks}
use Rattle.livemd_write.proofs.Blocks.{puts_same}
use Rattle.livemd_write.proofs.Streaming.{body_put, cell_gone}
use Rattle.livemd_write.proofs.page.push_tidy_cell.Goals as goal

pub returns-then-not-stays-clause-puts : goal.returns-then-not-stays-clause-puts
returns-then-not-stays-clause-puts c = cell_gone _ c.args.after_markdown c.args.cell.now c.in_ok-body.body c.in_ok-body.ensures.tidy (sym c.stays.ensures ∙ c.if-not-stays.true)

pub returns-clause-puts : goal.returns-clause-puts
returns-clause-puts c =
    body_put
    _
    _
    _
    _
    c.args.after_markdown
    _
    c.args.cell.now
    c.in_ok-body.body
    c.in_ok-body.ensures.tidy
    (sym c.stays.ensures ∙ c.if-not-stays.false)
    c.in_ok-push_break.ensures.ok
    (puts_same _ _ _ _ (ap (λ ls. kept_blocks (tidy_before ls)) c.as_slice.ensures) c.in_ok-push_tidy_kept.ensures.ok)
    c.in_ok-push_own.ensures.ok
    c.is_markdown.ensures
