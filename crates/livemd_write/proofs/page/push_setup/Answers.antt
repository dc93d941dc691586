use Rattle.std.proofs.Common.{sym, ap, ◌∙◌}
use Rattle.livemd_format.specs.Write.{kept_blocks}
use Rattle.livemd_write.proofs.Blocks.{puts_same, setup_put}
use Rattle.livemd_write.proofs.page.push_setup.Goals as goal

pub returns : goal.returns
returns c = record {
  ok = setup_put _ _ _ c.args.cell.now (sym c.is_nothing.ensures ∙ c.if-is_nothing.false) (puts_same _ _ _ _ (ap kept_blocks c.as_slice.ensures) c.in_ok-push_kept.ensures.ok) c.in_ok-push_code.ensures.ok;
}
