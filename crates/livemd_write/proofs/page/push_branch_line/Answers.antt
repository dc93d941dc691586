use Rattle.livemd_write.proofs.Blocks.{branch_put}
use Rattle.livemd_write.proofs.page.push_branch_line.Goals as goal

pub returns : goal.returns
returns c = record { ok = branch_put _ _ _ _ c.format.result.now c.args.index c.in_ok-push_str.ensures.bytes c.format.ensures.text c.in_ok-push_str-2.ensures.bytes c.in_ok-push_str-3.ensures.bytes }
