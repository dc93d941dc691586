use Rattle.livemd_write.proofs.Blocks.{line_put}
use Rattle.livemd_write.proofs.page.push_line.Goals as goal

pub returns : goal.returns
returns c = record { ok = line_put _ _ _ _ c.args.line.now c.in_ok-push_str.ensures.bytes c.in_ok-push_str-2.ensures.bytes c.in_ok-push_str-3.ensures.bytes }
