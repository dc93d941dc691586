use Rattle.livemd_lines.specs.Views.{line_view}
use Rattle.livemd_write.proofs.Blocks.{forced_put}
use Rattle.livemd_write.proofs.page.push_forced.Goals as goal

pub returns : goal.returns
returns c = record { ok = forced_put _ _ _ _ (line_view c.args.line.now) c.in_ok-push_force.ensures.ok c.in_ok-push_str.ensures.bytes c.in_ok-push_str-2.ensures.bytes }
