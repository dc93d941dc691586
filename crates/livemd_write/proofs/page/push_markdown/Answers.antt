use Rattle.livemd_write.proofs.Blocks.{markdown_put}
use Rattle.livemd_write.proofs.page.push_markdown.Goals as goal

pub returns : goal.returns
returns c = record { ok = markdown_put _ _ _ c.args.source.now c.in_ok-push_str.ensures.bytes c.in_ok-push_lines.ensures.ok }
