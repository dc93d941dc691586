use Rattle.std.specs.Prelude.{encode_utf8_all}
use Rattle.livemd_write.proofs.Blocks.{heading_put}
use Rattle.livemd_write.proofs.page.push_heading.Goals as goal

pub returns : goal.returns
returns c = record {
  ok = heading_put _ _ _ _ _ c.args.mark.now (encode_utf8_all c.args.name.now) _ c.in_ok-push_str.ensures.bytes c.in_ok-push_str-2.ensures.bytes c.as_str.ensures.bytes c.in_ok-push_str-3.ensures.bytes c.in_ok-push_str-4.ensures.bytes;
}
