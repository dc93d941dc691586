use Rattle.livemd_write.proofs.Blocks.{fence_put}
use Rattle.livemd_write.proofs.fences.push_fence.Goals as goal

pub returns : goal.returns
returns c = record {
  ok = fence_put _ _ _ _ _ _ _ _ _ c.args.info.now c.args.text.now c.fence_len-count.result c.fence_len-count.ensures c.in_ok-push_str.ensures.bytes c.in_ok-push_marks.ensures.ok c.in_ok-push_str-2.ensures.bytes c.in_ok-push_str-3.ensures.bytes c.in_ok-push_str-4.ensures.bytes c.in_ok-push_str-5.ensures.bytes c.in_ok-push_marks-2.ensures.ok c.in_ok-push_str-6.ensures.bytes;
}
