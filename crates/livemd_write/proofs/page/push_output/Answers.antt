use Rattle.std.proofs.Common.{◌∷◌, [], ap, ◌∙◌}
use Rattle.std.specs.Prelude.{encode_utf8_all}
use Rattle.livemd_format.specs.Write.{fence_block, line_block, output_line}
use Rattle.livemd_write.proofs.Blocks.{puts_same, puts_then}
use Rattle.livemd_write.proofs.page.push_output.Goals as goal

pub returns : goal.returns
returns c = record {
  ok = puts_then
      _
      _
      _
      (line_block output_line ∷ [])
      (fence_block (encode_utf8_all c.args.output.now.info) (encode_utf8_all c.args.output.now.text) ∷ [])
      c.in_ok-push_line.ensures.ok
      (puts_same _ _ _ _ (ap (λ i. fence_block i c.as_str-2.result.now ∷ []) c.as_str.ensures.bytes ∙ ap (λ t. fence_block (encode_utf8_all c.args.output.now.info) t ∷ []) c.as_str-2.ensures.bytes) c.in_ok-push_fence.ensures.ok);
}
