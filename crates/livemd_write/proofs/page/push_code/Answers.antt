use Rattle.std.proofs.Common.{◌∷◌, [], ap, codes}
use Rattle.std.specs.Prelude.{encode_utf8_all}
use Rattle.std.specs.List.{flat_map}
use Rattle.livemd_format.specs.Write.{fence_block, saved_blocks}
use Rattle.livemd_write.proofs.Blocks.{puts_same, puts_then}
use Rattle.livemd_write.proofs.page.push_code.Goals as goal

pub returns : goal.returns
returns c = record {
  ok = puts_then
      _
      _
      _
      (fence_block (codes "elixir") (encode_utf8_all c.args.cell.now.source) ∷ [])
      (flat_map saved_blocks c.args.cell.now.saved)
      (puts_same _ _ _ _ (ap (λ t. fence_block (codes "elixir") t ∷ []) c.as_str.ensures.bytes) c.in_ok-push_fence.ensures.ok)
      (puts_same _ _ _ _ (ap (flat_map saved_blocks) c.as_slice.ensures) c.in_ok-push_saved.ensures.ok);
}
