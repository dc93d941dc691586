use Rattle.std.proofs.Common.{◌∷◌, [], refl, ap}
use Rattle.std.specs.Prelude.{encode_utf8_all}
use Rattle.livemd_format.specs.Write.{kept_blocks, line_block}
use Rattle.livemd_write.proofs.Blocks.{drop_last, drop_turn, left, puts_same}
use Rattle.livemd_write.proofs.page.push_kept.Goals as goal

pub loop-line-preserved : goal.loop-line-preserved
loop-line-preserved c =
    drop_turn
    kept_blocks
    (λ line. line_block (encode_utf8_all line) ∷ [])
    (λ x xs. refl)
    _
    _
    c.line-item.result
    _
    _
    _
    (left c.args.before.now c.loop-line.line-index c.line-item.result c.loop-line-test.true c.line-item.is)
    c.loop-line.invariant
    (puts_same _ _ _ _ (ap (λ l. line_block l ∷ []) c.as_str.ensures.bytes) c.in_ok-push_line.ensures.ok)

pub returns : goal.returns
returns c = record { ok = drop_last kept_blocks refl c.args.before.now c.loop-line.line-index _ _ _ c.loop-line-test.false c.loop-line.invariant }
