use Rattle.std.proofs.Common.{◌∷◌, ◌∙◌, [], refl, ap, subst, drop_of_length-le, sym}
use Rattle.std.specs.Prelude.{encode_utf8_all}
use Rattle.std.specs.List.{AllByRecursion}
use Rattle.utf16_text.specs.Units.{AreScalars}
use Rattle.livemd_format.specs.Tidy.{changed, clean, tidy_before}
use Rattle.livemd_format.specs.Write.{kept_blocks, line_block}
use Rattle.livemd_write.proofs.Blocks.{drop_last, drop_turn, left, puts_same}
use Rattle.livemd_write.proofs.Telling.{turn}
use Rattle.livemd_write.proofs.page.push_tidy_kept.Goals as goal

pub loop-line-preserved : goal.loop-line-preserved
loop-line-preserved c = record {
  put = drop_turn
      (λ ls. kept_blocks (tidy_before ls))
      (λ line. line_block (encode_utf8_all (changed clean line)) ∷ [])
      (λ x xs. refl)
      _
      _
      c.line-item.result
      _
      _
      _
      (left c.args.before.now c.loop-line.line-index c.line-item.result c.loop-line-test.true c.line-item.is)
      c.loop-line.invariant.put
      (puts_same _ _ _ _ (ap (λ l. line_block l ∷ []) (c.as_str.ensures.bytes ∙ ap encode_utf8_all c.in_ok-line.ensures.tidy)) c.in_ok-push_line.ensures.ok);
  characters = turn (AllByRecursion AreScalars) _ c.args.before.now c.loop-line.line-index c.line-item.result (left c.args.before.now c.loop-line.line-index c.line-item.result c.loop-line-test.true c.line-item.is) c.loop-line.invariant.characters (λ g. (c.in_ok-line.ensures.characters, g));
}

pub returns : goal.returns
returns c = record {
  ok = drop_last (λ ls. kept_blocks (tidy_before ls)) refl c.args.before.now c.loop-line.line-index _ _ _ c.loop-line-test.false c.loop-line.invariant.put;
  characters = c.loop-line.invariant.characters (subst (AllByRecursion AreScalars) (sym (drop_of_length-le c.args.before.now c.loop-line-test.false)) tt);
}
