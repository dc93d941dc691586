use Rattle.std.proofs.Common.{◌++◌, ◌∷◌, [], ap}
use Rattle.std.specs.Prelude.{encode_utf8_all}
use Rattle.livemd_format.specs.Write.{line_block}
use Rattle.livemd_write.proofs.Blocks.{puts_same}
use Rattle.livemd_write.proofs.page.push_tidy_heading.Goals as goal

pub returns : goal.returns
returns c = record {
  ok = puts_same _ _ _ _ (ap (λ t. line_block (c.args.mark.now ++ encode_utf8_all t) ∷ []) c.in_ok-name.ensures.tidy) c.in_ok-push_heading.ensures.ok;
  characters = c.in_ok-name.ensures.characters;
}
