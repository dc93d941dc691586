use Rattle.std.proofs.Common.{ap}
use Rattle.livemd_format.specs.Write.{setup_blocks}
use Rattle.livemd_write.proofs.Blocks.{puts_same}
use Rattle.livemd_write.proofs.page.push_tidy_setup.Goals as goal

pub returns : goal.returns
returns c = record {
  ok = puts_same _ _ _ _ (ap setup_blocks c.in_ok-tidy.ensures.tidy) c.in_ok-push_setup.ensures.ok;
  characters = c.in_ok-tidy.ensures.characters;
}
