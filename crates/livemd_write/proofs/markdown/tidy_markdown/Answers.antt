use Rattle.std.proofs.Common.{refl}
use Rattle.livemd_write.proofs.Passaging.{passage_tidy}
use Rattle.livemd_write.proofs.markdown.tidy_markdown.Goals as goal

pub returns : goal.returns
returns c = passage_tidy c.args.text.now c.in_ok-out.field-0 _ _ c.in_ok-out.field-0.left c.in_ok-out.ensures refl refl c.in_ok-close.ensures.ok
