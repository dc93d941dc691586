use Rattle.script.proofs.Cuts.{unwrap_or-position, is_feed}
use Rattle.script.proofs.cut.line_len.Goals as goal

pub returns : goal.returns
returns c = let e = unwrap_or-position is_feed c.args.bytes.now in (cc)
