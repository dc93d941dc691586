use Rattle.std.proofs.Common.{sym, ap, ◌∙◌}
use Rattle.std.specs.Prelude.{◌==◌}
use Rattle.livemd_lines.proofs.Marks.{member_count-is}
use Rattle.livemd_lines.proofs.metadata.has_one.Goals as goal

pub returns : goal.returns
returns c = ap (λ n. n == 1) (c.len.ensures.len ∙ sym (member_count-is c.args.members.now.entries))
