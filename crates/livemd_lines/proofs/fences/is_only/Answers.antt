use Rattle.std.proofs.Common.{length, ap, ◌∙◌}
use Rattle.std.specs.Prelude.{◌==◌}
use Rattle.livemd_lines.specs.Kinds.{byte_of, is_byte}
use Rattle.blanks.proofs.Fronts.{all-none_behind}
use Rattle.livemd_lines.proofs.fences.is_only.Goals as goal

pub returns : goal.returns
returns c =
    c.is_empty.ensures ∙ (ap (λ w. length w == 0) c.behind_run.ensures.rest ∙ all-none_behind (is_byte (byte_of c.args.mark)) c.args.text.now)
