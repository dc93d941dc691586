use Rattle.std.proofs.Common.{◌++◌}
use Rattle.std.specs.String.{string_bytes}
use Rattle.livemd_lines.specs.Lines.{lines}
use Rattle.livemd_lines.specs.Kinds.{kinds_of}
use Rattle.livemd_lines.specs.Written.{text_of_lines}
use Rattle.livemd_lines.proofs.Walks.{Leaves}
use Rattle.livemd_format.specs.Write.{forced_lines}
use Rattle.livemd_write.proofs.page.push_lines.Given as goal

-- what was put and the lines that are left give all of them
abbrev pub invariant-loop-piece : goal.invariant-loop-piece
invariant-loop-piece l =
    Leaves l.source l.yielded l.around (λ ks. string_bytes l.out ++ text_of_lines (forced_lines ks)) (string_bytes l.initial.out ++ text_of_lines (forced_lines (kinds_of (lines l.source))))
