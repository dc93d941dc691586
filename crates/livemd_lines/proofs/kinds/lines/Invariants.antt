use Rattle.std.proofs.Common.{◌++◌}
use Rattle.livemd_lines.specs.Lines.{lines}
use Rattle.livemd_lines.specs.Kinds.{kinds_of}
use Rattle.livemd_lines.specs.Views.{lines_view}
use Rattle.livemd_lines.proofs.Walks.{Leaves}
use Rattle.livemd_lines.proofs.kinds.lines.Given as goal

-- the lines done and those that are left are all
abbrev pub invariant-loop-piece : goal.invariant-loop-piece
invariant-loop-piece l = Leaves l.fn.text l.yielded l.around (λ ls. lines_view l.done.items ++ ls) (kinds_of (lines l.fn.text))
