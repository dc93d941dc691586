use Rattle.std.proofs.Common.{◌≡◌, ◌+◌, [], length}
use Rattle.livemd_lines.specs.Lines.{lines}
use Rattle.livemd_lines.specs.Kinds.{kinds_of}
use Rattle.livemd_lines.proofs.Walks.{Leaves}
use Rattle.livemd_format.specs.Items.{items}
use Rattle.livemd_read.specs.Resume.{resume}
use Rattle.livemd_read.specs.Views.{IsDone, cut_of}
use Rattle.livemd_read.proofs.take.read_items.Given as goal

-- what was read and the lines that are left give the items of all
abbrev pub invariant-loop-piece : goal.invariant-loop-piece
invariant-loop-piece l = record {
  number : l.number ≡ length l.yielded + 1;
  done : IsDone l.done;
  all : Leaves l.fn.text l.yielded l.around (resume (cut_of l.done) l.pending l.number) (items [] 1 0 (kinds_of (lines l.fn.text)));
}
