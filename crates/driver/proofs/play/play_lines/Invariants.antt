use Rattle.std.proofs.Common.{◌≤◌, take}
use Rattle.notebook.specs.declared.parts.Parts.{Parts}
use Rattle.driver.specs.Around.{output}
use Rattle.driver.specs.Player.{Stage}
use Rattle.driver.specs.Standing.{Stands}
use Rattle.driver.specs.Playing.{HavePlayed}
use Rattle.driver.proofs.play.play_lines.Given as goal

-- the lines so far are played and written; the sink's count has not fallen
abbrev pub invariant-loop-line : goal.invariant-loop-line
invariant-loop-line g l = record {
  way : (n0 : Parts) → (s : Stage) → Stands (record { opening = n0; names = l.names }) l.initial.player s
      → HavePlayed (record { opening = n0; names = l.names }) (take l.line-index l.lines) l.initial.player l.player s (output g.K.Sink.writes g.K.Sink.faults g.K.Sink.written l.initial.sink) (output g.K.Sink.writes g.K.Sink.faults g.K.Sink.written l.sink);
  counts : g.K.Sink.faults l.initial.sink ≤ g.K.Sink.faults l.sink;
}
