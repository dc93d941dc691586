use Rattle.std.proofs.Common.{◌≤◌, length}
use Rattle.script.proofs.Loop.{IsReading}
use Rattle.script.proofs.read.read_script.Given as goal

abbrev pub invariant-loop-rest : goal.invariant-loop-rest
invariant-loop-rest l = record {
  small : length l.bytes ≤ 8_388_608;
  reading : IsReading l.bytes l.rest l.line l.script;
}

abbrev pub decreases-loop-rest : goal.decreases-loop-rest
decreases-loop-rest l = length l.rest
