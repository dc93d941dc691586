use Rattle.delta.proofs.PackTurns.{Packing}
use Rattle.delta.proofs.moves.pack_runs.Given as goal

abbrev pub invariant-loop-run : goal.invariant-loop-run
invariant-loop-run l = Packing l.runs l.run-index l.packer
