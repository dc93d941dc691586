use Rattle.std.proofs.Common.{◌-◌, length}
use Rattle.utf16_text.specs.Bytes.{IsFrontOf}
use Rattle.utf16_text.proofs.front_within.Given as goal

abbrev pub invariant-loop-block : goal.invariant-loop-block
invariant-loop-block l = IsFrontOf l.bytes l.most l.front.bytes l.front.units

abbrev pub decreases-loop-block : goal.decreases-loop-block
decreases-loop-block l = length l.bytes - l.front.bytes
