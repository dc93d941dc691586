use Rattle.std.proofs.Common.{◌≡◌}
use Rattle.utf16_text.specs.Units.{units}
use Rattle.utf16_text.proofs.units_of.Given as goal

abbrev pub invariant-loop-c : goal.invariant-loop-c
invariant-loop-c l = l.made.items ≡ units l.yielded
