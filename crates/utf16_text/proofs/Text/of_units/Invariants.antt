use Rattle.std.proofs.Common.{◌≡◌, ◌++◌, drop}
use Rattle.utf16_text.specs.Units.{decoded}
use Rattle.utf16_text.proofs.Text.of_units.Given as goal

abbrev pub invariant-loop-i : goal.invariant-loop-i
invariant-loop-i l = l.made ++ decoded (drop l.i l.units) ≡ decoded l.units
